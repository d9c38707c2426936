-- The kinds of rules and of tags.
use Rattle.std.specs.Prelude.{Bool, ◌&&◌, List, ℕ, eqb}
use Rattle.automaton.specs.Choice.{any}
use Rattle.automaton.specs.Rule.{Rule}

-- the kinds of a RULE command
abbrev pub plain_kind : ℕ
plain_kind = 0

abbrev pub separator_kind : ℕ
separator_kind = 1

-- a separator rule has the tag
unfoldable pub separates : List Rule → ℕ → Bool
separates rules tag = any (λ (r : Rule). eqb r.tag tag && eqb r.kind separator_kind) rules
