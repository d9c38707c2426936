-- The bytes that rules use, and refusal 23: the lowest byte that rules of both kinds use.
use Rattle.std.specs.Prelude.{Bool, ◌&&◌, List, ℕ, eqb}
use Rattle.std.proofs.Math.Option.{Option}
use Rattle.automaton.specs.Choice.{any}
use Rattle.automaton.specs.Rule.{Rule, used}
use Rattle.byte_set.specs.Lowest.{lowest_from}
use Rattle.shared_bytes.specs.Kinds.{plain_kind, separator_kind}

-- some rule of the kind uses the byte
unfoldable pub used_by_kind : ℕ → List Rule → ℕ → Bool
used_by_kind kind rules b = any (λ (r : Rule). eqb r.kind kind && used r b) rules

unfoldable pub shared : List Rule → ℕ → Bool
shared rules b = used_by_kind plain_kind rules b && used_by_kind separator_kind rules b

unfoldable pub shared_byte : List Rule → Option ℕ
shared_byte rules = lowest_from (shared rules) 0 256
