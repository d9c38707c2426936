use Rattle.std.proofs.Common.{◌≡◌, ◌<◌, List, ℕ, eqb, false}
use Rattle.automaton.specs.Rule.{Rule}
use Rattle.automaton.specs.Layers.{Holds, rule_at}
use Rattle.automaton.proofs.find_tag.Given as goal

-- no rule before k has the tag
abbrev pub invariant-loop-k : goal.invariant-loop-k
invariant-loop-k l = (rs : List Rule) → Holds l.table rs → (j : ℕ) → j < l.k → eqb (rule_at rs j).tag l.tag ≡ false
