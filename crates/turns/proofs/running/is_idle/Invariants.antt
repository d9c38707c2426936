-- `is_idle`: the rules so far start in their error states.
use Rattle.std.proofs.Common.{◌≡◌, List, ◌<◌, ℕ}
use Rattle.automaton.specs.Rule.{Rule}
use Rattle.automaton.specs.Layers.{Holds, rule_at}
use Rattle.turns.proofs.running.is_idle.Given as goal

abbrev pub invariant-loop-k : goal.invariant-loop-k
invariant-loop-k l = (rs : List Rule) → Holds l.table rs → (j : ℕ) → j < l.k → (rule_at rs j).start ≡ (rule_at rs j).error
