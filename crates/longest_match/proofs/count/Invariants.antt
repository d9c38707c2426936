use Rattle.std.proofs.Common.{List, ◌-◌, length}
use Rattle.automaton.specs.Rule.{Rule}
use Rattle.automaton.specs.Layers.{Holds}
use Rattle.longest_match.proofs.Cutting.{Cutting}
use Rattle.longest_match.proofs.count.Given as goal

-- for any rules that the table holds
abbrev pub invariant-loop-at : goal.invariant-loop-at
invariant-loop-at l = (rs : List Rule) → Holds l.table rs → Cutting rs l.text l.at l.tokens

abbrev pub decreases-loop-at : goal.decreases-loop-at
decreases-loop-at l = length l.text - l.at
