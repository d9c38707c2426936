-- `cover`: the transitions left and the marks together.
use Rattle.automaton.specs.Rule.{Rule}
use Rattle.automaton.specs.Layers.{Table}
use Rattle.shared_bytes.proofs.Gathering.{Covering}
use Rattle.shared_bytes.proofs.cover.Given as goal

abbrev pub invariant-loop-at : goal.invariant-loop-at
invariant-loop-at l = (m : Rule) → Table l.table l.rule m → Covering l.table l.first m.transitions l.initial.set l.at l.set
