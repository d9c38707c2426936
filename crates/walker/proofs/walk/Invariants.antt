use Rattle.automaton.specs.Rule.{Rule}
use Rattle.automaton.specs.Layers.{Table}
use Rattle.walker.proofs.Walking.{Walk}
use Rattle.walker.proofs.walk.Given as goal

abbrev pub invariant-loop-i : goal.invariant-loop-i
invariant-loop-i l = (m : Rule) → Table l.table l.rule m → Walk l.table l.rule m l.text l.spot l.len l.i
