use Rattle.automaton.specs.Layers.{Chained}
use Rattle.walker.proofs.Finding.{Finding}
use Rattle.walker.proofs.find.Given as goal

abbrev pub invariant-loop-h : goal.invariant-loop-h
invariant-loop-h l = Chained l.table l.h × Finding l.table l.head l.byte l.h

abbrev pub decreases-loop-h : goal.decreases-loop-h
decreases-loop-h l = l.h
