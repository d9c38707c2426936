-- `run`: every byte passed stays in the state.
use Rattle.builtin.specs.Layers.{Stays}
use Rattle.builtin.proofs.scanner.run.Given as goal

abbrev pub invariant-loop-i : goal.invariant-loop-i
invariant-loop-i l = Stays l.s l.text l.from l.i
