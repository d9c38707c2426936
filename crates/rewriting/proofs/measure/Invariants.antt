-- `measure`: `Measuring`.
use Rattle.std.proofs.Common.{length, ◌-◌}
use Rattle.rewriting.proofs.Writing.{Measuring}
use Rattle.rewriting.proofs.measure.Given as goal

abbrev pub invariant-loop-at : goal.invariant-loop-at
invariant-loop-at l = Measuring l.book l.total l.at

abbrev pub decreases-loop-at : goal.decreases-loop-at
decreases-loop-at l = length l.book - l.at
