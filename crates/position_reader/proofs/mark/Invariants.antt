-- `mark`: the bytes below `b` are marked. Assumes nothing.
use Rattle.std.proofs.Common.{◌&&◌, leb, ltb}
use Rattle.position_reader.specs.Steps.{Marked}
use Rattle.position_reader.proofs.mark.Given as goal

abbrev pub invariant-loop-b : goal.invariant-loop-b
invariant-loop-b l = Marked (λ x. leb l.low x && (ltb x l.b && leb x l.high)) l.added l.initial.takers l.takers
