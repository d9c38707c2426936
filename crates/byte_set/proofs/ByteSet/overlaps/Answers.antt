-- One more byte.
use Rattle.byte_set.proofs.Marking.{some_next, some_none}
use Rattle.byte_set.proofs.ByteSet.overlaps.Goals as goal

pub loop-b-init : goal.loop-b-init
loop-b-init c = some_none _

pub loop-b-preserved : goal.loop-b-preserved
loop-b-preserved c = some_next _ c.loop-b.b c.loop-b.invariant
