-- One byte, which no loop marks.
use native.Mathlib.Omega.{arith}
use Rattle.byte_set.proofs.Marking.{ranging_end}
use Rattle.byte_set.proofs.mark_range.Goals as goal

pub returns-else-low-high : goal.returns-else-low-high
returns-else-low-high c = ranging_end c.loop-b.invariant.marked (omega arith) c.loop-b.invariant.near
