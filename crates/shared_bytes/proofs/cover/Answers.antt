-- A transition more, and no more.
use native.Mathlib.Omega.{arith}
use Rattle.used_bytes.proofs.Marking.{together_end}
use Rattle.shared_bytes.proofs.Gathering.{covering_next, left_end}
use Rattle.shared_bytes.proofs.cover.Goals as goal

pub loop-at-preserved : goal.loop-at-preserved
loop-at-preserved c = λ m t. covering_next (c.loop-at.invariant m t) c.loop-at-test.true c.low-low.ensures c.high.ensures c.mark_range.ensures

pub returns : goal.returns
returns c = λ m t. together_end (left_end (c.loop-at.invariant m t) (omega arith))
