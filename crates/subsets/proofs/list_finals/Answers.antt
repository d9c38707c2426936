-- The final states by their sets. Assumes nothing.
use Rattle.std.proofs.Common.{arith}
use Rattle.subsets.proofs.Finals.{listing_start, listing_next, listing-end}
use Rattle.subsets.proofs.list_finals.Goals as goal

pub loop-k-init : goal.loop-k-init
loop-k-init c = listing_start _ _ _ c.put_if-n.ensures

pub loop-k-preserved : goal.loop-k-preserved
loop-k-preserved c = listing_next c.loop-k.invariant c.put_if-n-in-loop-k.ensures

pub returns : goal.returns
returns c = (omega arith, listing-end c.loop-k.invariant (omega arith))
