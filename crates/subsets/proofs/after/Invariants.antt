-- The positions below p are gone through. Assumes nothing.
use Rattle.std.proofs.Common.{◌≡◌}
use Rattle.subsets.specs.States.{after_below}
use Rattle.subsets.proofs.after.Given as goal

abbrev pub invariant-loop-p : goal.invariant-loop-p
invariant-loop-p l = l.all ≡ after_below l.p l.follow l.set
