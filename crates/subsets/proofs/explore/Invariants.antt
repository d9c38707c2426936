-- The first k states are gone through. Assumes nothing.
use Rattle.std.proofs.Common.{◌-◌}
use Rattle.subsets.proofs.Exploring.{Exploring}
use Rattle.subsets.proofs.explore.Given as goal

abbrev pub invariant-loop-k : goal.invariant-loop-k
invariant-loop-k l = Exploring l.first l.follow l.takers l.sets l.targets l.count l.k

abbrev pub decreases-loop-k : goal.decreases-loop-k
decreases-loop-k l = 255 - l.k
