-- The first k sets are gone through. Assumes nothing.
use Rattle.subsets.proofs.Finals.{Listing}
use Rattle.subsets.proofs.list_finals.Given as goal

abbrev pub invariant-loop-k : goal.invariant-loop-k
invariant-loop-k l = Listing l.last l.empty l.sets l.finals l.n l.k
