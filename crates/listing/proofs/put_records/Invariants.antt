-- `put_records`: the lines of the first k records are written.
use Rattle.listing.proofs.Listing.{Going}
use Rattle.listing.proofs.put_records.Given as goal

abbrev pub invariant-loop-k : goal.invariant-loop-k
invariant-loop-k l = Going l.initial.out l.records l.n l.out l.at l.k
