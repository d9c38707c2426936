-- `sweep`: the states that have been gone through.
use Rattle.used_bytes.proofs.Useful.{Overs}
use Rattle.used_bytes.proofs.sweeping.sweep.Given as goal

abbrev pub invariant-loop-k : goal.invariant-loop-k
invariant-loop-k l = Overs l.table l.stamp l.spots l.n l.initial.good l.initial.queue l.initial.waiting l.initial.rows
    l.good l.queue l.waiting l.rows l.end l.set l.k
