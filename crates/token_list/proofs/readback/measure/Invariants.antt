-- `measure`: the first tokens lie in the pool and have `total` bytes.
use Rattle.token_list.proofs.Settling.{Spanning}
use Rattle.token_list.proofs.readback.measure.Given as goal

abbrev pub invariant-loop-k : goal.invariant-loop-k
invariant-loop-k l = Spanning l.records l.pool l.total l.k
