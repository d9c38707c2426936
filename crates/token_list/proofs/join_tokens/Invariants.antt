-- `join_tokens`: the first tokens are written.
use Rattle.token_list.proofs.Passes.{Joining}
use Rattle.token_list.proofs.join_tokens.Given as goal

abbrev pub invariant-loop-k : goal.invariant-loop-k
invariant-loop-k l = Joining l.records l.pool l.initial.out l.out l.at l.k
