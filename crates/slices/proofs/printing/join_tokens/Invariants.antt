-- `join_tokens`: the first tokens are written.
use Rattle.record.specs.Encoding.{encoded}
use Rattle.token_list.proofs.Passes.{Joining}
use Rattle.slices.proofs.printing.join_tokens.Given as goal

abbrev pub invariant-loop-token : goal.invariant-loop-token
invariant-loop-token l = Joining (encoded l.tokens) l.pool l.initial.out l.out l.at l.token-index
