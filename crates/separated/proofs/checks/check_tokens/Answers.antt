-- `check_tokens`: the first token with a fault of a plain token.
use Rattle.std.proofs.Common.{rules}
use Rattle.separated.specs.Refusals.{plain_fault}
use Rattle.separated.proofs.Checking.{plain_fault_lem}
use Rattle.separated.proofs.checks.check_tokens.Goals as goal

pub returns : goal.returns
returns c = λ rs h. c.first_refused.ensures (plain_fault rs c.args.pool.now) (λ r o f p. plain_fault_lem rs _ _ (search rules))
