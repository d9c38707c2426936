-- `put_token`: a separator goes in where `follows` says so.
use Rattle.std.proofs.Common.{sym, ◌∙◌, drop}
use Rattle.record.specs.Tokens.{bytes_in}
use Rattle.output.proofs.Placing.{behind}
use Rattle.spacing.proofs.Putting.{token_alone, token_both, token_full, token-ahead}
use Rattle.spacing.proofs.spelling.put_token.Goals as goal

pub is_due-requires-clause-start_in_bounds : goal.is_due-requires-clause-start_in_bounds
is_due-requires-clause-start_in_bounds c = (c.put_token.ensures.at _ c.in_ok-start.was).within

pub returns-then-is_due : goal.returns-then-is_due
returns-then-is_due c = λ rs h a us e l.
    let s = c.put_token.ensures.at _ c.in_ok-start.was in
    token_both rs c.args.mode c.args.pool.now c.args.token c.args.separator us (drop c.args.at c.put_token.new.scratch)
    (behind c.args.at (bytes_in c.args.pool.now c.args.token) c.args.scratch.now s c.put_token.auto.scratch c.requires.at_in_bounds ∙ e)
    (sym c.if-is_due.true
    ∙ c.is_due.ensures rs h _ us
    (token-ahead rs c.args.mode c.args.pool.now c.args.token c.args.separator us (drop c.args.at c.args.scratch.now) e a c.requires.in_pool l s.laid))
    c.put_both.ensures

pub returns : goal.returns
returns c = λ rs h a us e l.
    let s = c.put_token.ensures.at _ c.in_ok-start.was in
    token_alone rs c.args.mode c.args.pool.now c.args.token c.args.separator us (drop c.args.at c.args.scratch.now) e
    (sym c.if-is_due.false
    ∙ c.is_due.ensures rs h _ us
    (token-ahead rs c.args.mode c.args.pool.now c.args.token c.args.separator us (drop c.args.at c.args.scratch.now) e a c.requires.in_pool l s.laid))
    c.in_ok-start.was c.put_token.ensures

pub returns-in_err-start : goal.returns-in_err-start
returns-in_err-start c = λ rs h a us e l.
    rw c.from_residual.ensures
    (token_full rs c.args.mode c.args.pool.now c.args.token c.args.separator us (drop c.args.at c.args.scratch.now) e c.in_err-start.was
    c.put_token.ensures)
