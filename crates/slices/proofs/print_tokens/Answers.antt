-- `print_tokens`: by the book, or by its rules.
use Rattle.std.proofs.lemmas.Result.{err_from_is_err_and}
use Rattle.printer.proofs.Outcomes.{answered_book, answered_refused}
use Rattle.slices.proofs.print_tokens.Goals as goal

pub returns-in_err-load : goal.returns-in_err-load
returns-in_err-load c =
    let p = err_from_is_err_and c.from_residual.result c.from_residual.ensures.1 in
    let a = answered_refused c.load.ensures c.in_err-load.was _ c.args.pool.now c.args.out.now in
    rw (p.1, p.2) (a.answer, a.out)

pub returns : goal.returns
returns c =
    let a = answered_book c.load.ensures c.in_ok-load.was _ _ _ _ _ c.print_rules.ensures in
    (a.answer, a.out)
