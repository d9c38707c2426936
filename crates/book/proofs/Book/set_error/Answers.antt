-- What is said of a state that is given once. Assumes nothing.
use mathlib.Core.Path.{sym, ◌∙◌}
use native.Mathlib.Omega.{arith}
use Rattle.std.proofs.lemmas.Result.{err_from_is_err_and}
use Rattle.command.specs.declared.Command.TheVariants.{Error}
use Rattle.book.specs.Draft.{with_error, apply}
use Rattle.book.proofs.Fine.{apply_good}
use Rattle.book.proofs.Steps.{error_given, once_refused, once_given}
use Rattle.book.proofs.Book.set_error.Goals as goal

pub returns-in_err-set_once : goal.returns-in_err-set_once
unfolding apply
returns-in_err-set_once c = λ tb rows len d h i.
    let p = err_from_is_err_and c.from_residual.result c.from_residual.ensures.1 in
    let e = rw (error_given h) at (sym c.in_err-set_once.was ∙ c.set_once.ensures) in
    rw (p.1, p.2) (once_refused tb rows c.args.at _ c.args.s d.error (with_error d c.args.s) e)

pub returns : goal.returns
unfolding apply
returns c = λ tb rows len d h i.
    let e = rw (error_given h) at (sym c.in_ok-set_once.was ∙ c.set_once.ensures) in
    once_given tb rows _ _ c.args.s d.error (with_error d c.args.s) e
    (apply_good d (Error c.args.s) c.args.at len h.fine tt (sym i)) h.stored (λ e. rw (e, h.same)) (omega arith)
