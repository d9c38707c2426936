-- `print_rules` answers `separated_rules`.
use Rattle.std.proofs.Common.{sym, ◌∙◌}
use Rattle.std.proofs.lemmas.Result.{err_from_is_err_and}
use Rattle.separated.proofs.Answering.{unrefused, answered_fault, answered_passed}
use Rattle.separated.proofs.print_rules.Goals as goal

pub print_passed-requires-clause-passed : goal.print_passed-requires-clause-passed
print_passed-requires-clause-passed c =
    record {
      held = c.requires.held;
      unrefused = λ rs h. unrefused rs c.args.separator c.args.mode c.args.records.now c.args.pool.now (sym c.in_ok-check_call.was ∙ c.check_call.ensures rs h);
    }

pub returns : goal.returns
returns c = λ rs h.
    answered_passed rs c.args.separator c.args.mode c.args.records.now c.args.pool.now _ (sym c.in_ok-check_call.was ∙ c.check_call.ensures rs h)
    (c.print_passed.ensures rs h)

pub returns-in_err-check_call : goal.returns-in_err-check_call
returns-in_err-check_call c = λ rs h.
    let p = err_from_is_err_and c.from_residual.result c.from_residual.ensures.1 in
    rw (p.1, p.2)
    (answered_fault rs c.args.separator c.args.mode c.args.records.now c.args.pool.now _ (sym c.in_err-check_call.was ∙ c.check_call.ensures rs h))
