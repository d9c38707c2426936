-- `print_rules`: 16, what the first pass or the third finds, or what `write` answers.
use Rattle.std.proofs.Common.{ap, arith}
use Rattle.std.specs.Prelude.{Err}
use Rattle.std.proofs.lemmas.Result.{err_from_is_err_and}
use Rattle.record.proofs.Encoding.{count_encoded}
use Rattle.printer.proofs.ByRules.{answered_many, clean_written}
use Rattle.printer.proofs.Rehearsing.{spanned_laid}
use Rattle.slices.proofs.Passes.{counted_extended, counted_clean}
use Rattle.slices.proofs.printing.print_rules.Goals as goal

pub returns-then-tokens-gt-TOKENS : goal.returns-then-tokens-gt-TOKENS
returns-then-tokens-gt-TOKENS c = λ rs h. answered_many rs _ _ _ (omega (arith, count_encoded c.args.tokens.now)) (ap Err c.at.ensures)

pub returns-in_err-total : goal.returns-in_err-total
returns-in_err-total c = λ rs h.
    let p = err_from_is_err_and c.from_residual.result c.from_residual.ensures.1 in
    rw (p.1, p.2) (c.in_err-total.ensures.counts rs h _)

pub returns-in_err-read_back : goal.returns-in_err-read_back
returns-in_err-read_back c = λ rs h.
    let p = err_from_is_err_and c.from_residual-in_err-read_back.result c.from_residual-in_err-read_back.ensures.1 in
    let w = c.in_ok-total.ensures.counts rs h in
    rw (p.1, p.2)
    (counted_extended w _ (omega (arith, count_encoded c.args.tokens.now))
    (c.in_err-read_back.ensures rs _ h w.faultless (spanned_laid w.spanned c.join_tokens.ensures)))

pub returns : goal.returns
returns c = λ rs h.
    let w = c.in_ok-total.ensures.counts rs h in
    let l = spanned_laid w.spanned c.join_tokens.ensures in
    clean_written rs _ _ _ (omega (arith, count_encoded c.args.tokens.now))
    (counted_clean w l (c.in_ok-read_back.ensures rs _ h w.faultless l)) c.write.ensures
