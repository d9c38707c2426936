-- `lex_tokens`: by the book, or by its rules.
use Rattle.std.proofs.lemmas.Result.{err_from_is_err_and}
use Rattle.lexer.proofs.Outcomes.{answered_book, answered_refused}
use Rattle.slices.proofs.lex_tokens.Goals as goal

pub returns-in_err-load : goal.returns-in_err-load
returns-in_err-load c =
    let p = err_from_is_err_and c.from_residual.result c.from_residual.ensures.1 in
    let a = answered_refused c.load.ensures c.in_err-load.was c.args.text.now _ _ in
    rw (p.1, p.2) (a.answer, a.records, a.masks)

pub returns : goal.returns
returns c =
    let a = answered_book c.load.ensures c.in_ok-load.was _ _ _ _ _ _ c.lex_rules.ensures in
    (a.answer, a.records, a.masks)
