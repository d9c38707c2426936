-- `read_expression`: by what reading the alternatives answers.
use Rattle.std.proofs.lemmas.Result.{err_from_is_err_and}
use Rattle.expression_reader.proofs.Whole.{whole_right, whole_rest, whole_wrong}
use Rattle.expression_reader.proofs.read_expression.Goals as goal

pub returns-in_err-part : goal.returns-in_err-part
returns-in_err-part c =
    let p = err_from_is_err_and c.from_residual.result c.from_residual.ensures.1 in
    rw (p.1, p.2) (whole_wrong c.in_err-part.ensures)

pub returns-then-part-text : goal.returns-then-part-text
returns-then-part-text c = whole_rest c.in_ok-part.ensures c.if-part-text.true

pub returns-else-part-text : goal.returns-else-part-text
returns-else-part-text c = whole_right c.in_ok-part.ensures c.if-part-text.false
