-- `list_step`: by what reading the item answers. Assumes nothing.
use Rattle.position_reader.proofs.Lists.{list_step, list_fault}
use Rattle.std.proofs.lemmas.Result.{err_from_is_err_and}
use Rattle.position_reader.proofs.list_step.Goals as goal

pub returns-in_err-item : goal.returns-in_err-item
returns-in_err-item c =
    let p = err_from_is_err_and c.from_residual.result c.from_residual.ensures.1 in
    rw (p.1, p.2) (list_fault _ _ _ c.in_err-item.ensures)

pub returns : goal.returns
returns c = list_step _ _ _ _ _ _ _ _ c.in_ok-item.ensures c.mark.ensures _ c.after_item.ensures
