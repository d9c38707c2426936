-- `read_bracket`: by what reading the list answers. Assumes nothing.
use Rattle.std.proofs.Common.{arith}
use Rattle.position_reader.proofs.Lists.{list_behind}
use Rattle.position_reader.proofs.Reading.{bracket_found, bracket_fault}
use Rattle.std.proofs.lemmas.Result.{err_from_is_err_and}
use Rattle.position_reader.proofs.read_bracket.Goals as goal

pub returns : goal.returns
returns c =
    bracket_found _ _ _ _ _ _ _ _ _ _ c.bit.ensures c.in_ok-next.ensures c.position_part.ensures

pub returns-in_err-next : goal.returns-in_err-next
returns-in_err-next c =
    let p = err_from_is_err_and c.from_residual.result c.from_residual.ensures.1 in
    rw (p.1, p.2) (bracket_fault _ _ _ _ _ _ _ c.in_err-next.ensures)

pub position_part-requires : goal.position_part-requires
position_part-requires c = omega (arith, list_behind c.in_ok-next.ensures c.requires.0)
