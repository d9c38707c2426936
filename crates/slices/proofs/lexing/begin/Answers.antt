-- `begin`: by the book, or by its rules.
use Rattle.slices.proofs.Starting.{begun_book, begun_refused}
use Rattle.slices.proofs.lexing.begin.Goals as goal

pub returns-in-Ok : goal.returns-in-Ok
returns-in-Ok c = begun_book c.load.ensures c.in-Ok.is c.min.ensures c.begin_rules.ensures

pub returns-in-Err : goal.returns-in-Err
returns-in-Err c = begun_refused c.load.ensures c.in-Err.is c.refuse.ensures
