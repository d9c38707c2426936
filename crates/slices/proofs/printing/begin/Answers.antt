-- `begin`: by the book, or by the number of tokens.
use Rattle.slices.proofs.Staging.{begins_book, begins_refused}
use Rattle.slices.proofs.printing.begin.Goals as goal

pub returns-in-Ok : goal.returns-in-Ok
returns-in-Ok c = begins_book c.load.ensures c.in-Ok.is c.begin_count.ensures

pub returns-in-Err : goal.returns-in-Err
returns-in-Err c = begins_refused c.load.ensures c.in-Err.is c.refuse.ensures
