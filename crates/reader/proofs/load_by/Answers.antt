-- The cells are all zero. Assumes nothing.
use Rattle.reader.proofs.Loading.{rows_fresh}
use Rattle.reader.proofs.load_by.Goals as goal

pub load_rows-requires-clause-fresh : goal.load_rows-requires-clause-fresh
load_rows-requires-clause-fresh c = rows_fresh 256 c.requires
