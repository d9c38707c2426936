-- A book that is too long, and the start of the loop. Assumes nothing.
use native.Mathlib.Omega.{arith}
use Rattle.reader.proofs.Loading.{going_start, loaded_refused, read_too_long}
use Rattle.reader.proofs.load_rows.Goals as goal

pub returns-then-book-gt-BYTES : goal.returns-then-book-gt-BYTES
returns-then-book-gt-BYTES c = loaded_refused (read_too_long _ _ (omega arith)) c.at.ensures

pub read_on-requires : goal.read_on-requires
read_on-requires c = going_start c.requires.lent c.requires.fresh (omega arith) c.new-2.ensures c.new.ensures
