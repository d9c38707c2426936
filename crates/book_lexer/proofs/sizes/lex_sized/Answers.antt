-- A book that is too long.
use Rattle.std.proofs.Common.{rules}
use Rattle.lexer.proofs.Outcomes.{answered_too_long}
use Rattle.book_lexer.proofs.sizes.lex_sized.Goals as goal

pub returns-then-book-gt-BYTES : goal.returns-then-book-gt-BYTES
returns-then-book-gt-BYTES c = rw c.at.ensures (answered_too_long _ _ _ _ (search rules))
