-- A table of zeros of a size that suits the book.
use Rattle.std.proofs.Common.{arith}
use Rattle.reader.proofs.Sizes.{suits_lent}
use Rattle.book_lexer.proofs.sizes.lex_in.Goals as goal

pub lex_with-requires : goal.lex_with-requires
lex_with-requires g c = suits_lent c.requires

pub whole_as_slice-lex_with : goal.whole_as_slice-lex_with
whole_as_slice-lex_with g c = omega (arith, c.requires.most)
