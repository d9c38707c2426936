-- A table of zeros of a size that suits the book.
use Rattle.std.proofs.Common.{arith}
use Rattle.reader.proofs.Sizes.{suits_lent}
use Rattle.book_lexer.proofs.sizes.rest_in.Goals as goal

pub rest_with-requires : goal.rest_with-requires
rest_with-requires g c = suits_lent c.requires

pub whole_as_slice-rest_with : goal.whole_as_slice-rest_with
whole_as_slice-rest_with g c = omega (arith, c.requires.most)
