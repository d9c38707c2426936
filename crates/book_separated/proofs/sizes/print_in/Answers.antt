-- A table of zeros of a size that suits the book.
use Rattle.std.proofs.Common.{arith}
use Rattle.reader.proofs.Sizes.{suits_lent}
use Rattle.book_separated.proofs.sizes.print_in.Goals as goal

pub print_with-requires-clause-lent : goal.print_with-requires-clause-lent
print_with-requires-clause-lent g c = suits_lent c.requires.suits

pub whole_as_slice-print_with : goal.whole_as_slice-print_with
whole_as_slice-print_with g c = omega (arith, c.requires.suits.most)
