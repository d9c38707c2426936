-- A table of zeros of a size that suits the book.
use Rattle.std.proofs.Common.{arith}
use Rattle.reader.proofs.Sizes.{suits_lent}
use Rattle.book_reader.proofs.sizes.inspect_in.Goals as goal

pub inspect_with-requires : goal.inspect_with-requires
inspect_with-requires g c = suits_lent c.requires

pub whole_as_slice-inspect_with : goal.whole_as_slice-inspect_with
whole_as_slice-inspect_with g c = omega (arith, c.requires.most)
