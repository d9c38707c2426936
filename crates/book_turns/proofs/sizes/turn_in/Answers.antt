-- A table of zeros of a size that suits the book.
use Rattle.std.proofs.Common.{arith}
use Rattle.reader.proofs.Sizes.{suits_lent}
use Rattle.book_turns.proofs.sizes.turn_in.Goals as goal

pub turn_with-requires : goal.turn_with-requires
turn_with-requires g c = suits_lent c.requires

pub whole_as_slice-turn_with : goal.whole_as_slice-turn_with
whole_as_slice-turn_with g c = omega (arith, c.requires.most)
