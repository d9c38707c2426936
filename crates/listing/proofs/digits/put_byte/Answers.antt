-- `put_byte`: one store.
use Rattle.std.proofs.Common.{arith}
use Rattle.listing.proofs.Putting.{puts-byte}
use Rattle.listing.proofs.digits.put_byte.Goals as goal

pub bounds-out-at : goal.bounds-out-at
bounds-out-at c = omega (arith, c.requires.room)

pub overflow_add-result : goal.overflow_add-result
overflow_add-result c = omega (arith, c.requires.room)

pub returns : goal.returns
returns c = puts-byte _ _ _ c.requires
