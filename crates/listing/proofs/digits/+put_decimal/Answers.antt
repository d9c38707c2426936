-- `put_decimal`: the digits before the last are those of a tenth.
use Rattle.std.proofs.Common.{arith}
use Rattle.listing.proofs.Putting.{room-digit, puts-digit, room_tenth, room-last, puts-last}
use Rattle.listing.proofs.digits.+put_decimal.Goals as goal

-- one digit
pub put_byte-requires : goal.put_byte-requires
put_byte-requires t c = room-digit c.if-n-lt10.true c.requires

pub returns-then-n-lt10 : goal.returns-then-n-lt10
returns-then-n-lt10 t c = puts-digit c.if-n-lt10.true c.put_byte.ensures

-- one more digit
pub put_decimal-last-requires : goal.put_decimal-last-requires
put_decimal-last-requires t c = let l = c.if-n-lt10.false in (omega arith, room_tenth l c.requires)

pub put_byte-requires-2 : goal.put_byte-requires-2
put_byte-requires-2 t c = room-last c.if-n-lt10.false c.requires c.put_decimal-last.ensures c.put_decimal-last.auto.out

pub returns : goal.returns
returns t c = puts-last c.if-n-lt10.false c.requires c.put_decimal-last.ensures c.put_byte-2.ensures
