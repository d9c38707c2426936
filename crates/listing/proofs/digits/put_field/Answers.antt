-- `put_field`: a number, then a byte.
use Rattle.listing.proofs.Putting.{puts_then, room-first, room_second}
use Rattle.listing.proofs.digits.put_field.Goals as goal

pub put_decimal-end-requires : goal.put_decimal-end-requires
put_decimal-end-requires c = room-first _ c.requires

pub put_byte-requires : goal.put_byte-requires
put_byte-requires c = room_second c.put_decimal-end.ensures c.put_decimal-end.auto.out c.requires

pub returns : goal.returns
returns c = puts_then c.put_decimal-end.ensures c.put_byte.ensures (room-first _ c.requires)
