-- `put_last_two`: two numbers, one behind the other.
use Rattle.listing.specs.Decimal.{last_two}
use Rattle.listing.proofs.Putting.{puts_then, room-first, room_second}
use Rattle.listing.proofs.digits.put_last_two.Goals as goal

pub put_field-next-requires : goal.put_field-next-requires
unfolding last_two
put_field-next-requires c = room-first _ c.requires

pub put_field-requires : goal.put_field-requires
unfolding last_two
put_field-requires c = room_second c.put_field-next.ensures c.put_field-next.auto.out c.requires

pub returns : goal.returns
unfolding last_two
returns c = puts_then c.put_field-next.ensures c.put_field.ensures (room-first _ c.requires)
