-- `put_token`: three texts, one behind the other.
use mathlib.Core.Path.{◌∙◌}
use Rattle.listing.specs.Lines.{token_line}
use Rattle.listing.proofs.Putting.{puts_then, room-first, room_second}
use Rattle.listing.proofs.lines.put_token.Goals as goal

pub put_field-second-requires : goal.put_field-second-requires
unfolding token_line
put_field-second-requires c = room-first _ (room-first _ c.requires)

pub put_field-third-requires : goal.put_field-third-requires
unfolding token_line
put_field-third-requires c = room_second c.put_field-second.ensures c.put_field-second.auto.out (room-first _ c.requires)

pub put_last_two-requires : goal.put_last_two-requires
unfolding token_line
put_last_two-requires c =
    let r = c.requires in
    room_second (puts_then c.put_field-second.ensures c.put_field-third.ensures (room-first _ (room-first _ r)))
    (c.put_field-third.auto.out ∙ c.put_field-second.auto.out) r

pub returns : goal.returns
unfolding token_line
returns c =
    let r = room-first _ c.requires in
    puts_then (puts_then c.put_field-second.ensures c.put_field-third.ensures (room-first _ r)) c.put_last_two.ensures r
