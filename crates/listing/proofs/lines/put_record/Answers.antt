-- `put_record`: the line of the numbers that the record holds.
use Rattle.listing.proofs.Recording.{room_record, puts_record}
use Rattle.listing.proofs.lines.put_record.Goals as goal

pub put_token-requires : goal.put_token-requires
put_token-requires c = room_record _ _ c.read_record-r.ensures c.requires.room

pub returns : goal.returns
returns c = puts_record _ _ c.read_record-r.ensures c.put_token.ensures
