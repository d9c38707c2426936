-- `put_line`: a word, then two numbers.
use Rattle.std.proofs.Common.{arith}
use Rattle.listing.proofs.Putting.{puts_copied, puts_then, room-first, room_second}
use Rattle.listing.proofs.put_line.Goals as goal

pub copy-requires : goal.copy-requires
copy-requires c = let r = room-first {xs = c.args.word.now} _ c.requires in (omega arith, r.room)

pub put_last_two-requires : goal.put_last_two-requires
put_last_two-requires c = room_second (puts_copied _ c.args.at c.args.word.now c.copy.ensures) c.copy.auto.to c.requires

pub returns : goal.returns
returns c =
    let p = puts_copied c.args.out.now c.args.at c.args.word.now c.copy.ensures in
    puts_then p c.put_last_two.ensures (room-first _ c.requires)
