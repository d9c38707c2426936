-- `put_lines`: by the answer. Assumes nothing.
use native.Mathlib.Omega.{arith}
use Rattle.listing.specs.Lines.{rest_line, refused_line}
use Rattle.listing.proofs.Putting.{puts_then, room-first, room_second}
use Rattle.listing.proofs.Listing.{fit_lexed, puts_lexed, room_refused, puts_refused}
use Rattle.listing.proofs.put_lines.Goals as goal

pub put_records-at-requires : goal.put_records-at-requires
put_records-at-requires c =
    let f = fit_lexed c.in-Ok.is _ _ c.requires in
    record { n_in_bounds = f.0; room = room-first _ f.2 }

pub overflow_sub-len : goal.overflow_sub-len
overflow_sub-len c =
    (fit_lexed c.in-Ok.is _ _ c.requires).1

pub put_line-requires : goal.put_line-requires
unfolding rest_line
put_line-requires c =
    let f = fit_lexed c.in-Ok.is _ _ c.requires in
    room_second c.put_records-at.ensures c.put_records-at.auto.out f.2

pub put_line-requires-in-Err : goal.put_line-requires-in-Err
unfolding refused_line
put_line-requires-in-Err c =
    rw c.number.ensures (room_refused c.in-Err.is _ _ c.requires (omega (arith, c.number.type_inv, c.number.ensures)) (omega arith))

pub returns-in-Ok : goal.returns-in-Ok
unfolding rest_line
returns-in-Ok c =
    let f = fit_lexed c.in-Ok.is _ _ c.requires in
    puts_lexed c.in-Ok.is _ _ (puts_then c.put_records-at.ensures c.put_line.ensures (room-first _ f.2))

pub returns-in-Err : goal.returns-in-Err
unfolding refused_line
returns-in-Err c =
    puts_refused c.in-Err.is _ _ (rw c.number.ensures at c.put_line-in-Err.ensures)
