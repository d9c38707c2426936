-- `put_records`: a line more.
use Rattle.std.proofs.Common.{arith}
use Rattle.listing.proofs.Listing.{going_start, going-room, going_next, going_end}
use Rattle.listing.proofs.put_records.Goals as goal

pub loop-k-init : goal.loop-k-init
loop-k-init c = going_start _ _ _

pub put_record-at-requires-clause-room : goal.put_record-at-requires-clause-room
put_record-at-requires-clause-room c = going-room c.loop-k.invariant c.requires.room (omega arith)

pub loop-k-preserved : goal.loop-k-preserved
loop-k-preserved c = going_next c.loop-k.invariant c.requires.room (omega arith) c.put_record-at.auto.out c.put_record-at.ensures

pub returns : goal.returns
returns c = going_end c.loop-k.invariant c.requires.room (omega arith)
