-- `note`: the state has a mark, or gets one and is queued.
use native.Mathlib.Omega.{arith}
use Rattle.used_bytes.proofs.Queues.{notes_new, notes_room, worklist_most}
use Rattle.used_bytes.proofs.reaching.note.Goals as goal

pub offset_bounds-queue-count : goal.offset_bounds-queue-count
offset_bounds-queue-count c =
    let w = c.requires.1.worklist in
    omega (arith, notes_room w _ _ c.state-s.ensures c.requires.2 c.if-marks-s.false, (worklist_most w).1)

pub bounds-queue-count : goal.bounds-queue-count
bounds-queue-count c = notes_room c.requires.1.worklist _ _ c.state-s.ensures c.requires.2 c.if-marks-s.false

pub overflow_add-result : goal.overflow_add-result
overflow_add-result c =
    let w = c.requires.1.worklist in
    omega (arith, notes_room w _ _ c.state-s.ensures c.requires.2 c.if-marks-s.false, (worklist_most w).1)

pub returns : goal.returns
returns c = λ bound base w.
    notes_new w _ _ c.state-s.ensures (omega (arith, c.requires.2, c.requires.1.worklist.cells, w.cells)) c.if-marks-s.false
