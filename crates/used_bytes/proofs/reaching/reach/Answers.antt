-- A spot more, and no more.
use mathlib.Core.Path.{◌≡◌, sym, ◌∙◌}
use mathlib.Core.List.{[]}
use native.Mathlib.Omega.{arith}
use Rattle.used_bytes.proofs.Queues.{worklist_most}
use Rattle.used_bytes.proofs.Reached.{reaching_end, reaching_leading, reaching_next, reaching_start, unmarked_worklist}
use Rattle.used_bytes.proofs.reaching.reach.Goals as goal

pub note-n-requires : goal.note-n-requires
note-n-requires c =
    let a = c.requires in
    (a.0, record { base = []; worklist = unmarked_worklist _ a.3 a.4 }, rw (c.start_spot.ensures a.2.rule a.2.table).state a.2.fits.start)

pub loop-next-init : goal.loop-next-init
loop-next-init c = λ bound e m t.
    let a = c.requires in
    let q : a.0 ≡ bound = sym (c.note-n.auto.marks ∙ a.3.cells) ∙ e in
    reaching_start t (c.start_spot.ensures m t) (c.note-n.ensures bound [] (unmarked_worklist _ (rw q at a.3) (a.4 ∙ q)))

pub offset_bounds-queue-next : goal.offset_bounds-queue-next
offset_bounds-queue-next c =
    let a = c.requires in
    omega (arith, worklist_most (c.loop-next.invariant a.0 (c.note-n.auto.marks ∙ a.3.cells) a.2.rule a.2.table).worklist)

pub bounds-queue-next : goal.bounds-queue-next
bounds-queue-next c =
    let a = c.requires in
    omega (arith, worklist_most (c.loop-next.invariant a.0 (c.note-n.auto.marks ∙ a.3.cells) a.2.rule a.2.table).worklist)

pub overflow_add-next : goal.overflow_add-next
overflow_add-next c =
    let a = c.requires in
    omega (arith, worklist_most (c.loop-next.invariant a.0 (c.note-n.auto.marks ∙ a.3.cells) a.2.rule a.2.table).worklist)

pub note_chain-n-requires : goal.note_chain-n-requires
note_chain-n-requires c =
    let a = c.requires in
    let w = c.loop-next.invariant a.0 (c.note-n.auto.marks ∙ a.3.cells) a.2.rule a.2.table in (
      a.0,
      reaching_leading a.2.table w (omega arith) c.head-head.ensures a.2.fits.tos,
      record { base = []; worklist = w.worklist },
    )

pub loop-next-smaller : goal.loop-next-smaller
loop-next-smaller c =
    let a = c.requires in
    omega (arith, worklist_most (c.loop-next.invariant a.0 (c.note-n.auto.marks ∙ a.3.cells) a.2.rule a.2.table).worklist)

pub loop-next-preserved : goal.loop-next-preserved
loop-next-preserved c = λ bound e m t.
    reaching_next t (c.loop-next.invariant bound e m t) (omega arith) c.head-head.ensures c.note_chain-n.ensures

pub returns : goal.returns
returns c = λ bound u m t. reaching_end t (c.loop-next.invariant bound (c.note-n.auto.marks ∙ u.cells) m t) (omega arith)
