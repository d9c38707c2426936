-- A link more, whose transition leads to a good state or waits.
use mathlib.Core.Path.{refl, ap, ◌∙◌}
use native.Mathlib.Omega.{arith}
use Rattle.automaton.specs.Layers.{state_of}
use Rattle.used_bytes.proofs.Swept.{going_end, going_good, going_here, going-room, going_start, going_wait, good_in, good_out}
use Rattle.used_bytes.proofs.Swept.{going_passing, waiting_waits}
use Rattle.used_bytes.proofs.sweeping.sweep_chain.Goals as goal

pub loop-h-init : goal.loop-h-init
loop-h-init c = λ bound first ts us gs k f w e. going_start k f w (omega arith) refl

pub offset_bounds-table-h : goal.offset_bounds-table-h
offset_bounds-table-h c =
    let a = c.requires in
    omega (arith, (going_here (going_passing a c.loop-h.invariant) (omega arith) a.leading.below).room, c.well_formed.0.1)

pub bounds-table-h : goal.bounds-table-h
bounds-table-h c =
    let a = c.requires in
    (going_here (going_passing a c.loop-h.invariant) (omega arith) a.leading.below).room

pub bounds-good-state : goal.bounds-good-state
bounds-good-state c =
    let a = c.requires in
    rw (c.state.ensures ∙ ap state_of c.spot.ensures)
    (omega (arith, (going_here (going_passing a c.loop-h.invariant) (omega arith) a.leading.below).to, a.cells))

pub mark_range-requires : goal.mark_range-requires
mark_range-requires c = omega (arith, c.high.ensures)

pub wait-requires : goal.wait-requires
wait-requires c =
    let a = c.requires in
    let w = going_passing a c.loop-h.invariant in
    let r = going-room w (omega arith) in (
      a.bound,
      waiting_waits w.waiting,
      omega (arith, a.room, c.loop-h.auto.waiting),
      omega (arith, a.short),
      a.stamp_below,
      (going_here w (omega arith) a.leading.below).to,
      a.from_below,
    )

pub overflow_add-at : goal.overflow_add-at
overflow_add-at c = let a = c.requires in omega (arith, going-room (going_passing a c.loop-h.invariant) (omega arith), a.short)

pub loop-h-smaller : goal.loop-h-smaller
loop-h-smaller c =
    let a = c.requires in
    rw c.next-h.ensures (going_here (going_passing a c.loop-h.invariant) (omega arith) a.leading.below).back

pub loop-h-smaller-then-good-state : goal.loop-h-smaller-then-good-state
loop-h-smaller-then-good-state c =
    let a = c.requires in
    rw c.next-h.ensures (going_here (going_passing a c.loop-h.invariant) (omega arith) a.leading.below).back

pub loop-h-preserved-then-good-state : goal.loop-h-preserved-then-good-state
loop-h-preserved-then-good-state c = λ bound first ts us gs q f w e.
    going_good (c.loop-h.invariant bound first ts us gs q f w e) (omega arith) c.next-h.ensures
    (good_in c.args.good.now gs e (c.state.ensures ∙ ap state_of c.spot.ensures) c.if-good-state.true) c.mark_range.ensures.size
    (λ b. rw (← c.low-low.ensures, ← c.high.ensures) (c.mark_range.ensures.marks b))

pub loop-h-preserved : goal.loop-h-preserved
loop-h-preserved c = λ bound first ts us gs q f w e.
    going_wait (c.loop-h.invariant bound first ts us gs q f w e) (omega arith) c.next-h.ensures
    (good_out c.args.good.now gs e (c.state.ensures ∙ ap state_of c.spot.ensures) c.if-good-state.false) (c.wait.ensures bound)

pub returns : goal.returns
returns c = λ bound first ts us gs q f w e. going_end (c.loop-h.invariant bound first ts us gs q f w e) (omega arith)
