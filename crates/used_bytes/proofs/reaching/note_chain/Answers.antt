-- A link more, and no more.
use native.Mathlib.Omega.{arith}
use Rattle.used_bytes.proofs.Queues.{following_end, following_here, following_next}
use Rattle.used_bytes.proofs.reaching.note_chain.Goals as goal

pub offset_bounds-table-h : goal.offset_bounds-table-h
offset_bounds-table-h c =
    let a = c.requires in
    let w = c.loop-h.invariant a.0 a.2.base a.2.worklist a.1.first a.1.transitions a.1.chain in
    omega (arith, (following_here w (omega arith) a.1.below).room, c.well_formed.0.1)

pub bounds-table-h : goal.bounds-table-h
bounds-table-h c =
    let a = c.requires in
    let w = c.loop-h.invariant a.0 a.2.base a.2.worklist a.1.first a.1.transitions a.1.chain in
    (following_here w (omega arith) a.1.below).room

pub note-n-requires : goal.note-n-requires
note-n-requires c =
    let a = c.requires in
    let w = c.loop-h.invariant a.0 a.2.base a.2.worklist a.1.first a.1.transitions a.1.chain in
    (_, record { base = _; worklist = w.worklist }, rw c.spot.ensures (following_here w (omega arith) a.1.below).to)

pub loop-h-smaller : goal.loop-h-smaller
loop-h-smaller c =
    let a = c.requires in
    let w = c.loop-h.invariant a.0 a.2.base a.2.worklist a.1.first a.1.transitions a.1.chain in
    rw c.next-h.ensures (following_here w (omega arith) a.1.below).back

pub loop-h-preserved : goal.loop-h-preserved
loop-h-preserved c = λ bound base w first ts q.
    let v = c.loop-h.invariant bound base w first ts q in
    following_next v (omega arith) c.next-h.ensures (rw (← c.spot.ensures) (c.note-n.ensures bound base v.worklist))

pub returns : goal.returns
returns c = λ bound base w first ts k. following_end (c.loop-h.invariant bound base w first ts k) (omega arith)
