-- A link more, and no more.
use native.Mathlib.Omega.{arith}
use Rattle.used_bytes.proofs.Waiting.{bytes_at, bytes_end, bytes_next}
use Rattle.used_bytes.proofs.releasing.mark_chain.Goals as goal

pub offset_bounds-words-h : goal.offset_bounds-words-h
offset_bounds-words-h c =
    let a = c.requires in
    omega (arith, (bytes_at (c.loop-h.invariant a.first a.transitions a.chain) (omega arith)).link.edge.room, c.well_formed.0.1)

pub bounds-words-h : goal.bounds-words-h
bounds-words-h c = let a = c.requires in (bytes_at (c.loop-h.invariant a.first a.transitions a.chain) (omega arith)).link.edge.room

pub loop-h-smaller : goal.loop-h-smaller
loop-h-smaller c =
    let a = c.requires in
    rw c.next-h.ensures (bytes_at (c.loop-h.invariant a.first a.transitions a.chain) (omega arith)).link.back

pub loop-h-preserved : goal.loop-h-preserved
loop-h-preserved c = λ first ts q.
    bytes_next (c.loop-h.invariant first ts q) (omega arith) c.next-h.ensures c.low-low.ensures c.high.ensures c.mark_range.ensures

pub returns : goal.returns
returns c = λ first ts k. bytes_end (c.loop-h.invariant first ts k) (omega arith)
