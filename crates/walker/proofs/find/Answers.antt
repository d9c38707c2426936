use Rattle.std.proofs.Common.{sym, ◌∙◌, arith}
use Rattle.automaton.proofs.Chains.{chained_step}
use Rattle.walker.proofs.Finding.{finding_next, finding_hit, finding_end}
use Rattle.walker.proofs.find.Goals as goal

pub offset_bounds-table-h : goal.offset_bounds-table-h
offset_bounds-table-h c = omega (arith, (chained_step c.loop-h.invariant.0 (omega arith)).room, c.well_formed.0.1)

pub bounds-table-h : goal.bounds-table-h
bounds-table-h c = (chained_step c.loop-h.invariant.0 (omega arith)).room

pub loop-h-smaller : goal.loop-h-smaller
loop-h-smaller c = rw c.next-h.ensures (chained_step c.loop-h.invariant.0 (omega arith)).back

pub returns-then-covers : goal.returns-then-covers
returns-then-covers c = finding_hit c.loop-h.invariant.1 (omega arith) (sym c.covers.ensures ∙ c.if-covers.true) c.spot.ensures

pub loop-h-preserved : goal.loop-h-preserved
loop-h-preserved c =
    let s = chained_step c.loop-h.invariant.0 (omega arith) in (
      rw c.next-h.ensures s.rest,
      finding_next c.loop-h.invariant.1 (omega arith) (sym c.covers.ensures ∙ c.if-covers.false) c.next-h.ensures
          (rw c.next-h.ensures s.back),
    )

pub returns : goal.returns
returns c = finding_end c.loop-h.invariant.1 (omega arith)
