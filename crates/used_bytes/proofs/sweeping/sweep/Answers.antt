-- A state more, and what follows from all of them.
use mathlib.Core.Path.{◌≡◌, sym, ◌∙◌}
use native.Mathlib.Omega.{arith}
use Rattle.used_bytes.proofs.Useful.{over_end, over_led, over_next, over_ready, over_spot, over_start, over_storage, over_sweepable, storage_same}
use Rattle.used_bytes.proofs.sweeping.sweep.Goals as goal

pub loop-k-init : goal.loop-k-init
loop-k-init c = λ bound edges o number m t seen q. over_start t q o c.requires.size c.requires.clear

pub offset_bounds-spots-k : goal.offset_bounds-spots-k
offset_bounds-spots-k c = omega (arith, over_spot c.requires (over_ready c.requires c.loop-k.invariant) c.loop-k-test.true)

pub bounds-spots-k : goal.bounds-spots-k
bounds-spots-k c = (over_spot c.requires (over_ready c.requires c.loop-k.invariant) c.loop-k-test.true).0

pub sweep_state-end-requires : goal.sweep_state-end-requires
sweep_state-end-requires c = over_sweepable c.requires (over_ready c.requires c.loop-k.invariant) c.loop-k-test.true c.loop-k.auto.waiting

pub loop-k-preserved : goal.loop-k-preserved
loop-k-preserved c = λ bound edges o number m t seen q.
    let w = c.loop-k.invariant bound edges o number m t seen q in
    over_next t q w c.loop-k-test.true
    (c.sweep_state-end.ensures bound number m (over_led t q w c.loop-k-test.true) w.states w.transitions w.sweeping)

pub returns-clause-by_index : goal.returns-clause-by_index
returns-clause-by_index c = λ bound edges o.
    let a = c.requires in
    let e : a.bound ≡ bound = sym a.storage.slots ∙ o.slots in
    storage_same e (over_storage a.fitted.table a.reaches (over_ready a c.loop-k.invariant) (storage_same (sym e) o) c.loop-k.auto.waiting)

pub returns-clause-by_index_2 : goal.returns-clause-by_index_2
returns-clause-by_index_2 c = λ bound number m t seen q.
    let a = c.requires in
    let e : a.bound ≡ bound = sym a.reaches.worklist.slots ∙ q.worklist.slots in
    over_end t q (c.loop-k.invariant bound _ (storage_same e a.storage) number m t seen q) (omega arith)
