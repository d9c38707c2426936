-- `gain`: the state is marked, and what waits at it is let go; or nothing is said of it.
use native.Mathlib.Omega.{arith}
use Rattle.used_bytes.specs.Layers.{noted}
use Rattle.used_bytes.proofs.States.{noted_here}
use Rattle.used_bytes.proofs.Swept.{gain_alone, worklist_gain}
use Rattle.used_bytes.proofs.Useful.{gains_said}
use Rattle.used_bytes.proofs.sweeping.gain.Goals as goal

pub release-requires : goal.release-requires
release-requires c =
    let a = c.requires in
    (a.bound, a.waits, a.below, record { base = _; worklist = worklist_gain a.working.worklist _ a.below })

pub returns-then-head-ne0 : goal.returns-then-head-ne0
returns-then-head-ne0 c = λ bound m end gs us w e.
    let s = c.args.s in
    let a = c.requires in
    gains_said w s (e c.if-said.true)
    (c.release.ensures bound (noted gs s) (worklist_gain w.worklist s (omega (arith, a.below, a.working.worklist.cells, w.worklist.cells)))
    (noted_here gs s) end us w.waiting.built)

pub returns-else-head-ne0 : goal.returns-else-head-ne0
returns-else-head-ne0 c = λ bound m end gs us w e.
    let a = c.requires in
    gains_said w _ (e c.if-said.true) (gain_alone w.worklist _ (omega (arith, a.below, a.working.worklist.cells, w.worklist.cells))
    w.waiting.built c.head.ensures c.if-head-ne0.false a.size)
