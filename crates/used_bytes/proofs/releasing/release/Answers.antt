-- What the first `let_go` answers, a turn more, and no more.
use native.Mathlib.Omega.{arith}
use Prim.Native.Nat.{◌<◌}
use Rattle.automaton.specs.Layers.{edge_start, leaving}
use Rattle.used_bytes.proofs.Queues.{worklist_most}
use Rattle.used_bytes.proofs.Waiting.{releasing_below, releasing_end, releasing_next, waits_chain, waits_leading}
use Rattle.used_bytes.proofs.releasing.release.Goals as goal

pub let_go-n-requires : goal.let_go-n-requires
let_go-n-requires c =
    let a = c.requires in
    (a.0, waits_leading a.1 a.2 c.head-head.ensures, a.3)

pub offset_bounds-queue-next : goal.offset_bounds-queue-next
offset_bounds-queue-next c =
    let a = c.requires in
    let o = c.let_go-n.ensures a.0 a.3.base a.3.worklist edge_start (leaving c.args.s a.1.transitions)
    (waits_chain a.1.built (omega (arith, a.2, a.1.within)) c.head-head.ensures) in
    let v = c.loop-next.invariant a.0 a.3.base o.follows.worklist a.1.end a.1.transitions a.1.built in
    omega (arith, worklist_most v.worklist)

pub bounds-queue-next : goal.bounds-queue-next
bounds-queue-next c =
    let a = c.requires in
    let o = c.let_go-n.ensures a.0 a.3.base a.3.worklist edge_start (leaving c.args.s a.1.transitions)
    (waits_chain a.1.built (omega (arith, a.2, a.1.within)) c.head-head.ensures) in
    let v = c.loop-next.invariant a.0 a.3.base o.follows.worklist a.1.end a.1.transitions a.1.built in
    omega (arith, worklist_most v.worklist)

pub overflow_add-next : goal.overflow_add-next
overflow_add-next c =
    let a = c.requires in
    let o = c.let_go-n.ensures a.0 a.3.base a.3.worklist edge_start (leaving c.args.s a.1.transitions)
    (waits_chain a.1.built (omega (arith, a.2, a.1.within)) c.head-head.ensures) in
    let v = c.loop-next.invariant a.0 a.3.base o.follows.worklist a.1.end a.1.transitions a.1.built in
    omega (arith, worklist_most v.worklist)

pub loop-next-smaller : goal.loop-next-smaller
loop-next-smaller c =
    let a = c.requires in
    let o = c.let_go-n.ensures a.0 a.3.base a.3.worklist edge_start (leaving c.args.s a.1.transitions)
    (waits_chain a.1.built (omega (arith, a.2, a.1.within)) c.head-head.ensures) in
    let v = c.loop-next.invariant a.0 a.3.base o.follows.worklist a.1.end a.1.transitions a.1.built in
    omega (arith, worklist_most v.worklist)

pub let_go-n-requires-in-loop-next : goal.let_go-n-requires-in-loop-next
let_go-n-requires-in-loop-next c =
    let a = c.requires in
    let o = c.let_go-n.ensures a.0 a.3.base a.3.worklist edge_start (leaving c.args.s a.1.transitions)
    (waits_chain a.1.built (omega (arith, a.2, a.1.within)) c.head-head.ensures) in
    let v = c.loop-next.invariant a.0 a.3.base o.follows.worklist a.1.end a.1.transitions a.1.built in
    let l : c.state-x.result < a.0 = omega (arith, c.state-x.ensures, releasing_below v (omega arith)) in
    (a.0, waits_leading a.1 l c.head-first.ensures, record { base = a.3.base; worklist = v.worklist })

pub loop-next-preserved : goal.loop-next-preserved
loop-next-preserved c = λ bound base w end us k.
    let a = c.requires in
    let o = c.let_go-n.ensures a.0 a.3.base a.3.worklist edge_start (leaving c.args.s a.1.transitions)
    (waits_chain a.1.built (omega (arith, a.2, a.1.within)) c.head-head.ensures) in
    let v = c.loop-next.invariant a.0 a.3.base o.follows.worklist a.1.end a.1.transitions a.1.built in
    let l : c.state-x.result < a.0 = omega (arith, c.state-x.ensures, releasing_below v (omega arith)) in
    let u = c.loop-next.invariant bound base w end us k in
    releasing_next u (omega arith) c.state-x.ensures
    (c.let_go-n-in-loop-next.ensures bound base u.worklist edge_start (leaving c.state-x.result us)
    (waits_chain k (omega (arith, l, a.1.within)) c.head-first.ensures))

pub returns : goal.returns
returns c = λ bound base w b end us k.
    let a = c.requires in
    let o = c.let_go-n.ensures bound base w edge_start (leaving c.args.s us)
    (waits_chain k (omega (arith, a.2, a.1.within)) c.head-head.ensures) in
    releasing_end o (c.loop-next.invariant bound base o.follows.worklist end us k) (omega arith) b
