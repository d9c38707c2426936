-- `measure`: the invariant is `Measuring`.
use Rattle.std.proofs.Common.{◌≡◌, ◌+◌, arith}
use Rattle.rewriting.proofs.Pieces.{width}
use Rattle.rewriting.proofs.Writing.{turn, measuring_start, measuring_next, measuring_end}
use Rattle.rewriting.proofs.measure.Goals as goal

pub loop-at-init : goal.loop-at-init
loop-at-init c = measuring_start c.requires

pub overflow_add-at : goal.overflow_add-at
overflow_add-at c =
    let here = turn c.loop-at.invariant.onward c.loop-at-test.true in
    omega (arith, here.standing.within, c.requires.short, c.operands.ensures)

pub overflow_add-at-in-loop-at : goal.overflow_add-at-in-loop-at
overflow_add-at-in-loop-at c =
    let here = turn c.loop-at.invariant.onward c.loop-at-test.true in
    omega (arith, here.standing.within, c.requires.short, c.operands.ensures)

pub loop-at-preserved : goal.loop-at-preserved
loop-at-preserved c =
    let e : c.loop-at.at + (1 + c.operands.result) ≡ c.loop-at.at + width c.args.book.now c.loop-at.at = omega (arith, c.operands.ensures) in
    rw e (measuring_next c.loop-at.invariant c.loop-at-test.true c.growth-total.ensures)

pub returns : goal.returns
returns c = measuring_end c.loop-at.invariant c.loop-at-test.false
