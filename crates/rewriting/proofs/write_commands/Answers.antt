-- `write_commands`: the invariant is `Writing`.
use Rattle.std.proofs.Common.{◌≡◌, ◌+◌, ◌-◌, ◌≤◌, length, arith, length-take, length-drop}
use Rattle.rewriting.proofs.Pieces.{width}
use Rattle.rewriting.proofs.Writing.{paste_part, turn, writing_start, writing-room, writing_next, writing-end}
use Rattle.rewriting.proofs.write_commands.Goals as goal

pub loop-at-init : goal.loop-at-init
loop-at-init c = writing_start c.requires

pub overflow_add-width : goal.overflow_add-width
overflow_add-width c =
    let here = turn c.loop-at.invariant.onward c.loop-at-test.true in
    omega (arith, here.standing.within, c.operands-width.ensures, c.requires.readable.short)

pub returns : goal.returns
returns c = writing-end c.loop-at.invariant c.loop-at-test.false

pub overflow_add-at : goal.overflow_add-at
overflow_add-at c =
    let here = turn c.loop-at.invariant.onward c.loop-at-test.true in
    omega (arith, here.standing.within, c.operands-width.ensures, c.requires.readable.short)

pub slice_bounds-write_command-end : goal.slice_bounds-write_command-end
slice_bounds-write_command-end c =
    let here = turn c.loop-at.invariant.onward c.loop-at-test.true in
    omega (arith, here.standing.within, c.operands-width.ensures)

pub write_command-to-requires-clause-room : goal.write_command-to-requires-clause-room
write_command-to-requires-clause-room c =
    let wide : c.loop-at.at + (1 + c.operands-width.result) - c.loop-at.at ≡ width c.args.book.now c.loop-at.at =
    omega (arith, c.operands-width.ensures) in
    let room = writing-room c.loop-at.invariant c.loop-at-test.true in
    rw wide (simp (length-take, length-drop) (omega arith))

pub loop-at-preserved : goal.loop-at-preserved
loop-at-preserved c =
    let part : c.loop-at.at + (1 + c.operands-width.result) - c.loop-at.at ≡ width c.args.book.now c.loop-at.at =
    omega (arith, c.operands-width.ensures) in
    let wide : 1 + c.operands-width.result ≡ width c.args.book.now c.loop-at.at = omega (arith, c.operands-width.ensures) in
    let inside : c.loop-at.to ≤ length c.loop-at.out = omega (arith, writing-room c.loop-at.invariant c.loop-at-test.true) in
    let e = rw part at c.write_command-to.ensures in
    rw wide (writing_next c.loop-at.invariant c.loop-at-test.true e.0 (rw e.1 (paste_part c.loop-at.out c.loop-at.to _ _ inside)))
