-- What is said of a move for each way out. Assumes nothing.
use native.Mathlib.Omega.{arith}
use Rattle.book.proofs.Steps.{move_too_many, move_outside, move_added}
use Rattle.book.proofs.moving.add_transition.Goals as goal

pub returns-then-end-book-ge-TRANSITIONS : goal.returns-then-end-book-ge-TRANSITIONS
returns-then-end-book-ge-TRANSITIONS c = λ d h i. rw c.at.ensures (move_too_many h i _ _ _ _ _ _ (omega arith))

pub returns-then-is_out_of_range : goal.returns-then-is_out_of_range
returns-then-is_out_of_range c = λ d h i.
    rw c.at-then-is_out_of_range.ensures
    (move_outside h i _ _ _ _ _ _ (omega arith) c.is_out_of_range.ensures c.if-is_out_of_range.true)

pub returns : goal.returns
returns c = λ d h i.
    let e = c.stamp-stamp.ensures in
    move_added h i _ _ _ _ _ _ (omega arith) c.is_out_of_range.ensures c.if-is_out_of_range.false
    (omega arith) (omega arith) c.requires.edges_in_bounds.0 c.requires.edges_in_bounds.1 (omega arith)
    (rw (c.head-head.ensures, e) at c.overlaps_too.ensures)
    (rw (c.head-head.ensures, e) at c.put_edge.ensures) (rw e at c.link_state.ensures)
