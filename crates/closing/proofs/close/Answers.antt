-- What is said of CLOSE for each way out. Assumes nothing.
use native.Mathlib.Omega.{arith}
use Rattle.book.proofs.Steps.{close_no_start, close_no_error, close_overlap, close_leaves}
use Rattle.book.proofs.Steps.{close_error_final, close_start-final, close_closed}
use Rattle.closing.proofs.close.Goals as goal
use Rattle.closing.proofs.close.Goals.{in_default-via-in-Some+in_default, in_default-via-in_default}

pub returns-in_default : goal.returns-in_default
returns-in_default c = λ len d h i. rw c.at.ensures
    (elim c.in_default.branch [
      | in_default-via-in-Some+in_default w ↦ close_no_error h _ len _ w.in_default.is-1
      | in_default-via-in_default w ↦ close_no_start h _ len _ w.in_default.is-0
    ])

pub returns-then-book : goal.returns-then-book
returns-then-book c = λ len d h i.
    rw c.at-then-book.ensures (close_overlap h _ len _ c.in-Some-Some.is-0 c.in-Some-Some.is-1 c.if-book.true)

pub returns-then-head-ne0 : goal.returns-then-head-ne0
returns-then-head-ne0 c = λ len d h i.
    rw c.at-then-head-ne0.ensures
    (close_leaves h _ len _ c.in-Some-Some.is-0 c.in-Some-Some.is-1 i c.if-book.false
    (rw (c.head.ensures, c.stamp-stamp.ensures) at c.if-head-ne0.true))

pub returns-then-is_final : goal.returns-then-is_final
returns-then-is_final c = λ len d h i.
    rw c.at-then-is_final.ensures
    (close_error_final h _ len _ c.in-Some-Some.is-0 c.in-Some-Some.is-1 i c.if-book.false
    (rw (c.head.ensures, c.stamp-stamp.ensures) at c.if-head-ne0.false)
    (rw (c.is_final.ensures, c.stamp-stamp.ensures) at c.if-is_final.true))

pub returns-then-is_final-2 : goal.returns-then-is_final-2
returns-then-is_final-2 c = λ len d h i.
    rw c.at-then-is_final-2.ensures
    (close_start-final h _ len _ c.in-Some-Some.is-0 c.in-Some-Some.is-1 i c.if-book.false
    (rw (c.head.ensures, c.stamp-stamp.ensures) at c.if-head-ne0.false)
    (rw (c.is_final.ensures, c.stamp-stamp.ensures) at c.if-is_final.false)
    (rw (c.is_final-2.ensures, c.stamp-stamp.ensures) at c.if-is_final-2.true))

pub returns : goal.returns
returns c = λ len d h i.
    rw c.between.ensures
    (close_closed h _ len _ c.in-Some-Some.is-0 c.in-Some-Some.is-1 i c.if-book.false
    (rw (c.head.ensures, c.stamp-stamp.ensures) at c.if-head-ne0.false)
    (rw (c.is_final.ensures, c.stamp-stamp.ensures) at c.if-is_final.false)
    (rw (c.is_final-2.ensures, c.stamp-stamp.ensures) at c.if-is_final-2.false) (omega arith) c.store_rule.ensures)
