-- What is said of FINAL for each way out. Assumes nothing.
use native.Mathlib.Omega.{arith}
use Rattle.book.specs.Draft.{apply}
use Rattle.book.proofs.Steps.{no_state_lem, final_added}
use Rattle.book.proofs.Book.add_final.Goals as goal

pub returns-then-is_no_state : goal.returns-then-is_no_state
unfolding apply
returns-then-is_no_state c = λ tb len d h i.
    rw c.at.ensures (no_state_lem tb _ _ _ c.args.s _ c.is_no_state.ensures c.if-is_no_state.true)

pub returns : goal.returns
returns c = λ tb len d h i.
    final_added h i _ _ len _ c.is_no_state.ensures c.if-is_no_state.false (omega arith) (omega arith)
    (rw c.stamp.ensures at c.mark_final.ensures)
