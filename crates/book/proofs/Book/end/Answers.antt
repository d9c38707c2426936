-- What is said of END for each way out. Assumes nothing.
use native.Mathlib.Omega.{arith}
use Rattle.book.proofs.Steps.{end_empty, end_early, end-last}
use Rattle.book.proofs.Book.end.Goals as goal

pub returns-then-self-eq0 : goal.returns-then-self-eq0
returns-then-self-eq0 c = λ tb rows d h i. rw c.at.ensures (end_empty h _ _ _ (omega arith))

pub returns-then-at-len : goal.returns-then-at-len
returns-then-at-len c = λ tb rows d h i. rw c.at-then-at-len.ensures (end_early h _ _ _ (omega arith) (omega arith))

pub returns : goal.returns
returns c = λ tb rows d h i. end-last h _ _ _ (omega arith) (omega arith)
