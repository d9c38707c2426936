-- `token_fault`: the faults in their order. Assumes nothing.
use native.Mathlib.Omega.{arith}
use Rattle.longest_match.proofs.Parts.{part_bytes}
use Rattle.token_list.proofs.Faulting.{checked_outside, checked_unknown, checked-idle, checked-part, checked_other, checked_same}
use Rattle.token_list.proofs.faults.token_fault.Goals as goal
use Rattle.token_list.proofs.faults.token_fault.Goals.{then-chosen-len-via-then-chosen-len, then-chosen-len-via-else-chosen-len+then-chosen-rule}

pub returns-then-pool-place : goal.returns-then-pool-place
returns-then-pool-place c = λ rs h. checked_outside rs _ _ (omega arith)

pub returns-in_default : goal.returns-in_default
returns-in_default c = λ rs h. checked_unknown h _ _ (omega arith) (c.in_default.ensures rs h)

pub returns-in_default-choose : goal.returns-in_default-choose
returns-in_default-choose c = λ rs h.
    checked-idle h _ _ (omega arith) (c.in-Some.ensures rs h) (c.in_default-choose.ensures.chooses rs _ h (part_bytes _ _ _)) (omega arith)

pub returns-then-chosen-len : goal.returns-then-chosen-len
returns-then-chosen-len c = λ rs h.
    let w = c.in-Some-choose.ensures.chooses rs _ h (part_bytes _ _ _) in
    let some_byte = c.in-Some-choose.ensures.some_byte in
    elim c.then-chosen-len.branch [
      | then-chosen-len-via-then-chosen-len b ↦ checked-part h _ _ (omega arith) (c.in-Some.ensures rs h) w (λ e. omega arith)
      | then-chosen-len-via-else-chosen-len+then-chosen-rule b ↦
          checked_other h _ _ (omega arith) (c.in-Some.ensures rs h) w some_byte (omega arith) (λ e. omega arith)
    ]

pub returns : goal.returns
returns c = λ rs h.
    checked_same h _ _ (omega arith) (c.in-Some.ensures rs h) (c.in-Some-choose.ensures.chooses rs _ h (part_bytes _ _ _))
    c.in-Some-choose.ensures.some_byte (omega arith) (omega arith)
