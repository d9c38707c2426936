-- `turn_rules`: each return is one case of `turn_rules`.
use Rattle.std.proofs.Common.{arith}
use Rattle.turns.proofs.Outcomes.{answered_long, answered_past, answered_few, answered_turned}
use Rattle.turns.proofs.by_rules.turn_rules.Goals as goal

pub returns-then-text-gt-TEXT : goal.returns-then-text-gt-TEXT
returns-then-text-gt-TEXT c = λ rs h. rw c.at.ensures (answered_long rs _ _ _ _ _ (omega arith))

pub returns-then-text-place : goal.returns-then-text-place
returns-then-text-place c = λ rs h. rw c.at-then-text-place.ensures (answered_past rs _ _ _ _ _ (omega arith) (omega arith))

pub returns-in-Some : goal.returns-in-Some
returns-in-Some c = λ rs h.
    let lacks = c.in-Some.ensures rs h in
    let room = c.room.ensures in
    rw c.at-in-Some.ensures (answered_few rs _ _ _ _ _ (omega arith) (omega arith) (record { fewer = omega arith; number = lacks.number }))

pub returns : goal.returns
returns c = λ rs h.
    let enough = c.in_default.ensures rs h in
    answered_turned rs _ _ _ _ _ (omega arith) (omega arith) (omega (arith, enough, c.room.ensures)) (c.run.ensures.turned rs h)
    (c.run.ensures.stores rs h)
