-- `check_room`: 14, 15, or room enough, counted or not.
use Rattle.std.proofs.Common.{arith}
use Rattle.lexer.proofs.ByRules.{answered_long, answered_few, enough}
use Rattle.slices.proofs.lexing.check_room.Goals as goal

pub returns-then-text-gt-TEXT : goal.returns-then-text-gt-TEXT
returns-then-text-gt-TEXT c = λ rs h records masks e. rw c.at.ensures (answered_long rs _ records masks (omega arith))

pub returns-then-room-needed : goal.returns-then-room-needed
returns-then-room-needed c = λ rs h records masks e.
    rw c.at-then-room-needed.ensures
    (answered_few rs _ records masks (omega arith) (c.count-needed.ensures rs h) (omega (arith, e, c.if-room-needed.true)))

pub returns-else-room-text : goal.returns-else-room-text
returns-else-room-text c = λ rs h. record { short = omega arith; enough = enough rs _ _ c.if-room-text.false }
