-- `lex_rules`: each return is one case of `lex_rules`.
use Rattle.std.proofs.Common.{arith}
use Rattle.lexer.proofs.ByRules.{answered_long, answered_few, answered_lexed, enough, room_of}
use Rattle.lexer.proofs.by_rules.lex_rules.Goals as goal
use Rattle.lexer.proofs.by_rules.lex_rules.Goals.{then-room-text+else-room-needed, else-room-text}

pub returns-then-text-gt-TEXT : goal.returns-then-text-gt-TEXT
returns-then-text-gt-TEXT c = λ rs h. rw c.at.ensures (answered_long rs _ _ _ (omega arith))

pub returns-then-room-needed : goal.returns-then-room-needed
returns-then-room-needed c = λ rs h.
    rw c.at-then-room-needed.ensures
    (answered_few rs _ _ _ (omega arith) (c.count-needed.ensures rs h)
    (omega (arith, c.if-room-needed.true, c.room-room.ensures)))

-- there is room enough, counted or not
pub fill-requires : goal.fill-requires
fill-requires c = room_of c.requires (λ rs h.
    elim c.if-room-text.branch [
      | then-room-text+else-room-needed w ↦
          omega (arith, (w.count-needed.ensures rs h).tokens_are, w.if-room-needed.false, c.room-room.ensures)
      | else-room-text w ↦ omega (arith, enough rs _ _ w.if-room-text.false, c.room-room.ensures)
    ])

pub returns : goal.returns
returns c = λ rs h.
    answered_lexed rs _ _ _ (omega arith) (
    elim c.if-room-text.branch [
      | then-room-text+else-room-needed w ↦
          omega (arith, (w.count-needed.ensures rs h).tokens_are, w.if-room-needed.false, c.room-room.ensures)
      | else-room-text w ↦ omega (arith, enough rs _ _ w.if-room-text.false, c.room-room.ensures)
    ]) (c.fill.ensures.cuts rs h) (c.fill.ensures.fills rs h)
