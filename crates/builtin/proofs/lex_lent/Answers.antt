-- `lex_lent`: each answer is a case of the outcome.
use Rattle.std.proofs.Common.{arith}
use Rattle.lexer.proofs.ByRules.{answered_long, answered_few, answered_lexed, enough, room_for}
use Rattle.builtin.specs.Book.{builtin_rules}
use Rattle.builtin.proofs.lex_lent.Goals as goal
use Rattle.builtin.proofs.lex_lent.Goals.{then-room-text+else-room-needed, else-room-text}

pub returns-then-text-gt-TEXT : goal.returns-then-text-gt-TEXT
returns-then-text-gt-TEXT c = rw c.at.ensures (answered_long builtin_rules _ _ _ (omega arith))

pub returns-then-room-needed : goal.returns-then-room-needed
returns-then-room-needed c =
    rw c.at-then-room-needed.ensures
    (answered_few builtin_rules _ _ _ (omega arith) c.count-needed.ensures
    (omega (arith, c.if-room-needed.true, c.room-room.ensures)))

-- there is room enough, counted or not
pub fill-requires : goal.fill-requires
fill-requires c =
    room_for builtin_rules _ _ _
    (elim c.if-room-text.branch [
      | then-room-text+else-room-needed w ↦
          omega (arith, w.count-needed.ensures.tokens_are, w.if-room-needed.false, c.room-room.ensures)
      | else-room-text w ↦ omega (arith, enough builtin_rules _ _ w.if-room-text.false, c.room-room.ensures)
    ])

pub returns : goal.returns
returns c =
    answered_lexed builtin_rules _ _ _ (omega arith)
    (elim c.if-room-text.branch [
      | then-room-text+else-room-needed w ↦
          omega (arith, w.count-needed.ensures.tokens_are, w.if-room-needed.false, c.room-room.ensures)
      | else-room-text w ↦ omega (arith, enough builtin_rules _ _ w.if-room-text.false, c.room-room.ensures)
    ])
    c.fill.ensures.cuts c.fill.ensures.fills
