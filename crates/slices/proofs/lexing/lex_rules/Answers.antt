-- `lex_rules`: what `check_room` refuses, or the tokens stored.
use Rattle.std.proofs.Common.{arith}
use Rattle.std.proofs.lemmas.Result.{err_from_is_err_and}
use Rattle.record.proofs.Encoding.{count_encoded}
use Rattle.record.proofs.Masks.{count_mask_bytes}
use Rattle.lexer.proofs.ByRules.{answered_lexed, room_of}
use Rattle.slices.proofs.lexing.lex_rules.Goals as goal

pub returns-in_err-check_room : goal.returns-in_err-check_room
returns-in_err-check_room c = λ rs h.
    let p = err_from_is_err_and c.from_residual.result c.from_residual.ensures.1 in
    rw (p.1, p.2)
    (c.in_err-check_room.ensures rs h _ _ (omega (arith, count_encoded c.args.tokens.now, count_mask_bytes c.args.masks.now)))

pub fill-requires-clause-room : goal.fill-requires-clause-room
fill-requires-clause-room c = room_of c.requires (λ rs h.
    omega (arith, (c.in_ok-check_room.ensures rs h).enough, count_encoded c.args.tokens.now, count_mask_bytes c.args.masks.now))

pub returns : goal.returns
returns c = λ rs h.
    let w = c.in_ok-check_room.ensures rs h in
    answered_lexed rs _ _ _ w.short (omega (arith, w.enough, count_encoded c.args.tokens.now, count_mask_bytes c.args.masks.now))
    (c.fill.ensures.cuts rs h) (c.fill.ensures.fills rs h)
