-- `fill`: the invariant is `Filling` by the built-in rules.
use Rattle.std.proofs.Common.{arith}
use Rattle.longest_match.proofs.Cutting.{cutting_stop, lex_stop, lex-end}
use Rattle.lexer.proofs.Filled.{filling_start, filling_room, filling_mask_room, filling_next, filling_stop}
use Rattle.builtin.specs.Book.{builtin_rules}
use Rattle.builtin.proofs.Scanned.{picked, agrees}
use Rattle.builtin.proofs.fill.Goals as goal

pub loop-place-init : goal.loop-place-init
loop-place-init c = filling_start builtin_rules _ _ _ c.requires

pub put_record-requires : goal.put_record-requires
put_record-requires c = filling_room c.loop-place.invariant (picked c.in-Some.ensures).chooses c.in-Some.ensures.some

pub put_mask-requires : goal.put_mask-requires
put_mask-requires c =
    filling_mask_room c.loop-place.invariant (picked c.in-Some.ensures).chooses c.in-Some.ensures.some (agrees c.in-Some.ensures)

pub loop-place-preserved : goal.loop-place-preserved
loop-place-preserved c =
    let token = picked c.in-Some.ensures in
    let tag = token.names in
    filling_next c.loop-place.invariant token.chooses c.in-Some.ensures.some (cc (tag, c.tag_of.ensures, c.from-tag.ensures))
    (rw c.mask_of.ensures (agrees c.in-Some.ensures)) c.put_record.ensures c.put_mask.ensures

pub returns-after-loop-place-clause-cuts : goal.returns-after-loop-place-clause-cuts
returns-after-loop-place-clause-cuts c =
    cutting_stop c.loop-place.invariant.cut (lex-end builtin_rules c.args.text.now c.loop-place.place (omega arith))

pub returns-after-loop-place-clause-fills : goal.returns-after-loop-place-clause-fills
returns-after-loop-place-clause-fills c =
    filling_stop c.loop-place.invariant (lex-end builtin_rules c.args.text.now c.loop-place.place (omega arith))

pub returns-in_default-clause-cuts : goal.returns-in_default-clause-cuts
returns-in_default-clause-cuts c = cutting_stop c.loop-place.invariant.cut (lex_stop builtin_rules _ c.in_default.ensures)

pub returns-in_default-clause-fills : goal.returns-in_default-clause-fills
returns-in_default-clause-fills c = filling_stop c.loop-place.invariant (lex_stop builtin_rules _ c.in_default.ensures)
