-- `fill`: the invariant is `Filling`, for any rules that the table holds.
use Rattle.std.proofs.Common.{refl, arith}
use Rattle.longest_match.proofs.Cutting.{cutting_within, cutting_stop, lex_stop, lex-end}
use Rattle.longest_match.proofs.Parts.{part_end}
use Rattle.lexer.proofs.Filled.{filling_start, filling_room, filling_mask_room, filling_next, filling_stop}
use Rattle.lexer.proofs.filling.fill.Goals as goal

pub loop-place-init : goal.loop-place-init
loop-place-init c = λ rs h. filling_start rs _ _ _ (c.requires.room rs h)

pub tag_of-tag-requires : goal.tag_of-tag-requires
tag_of-tag-requires c =
    let held = c.requires.held in
    let one = c.in-Some.ensures.chooses held.rules _ held.holds (part_end _ _) in
    record { rule = _; table = held.holds.each _ (one.known c.in-Some.ensures.some_byte) }

pub put_record-requires : goal.put_record-requires
put_record-requires c =
    let held = c.requires.held in
    filling_room (c.loop-place.invariant held.rules held.holds) (c.in-Some.ensures.chooses held.rules _ held.holds (part_end _ _))
    c.in-Some.ensures.some_byte

pub put_mask-requires : goal.put_mask-requires
put_mask-requires c =
    let held = c.requires.held in
    filling_mask_room (c.loop-place.invariant held.rules held.holds)
    (c.in-Some.ensures.chooses held.rules _ held.holds (part_end _ _))
    c.in-Some.ensures.some_byte
    (c.in-Some.ensures.agrees held.rules _ held.holds (part_end _ _))

pub overflow_add-place : goal.overflow_add-place
overflow_add-place c =
    let held = c.requires.held in
    omega (
      arith,
      cutting_within (c.loop-place.invariant held.rules held.holds).cut
          (c.in-Some.ensures.chooses held.rules _ held.holds (part_end _ _))
          c.in-Some.ensures.some_byte,
    )

pub loop-place-preserved : goal.loop-place-preserved
loop-place-preserved c = λ rs h.
    let chooses = c.in-Some.ensures.chooses rs _ h (part_end _ _) in
    filling_next (c.loop-place.invariant rs h) chooses c.in-Some.ensures.some_byte
    (c.tag_of-tag.ensures _ (h.each _ (chooses.known c.in-Some.ensures.some_byte)))
    (c.in-Some.ensures.agrees rs _ h (part_end _ _)) c.put_record.ensures c.put_mask.ensures

pub returns-after-loop-place-clause-cuts : goal.returns-after-loop-place-clause-cuts
returns-after-loop-place-clause-cuts c = λ rs h. cutting_stop (c.loop-place.invariant rs h).cut (lex-end rs c.args.text.now c.loop-place.place (omega arith))

pub returns-after-loop-place-clause-fills : goal.returns-after-loop-place-clause-fills
returns-after-loop-place-clause-fills c = λ rs h. filling_stop (c.loop-place.invariant rs h) (lex-end rs c.args.text.now c.loop-place.place (omega arith))

pub returns-in_default-clause-cuts : goal.returns-in_default-clause-cuts
returns-in_default-clause-cuts c = λ rs h.
    cutting_stop (c.loop-place.invariant rs h).cut
    (lex_stop rs _ ((c.in_default.ensures.chooses rs _ h (part_end _ _)).nothing refl))

pub returns-in_default-clause-fills : goal.returns-in_default-clause-fills
returns-in_default-clause-fills c = λ rs h.
    filling_stop (c.loop-place.invariant rs h)
    (lex_stop rs _ ((c.in_default.ensures.chooses rs _ h (part_end _ _)).nothing refl))
