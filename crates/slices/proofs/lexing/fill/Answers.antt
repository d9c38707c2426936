-- `fill`: a turn stores one token and its mask.
use Rattle.std.proofs.Common.{length-drop, refl, arith}
use Rattle.longest_match.proofs.Cutting.{cutting_within, cutting_stop, lex_stop, lex-end}
use Rattle.longest_match.proofs.Parts.{part_end}
use Rattle.lexer.proofs.Filled.{filling_start, filling_stop}
use Rattle.slices.proofs.Storing.{token_room, mask_room, stored_next}
use Rattle.slices.proofs.lexing.fill.Goals as goal

pub loop-place-init : goal.loop-place-init
loop-place-init c = λ rs h. filling_start rs _ _ _ (c.requires.room.room rs h)

pub tag_of-tag-requires : goal.tag_of-tag-requires
tag_of-tag-requires c =
    let held = c.requires.room.held in
    let one = c.in-Some.ensures.chooses held.rules _ held.holds (part_end _ _) in
    record { rule = _; table = held.holds.each _ (one.known c.in-Some.ensures.some_byte) }

pub overflow_cast-tokens-in-loop-place-2 : goal.overflow_cast-tokens-in-loop-place-2
overflow_cast-tokens-in-loop-place-2 c =
    let held = c.requires.room.held in
    let chosen = c.in-Some.ensures.chooses held.rules _ held.holds (part_end _ _) in
    omega (arith, simp length-drop at chosen.within)

pub bounds-tokens-count : goal.bounds-tokens-count
bounds-tokens-count c =
    let held = c.requires.room.held in
    token_room c.loop-place.tokens c.loop-place.masks (c.loop-place.invariant held.rules held.holds) (c.in-Some.ensures.chooses held.rules _ held.holds (part_end _ _))
    c.in-Some.ensures.some_byte (c.in-Some.ensures.agrees held.rules _ held.holds (part_end _ _))

pub bounds-masks-count : goal.bounds-masks-count
bounds-masks-count c =
    let held = c.requires.room.held in
    mask_room c.loop-place.tokens c.loop-place.masks (c.loop-place.invariant held.rules held.holds) (c.in-Some.ensures.chooses held.rules _ held.holds (part_end _ _))
    c.in-Some.ensures.some_byte (c.in-Some.ensures.agrees held.rules _ held.holds (part_end _ _))

pub overflow_add-place : goal.overflow_add-place
overflow_add-place c =
    let held = c.requires.room.held in
    omega (
      arith,
      cutting_within (c.loop-place.invariant held.rules held.holds).cut
          (c.in-Some.ensures.chooses held.rules _ held.holds (part_end _ _))
          c.in-Some.ensures.some_byte,
    )

pub loop-place-preserved : goal.loop-place-preserved
loop-place-preserved c = λ rs h.
    let chooses = c.in-Some.ensures.chooses rs _ h (part_end _ _) in
    stored_next c.loop-place.tokens c.loop-place.masks (c.loop-place.invariant rs h) chooses c.in-Some.ensures.some_byte (c.in-Some.ensures.agrees rs _ h (part_end _ _))
    (c.tag_of-tag.ensures _ (h.each _ (chooses.known c.in-Some.ensures.some_byte)))

pub returns-after-loop-place-clause-cuts : goal.returns-after-loop-place-clause-cuts
returns-after-loop-place-clause-cuts c = λ rs h. cutting_stop (c.loop-place.invariant rs h).cut (lex-end rs c.args.text.now c.loop-place.place (omega arith))

pub returns-after-loop-place-clause-fills : goal.returns-after-loop-place-clause-fills
returns-after-loop-place-clause-fills c = λ rs h. filling_stop (c.loop-place.invariant rs h) (lex-end rs c.args.text.now c.loop-place.place (omega arith))

pub returns-in_default-clause-cuts : goal.returns-in_default-clause-cuts
returns-in_default-clause-cuts c = λ rs h.
    cutting_stop (c.loop-place.invariant rs h).cut
    (lex_stop rs _ ((c.in_default.ensures.chooses rs _ h (part_end _ _)).nothing refl))

pub returns-in_default-clause-fills : goal.returns-in_default-clause-fills
returns-in_default-clause-fills c = λ rs h.
    filling_stop (c.loop-place.invariant rs h)
    (lex_stop rs _ ((c.in_default.ensures.chooses rs _ h (part_end _ _)).nothing refl))
