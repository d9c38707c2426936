-- `pending_at`: no token, or the one that is chosen.
use Rattle.std.proofs.Common.{refl, ap, length-drop, ℕ, ◌%◌, arith}
use Rattle.automaton.proofs.Tests.{clash}
use Rattle.longest_match.proofs.Parts.{part_end}
use Rattle.slices.proofs.lexing.pending_at.Goals as goal

pub returns-in_default : goal.returns-in_default
returns-in_default c = λ rs h. record {
  plain = refl;
  stored = refl;
  stops = λ _. ((c.in_default.ensures.chooses rs _ h (part_end _ _)).nothing refl, refl);
  goes = λ p. clash p refl;
}

pub tag_of-tag-requires : goal.tag_of-tag-requires
tag_of-tag-requires c =
    let held = c.requires.held in
    let one = c.in-Some.ensures.chooses held.rules _ held.holds (part_end _ _) in
    record { rule = _; table = held.holds.each _ (one.known c.in-Some.ensures.some_byte) }

pub overflow_cast-result-3 : goal.overflow_cast-result-3
overflow_cast-result-3 c =
    let held = c.requires.held in
    let one = c.in-Some.ensures.chooses held.rules _ held.holds (part_end _ _) in
    omega (arith, simp length-drop at one.within)

pub overflow_add-result : goal.overflow_add-result
overflow_add-result c =
    let held = c.requires.held in
    let one = c.in-Some.ensures.chooses held.rules _ held.holds (part_end _ _) in
    omega (arith, simp length-drop at one.within)

pub returns : goal.returns
returns c = λ rs h.
    let chooses = c.in-Some.ensures.chooses rs _ h (part_end _ _) in
    let some = c.in-Some.ensures.some_byte in
    record {
      plain = refl;
      stored = refl;
      stops = λ p. clash refl p;
      goes = λ _. record {
        rule = c.in-Some.c.rule;
        chooses = chooses;
        some = some;
        tag = ap (λ (x : ℕ). x % 65536) (c.tag_of-tag.ensures _ (h.each _ (chooses.known some)));
        place = refl;
        agrees = c.in-Some.ensures.agrees rs _ h (part_end _ _);
        next = omega arith;
      };
    }
