-- An answer in 64 bits: bits 56 to 63 the refusal's number, 0 where accepted. Refused: bits 0 to 55 the place. Accepted: bits 28 to 55
-- the first value, bits 0 to 27 the second. A value that has more bits than its part is answered as the largest of the part: no
-- buffer that a machine can lend has such a place, and no accepted call such a value (Kept of zagvulem).
use Rattle.answer.specs.Refusals.{number_of, reason_of}
use Rattle.answer.specs.declared.Cut.{Cut}
use Rattle.answer.specs.declared.RuleName.{RuleName}
use Rattle.answer.specs.declared.Reason.{Reason}
use Rattle.answer.specs.declared.Turn.{Turn}
use Rattle.std.specs.Prelude.{Result, Ok, Err}
use Rattle.answer.specs.Answers.{lexed, named, turned}
use Rattle.std.specs.Prelude.{Bool, true, false, ℕ, ◌+◌, ◌*◌, ◌/◌, ◌%◌, min, eqb}
use Rattle.std.proofs.Math.Option.{Option, none, some}
use Rattle.answer.specs.declared.Refusal.{Refusal}
use Rattle.longest_match.specs.Masks.{bit}

-- ---- An answer's word.

abbrev pub largest_place : ℕ
largest_place = 72057594037927935

abbrev pub largest_value : ℕ
largest_value = 268435455

abbrev pub refusal_word : Refusal → ℕ
refusal_word f = number_of f.reason * 72057594037927936 + min f.place largest_place

abbrev pub accepted_word : ℕ → ℕ → ℕ
accepted_word first second = min first largest_value * 268435456 + min second largest_value

-- rule count, 0
abbrev pub book_word : Result ℕ Refusal → ℕ
book_word (Ok rules) = accepted_word rules 0
book_word (Err f) = refusal_word f

-- tag, kind
abbrev pub rule_word : Result RuleName Refusal → ℕ
rule_word (Ok r) = accepted_word r.tag r.kind
rule_word (Err f) = refusal_word f

-- token count, place of the rest
abbrev pub lex_word : Result Cut Refusal → ℕ
lex_word (Ok cut) = accepted_word cut.tokens cut.rest
lex_word (Err f) = refusal_word f

-- token count, 1 where the turn is finished and 0 where it is spent; the next place and the bytes examined go into two numbers that are
-- lent, which a refusal leaves as they were
abbrev pub turn_word : Result Turn Refusal → ℕ
turn_word (Ok turn) = accepted_word turn.tokens (bit turn.finished)
turn_word (Err f) = refusal_word f

abbrev pub next_after : Result Turn Refusal → ℕ → ℕ
next_after (Ok turn) before = turn.next
next_after (Err f) before = before

abbrev pub examined_after : Result Turn Refusal → ℕ → ℕ
examined_after (Ok turn) before = turn.examined
examined_after (Err f) before = before

-- byte count, 0
abbrev pub print_word : Result ℕ Refusal → ℕ
print_word (Ok bytes) = accepted_word bytes 0
print_word (Err f) = refusal_word f

-- ---- What a word says, as zgv_number, zgv_place, zgv_first and zgv_second of include/zagvulem.h read it.

abbrev pub number_in : ℕ → ℕ
number_in w = w / 72057594037927936

abbrev pub place_in : ℕ → ℕ
place_in w = w % 72057594037927936

abbrev pub first_in : ℕ → ℕ
first_in w = w / 268435456 % 268435456

abbrev pub second_in : ℕ → ℕ
second_in w = w % 268435456

abbrev pub refusal_for : Option Reason → ℕ → Option Refusal
refusal_for (some why) place = some (record { reason = why; place = place })
refusal_for none place = none

-- none of a word whose number is no refusal's
abbrev pub refusal_in : ℕ → Option Refusal
refusal_in w = refusal_for (reason_of (number_in w)) (place_in w)

-- what is accepted where the number is 0, else the refusal; nothing where there is none
abbrev pub said : {A : Type 0} → Bool → Result A Refusal → Option Refusal → Option (Result A Refusal)
said true accepted refusal = some accepted
said false accepted (some f) = some (Err f)
said false accepted none = none

abbrev pub book_answer_in : ℕ → Option (Result ℕ Refusal)
book_answer_in w = said (eqb (number_in w) 0) (Ok (first_in w)) (refusal_in w)

abbrev pub rule_answer_in : ℕ → Option (Result RuleName Refusal)
rule_answer_in w = said (eqb (number_in w) 0) (named (first_in w) (second_in w)) (refusal_in w)

abbrev pub lex_answer_in : ℕ → Option (Result Cut Refusal)
lex_answer_in w = said (eqb (number_in w) 0) (lexed (first_in w) (second_in w)) (refusal_in w)

-- with the two numbers beside it
abbrev pub turn_answer_in : ℕ → ℕ → ℕ → Option (Result Turn Refusal)
turn_answer_in w next examined =
    said (eqb (number_in w) 0) (turned (first_in w) next examined (eqb (second_in w) 1)) (refusal_in w)

abbrev pub print_answer_in : ℕ → Option (Result ℕ Refusal)
print_answer_in w = said (eqb (number_in w) 0) (Ok (first_in w)) (refusal_in w)
