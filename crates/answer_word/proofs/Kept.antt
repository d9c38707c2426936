-- An answer is had back from its word, where it fits. Assumes nothing.
use Rattle.answer.specs.declared.Cut.{Cut}
use Rattle.answer.specs.declared.RuleName.{RuleName}
use Rattle.answer.specs.declared.Turn.{Turn}
use Rattle.std.specs.Prelude.{Result, Ok, Err}
use Rattle.answer.specs.declared.Reason.{Reason}
use Rattle.answer.specs.declared.Reason.TheVariants as reason
use Rattle.answer.specs.Refusals.{number_of, reason_of}
use mathlib.Core.Path.{◌≡◌, refl}
use mathlib.Core.Bool.{Bool, true, false}
use Prim.Native.Nat.{ℕ, ◌≤◌}
use native.Mathlib.Omega.{arith}
use lib.Dec.{eqb}
use Rattle.std.proofs.Math.Option.{some}
use Rattle.answer.specs.declared.Refusal.{Refusal}
use Rattle.answer_word.specs.Words.{largest_place, largest_value, refusal_word, accepted_word, book_word, rule_word, lex_word, print_word}
use Rattle.answer_word.specs.Words.{turn_word, next_after, examined_after, turn_answer_in}
use Rattle.answer_word.specs.Words.{number_in, place_in, first_in, second_in, refusal_in}
use Rattle.answer_word.specs.Words.{book_answer_in, rule_answer_in, lex_answer_in, print_answer_in}

-- ---- what is said of an answer that fits: its values are in their parts; its refusal is at a place in its part

pub record RefusalFits (f : Refusal) : Type 0 where
  pub place-within : f.place ≤ largest_place

abbrev pub BookFits : Result ℕ Refusal → Type 0
BookFits (Ok rules) = rules ≤ largest_value
BookFits (Err f) = RefusalFits f

abbrev pub RuleFits : Result RuleName Refusal → Type 0
RuleFits (Ok r) = (r.tag ≤ largest_value) × (r.kind ≤ largest_value)
RuleFits (Err f) = RefusalFits f

abbrev pub LexFits : Result Cut Refusal → Type 0
LexFits (Ok cut) = (cut.tokens ≤ largest_value) × (cut.rest ≤ largest_value)
LexFits (Err f) = RefusalFits f

abbrev pub TurnFits : Result Turn Refusal → Type 0
TurnFits (Ok turn) = turn.tokens ≤ largest_value
TurnFits (Err f) = RefusalFits f

abbrev pub PrintFits : Result ℕ Refusal → Type 0
PrintFits (Ok bytes) = bytes ≤ largest_value
PrintFits (Err f) = RefusalFits f

-- ---- words

-- two values, each in its part
module _ (first second : ℕ) (l : first ≤ largest_value) (m : second ≤ largest_value) where
  accepted_number : number_in (accepted_word first second) ≡ 0
  accepted_number = omega arith

  accepted_first : first_in (accepted_word first second) ≡ first
  accepted_first = omega arith

  accepted_second : second_in (accepted_word first second) ≡ second
  accepted_second = omega arith

-- the reason is had back from its number, which is not 0
reason_kept : (r : Reason) → reason_of (number_of r) ≡ some r
reason_kept reason.BookTooLong = refl
reason_kept reason.CutOff = refl
reason_kept reason.Misplaced = refl
reason_kept reason.BytesAfterEnd = refl
reason_kept reason.TooMany = refl
reason_kept reason.OutOfRange = refl
reason_kept reason.TagTaken = refl
reason_kept reason.TwiceOrMissing = refl
reason_kept reason.Overlap = refl
reason_kept reason.LeavesError = refl
reason_kept reason.ErrorFinal = refl
reason_kept reason.StartFinal = refl
reason_kept reason.NoRule = refl
reason_kept reason.TextTooLong = refl
reason_kept reason.TooFewRecords = refl
reason_kept reason.TooManyTokens = refl
reason_kept reason.PastThePool = refl
reason_kept reason.UnknownTag = refl
reason_kept reason.NotAlone = refl
reason_kept reason.OutputTooLong = refl
reason_kept reason.ReadOn = refl
reason_kept reason.OutputTooShort = refl
reason_kept reason.SharedByte = refl
reason_kept reason.UnknownMode = refl
reason_kept reason.NoSeparator = refl
reason_kept reason.SeparatorInList = refl
reason_kept reason.PastTheText = refl
reason_kept reason.NoExpression = refl
reason_kept reason.LargeExpression = refl
reason_kept reason.TooManySets = refl
reason_kept reason.Retired = refl

number_some : (r : Reason) → eqb (number_of r) 0 ≡ false
number_some reason.BookTooLong = refl
number_some reason.CutOff = refl
number_some reason.Misplaced = refl
number_some reason.BytesAfterEnd = refl
number_some reason.TooMany = refl
number_some reason.OutOfRange = refl
number_some reason.TagTaken = refl
number_some reason.TwiceOrMissing = refl
number_some reason.Overlap = refl
number_some reason.LeavesError = refl
number_some reason.ErrorFinal = refl
number_some reason.StartFinal = refl
number_some reason.NoRule = refl
number_some reason.TextTooLong = refl
number_some reason.TooFewRecords = refl
number_some reason.TooManyTokens = refl
number_some reason.PastThePool = refl
number_some reason.UnknownTag = refl
number_some reason.NotAlone = refl
number_some reason.OutputTooLong = refl
number_some reason.ReadOn = refl
number_some reason.OutputTooShort = refl
number_some reason.SharedByte = refl
number_some reason.UnknownMode = refl
number_some reason.NoSeparator = refl
number_some reason.SeparatorInList = refl
number_some reason.PastTheText = refl
number_some reason.NoExpression = refl
number_some reason.LargeExpression = refl
number_some reason.TooManySets = refl
number_some reason.Retired = refl

-- a refusal, at a place in its part
module _ {f : Refusal} (r : RefusalFits f) where
  refused_number : number_in (refusal_word f) ≡ number_of f.reason
  refused_number = omega (arith, r.place-within)

  refused_place : place_in (refusal_word f) ≡ f.place
  refused_place = omega (arith, r.place-within)

  refusal_kept : refusal_in (refusal_word f) ≡ some f
  refusal_kept = rw (refused_number, refused_place, reason_kept f.reason)

  refused_some : eqb (number_in (refusal_word f)) 0 ≡ false
  refused_some = rw refused_number (number_some f.reason)

-- ---- answers

pub book_kept : (a : Result ℕ Refusal) → BookFits a → book_answer_in (book_word a) ≡ some a
book_kept (Ok n) l = rw (accepted_number n 0 l (omega arith), accepted_first n 0 l (omega arith))
book_kept (Err f) w = rw (refused_some w, refusal_kept w)

pub rule_kept : (a : Result RuleName Refusal) → RuleFits a → rule_answer_in (rule_word a) ≡ some a
rule_kept (Ok r) (l, m) = rw (accepted_number r.tag r.kind l m, accepted_first r.tag r.kind l m, accepted_second r.tag r.kind l m)
rule_kept (Err f) w = rw (refused_some w, refusal_kept w)

pub lex_kept : (a : Result Cut Refusal) → LexFits a → lex_answer_in (lex_word a) ≡ some a
lex_kept (Ok cut) (l, m) =
    rw (accepted_number cut.tokens cut.rest l m, accepted_first cut.tokens cut.rest l m, accepted_second cut.tokens cut.rest l m)
lex_kept (Err f) w = rw (refused_some w, refusal_kept w)

-- with the two numbers that are left beside the word, whatever stood there before
pub turn_kept : (a : Result Turn Refusal) (next examined : ℕ) → TurnFits a
    → turn_answer_in (turn_word a) (next_after a next) (examined_after a examined) ≡ some a
turn_kept (Ok turn) next examined l = told turn.finished refl
  where
    told : (b : Bool) → turn.finished ≡ b → turn_answer_in (turn_word (Ok turn)) turn.next turn.examined ≡ some (Ok turn)
    told true e =
        rw (e, accepted_number turn.tokens 1 l (omega arith), accepted_first turn.tokens 1 l (omega arith), accepted_second turn.tokens 1 l (omega arith))
    told false e =
        rw (e, accepted_number turn.tokens 0 l (omega arith), accepted_first turn.tokens 0 l (omega arith), accepted_second turn.tokens 0 l (omega arith))
turn_kept (Err f) next examined w = rw (refused_some w, refusal_kept w)

pub print_kept : (a : Result ℕ Refusal) → PrintFits a → print_answer_in (print_word a) ≡ some a
print_kept (Ok n) l = rw (accepted_number n 0 l (omega arith), accepted_first n 0 l (omega arith))
print_kept (Err f) w = rw (refused_some w, refusal_kept w)
