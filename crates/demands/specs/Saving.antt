-- Document 02, wish 2: saving while a cut is unfinished. Between two turns the plain printer takes the tokens that they have given, and
-- writes the text up to the next place.
use Rattle.answer.specs.declared.Refusal.{Refusal}
use Rattle.answer.specs.declared.Turn.{Turn}
use Rattle.answer.specs.declared.Reason.TheVariants.{OutputTooShort}
use Rattle.answer.specs.Answers.{turned}
use Rattle.std.specs.Prelude.{◌≡◌, Bool, List, [], ◌∷◌, ◌++◌, ℕ, ◌+◌, ◌-◌, ◌*◌, ◌<◌, ◌≤◌, length, take, drop, Result, Ok, Err}
use Rattle.automaton.specs.Choice.{All}
use Rattle.automaton.specs.Rule.{Rule}
use Rattle.book.specs.Limits.{max_text}
use Rattle.record.specs.Records.{record_count}
use Rattle.record.specs.Tokens.{InPool}
use Rattle.record.specs.Masks.{mask_count}
use Rattle.demands.specs.Calls.{Form, bytes, Lent, structs_in, list_in, Turning, Print}
use Rattle.demands.specs.Words.{Book}
use Rattle.demands.specs.Turns.{Taken, FromTo, given}

-- ---- the records of turns

-- the records that turns have stored, those of each behind those of the turns before it
abbrev pub stored : List Taken → List ℕ
stored [] = []
stored (t ∷ ts) = take (10 * t.tokens) t.exit ++ stored ts

-- A turn is lent a part of a slice of records, from number `count` on. The slice holds `before`, and `after` once the turn is over: what
-- lies in front of the part and behind it stays.
pub record LentFrom (count : ℕ) (before after : List ℕ) (t : Taken) : Type 0 where
  pub front : List ℕ
  pub behind : List ℕ
  pub from : length front ≡ 10 * count
  pub lent : before ≡ front ++ t.entry ++ behind
  pub left : after ≡ front ++ t.exit ++ behind

-- Turns are lent parts of one slice, each from where the records of the one before it end: behind the first `count` records of a slice
-- that holds `before`. In the end it holds `after`, with `total` records at its start.
abbrev pub InOneSlice : ℕ → List ℕ → List Taken → ℕ → List ℕ → Type 0
InOneSlice count before [] total after = (count ≡ total) × (before ≡ after)
InOneSlice count before (t ∷ ts) total after =
    (between : List ℕ) × LentFrom count before between t × InOneSlice (count + t.tokens) between ts total after

-- ---- what saving answers and leaves

-- With room for the bytes before the next place it is accepted and writes just these; with less it is refused by 22, which names them.
pub record Saves (text : List ℕ) (next : ℕ) (entry exit : List ℕ) (r : Result ℕ Refusal) : Type 0 where
  pub next_within : next ≤ length text
  pub accepts : next ≤ length entry → r ≡ Ok next
  pub writes : next ≤ length entry → exit ≡ take next text ++ drop next entry
  pub needs : length entry < next → r ≡ Err (record { reason = OutputTooShort; place = next })
  pub leaves : length entry < next → exit ≡ entry

module _ (book : List ℕ) (rules : List Rule) where
  -- The printer is lent the records of turns from place 0, finished or not, whatever their budgets, and the text as their pool:
  -- the first ones of the slice in which they were stored,
  abbrev pub SavedBetweenTurns : Type 0
  SavedBetweenTurns = (text : List ℕ) (ts : List Taken) (next : ℕ) → FromTo book text 0 ts next
      → (before after : List ℕ) (total : ℕ) → InOneSlice 0 before ts total after
      → (entry exit : List ℕ) (r : Result ℕ Refusal) → Print bytes book (take (10 * total) after) text entry exit r
      → Saves text next entry exit r

  -- or a copy of them,
  abbrev pub SavedFromCopies : Type 0
  SavedFromCopies = (text : List ℕ) (ts : List Taken) (next : ℕ) → FromTo book text 0 ts next
      → (entry exit : List ℕ) (r : Result ℕ Refusal) → Print bytes book (stored ts) text entry exit r → Saves text next entry exit r

  -- or the same list in any form, wherever a pool holds it.
  abbrev pub SavedInAnyForm : Type 0
  SavedInAnyForm = (text : List ℕ) (ts : List Taken) (next : ℕ) → FromTo book text 0 ts next
      → (f : Form) (list : Lent f) (pool entry exit : List ℕ) (r : Result ℕ Refusal) → Print f book list pool entry exit r
      → All (InPool pool) (structs_in f list) → list_in f list pool ≡ given ts text → Saves text next entry exit r

  -- A record and a mask for each byte of the text are enough: no turn in such a slice is refused, however many there were before it.
  abbrev pub RoomForTurns : Type 0
  RoomForTurns = (text : List ℕ) (ts : List Taken) (place : ℕ) → FromTo book text 0 ts place → length text ≤ max_text
      → (before after : List ℕ) (total : ℕ) → InOneSlice 0 before ts total after → length text ≤ record_count before
      → (budget : ℕ) (exit masks masks₁ : List ℕ) (r : Result Turn Refusal)
      → Turning book text place budget (drop (10 * total) after) exit masks masks₁ r → length text - place ≤ mask_count masks
      → (n : ℕ) × (next : ℕ) × (examined : ℕ) × (finished : Bool) × (r ≡ turned n next examined finished)

-- ---- together

pub record SavingKept (book : List ℕ) (rules : List Rule) : Type 0 where
  pub saved_between_turns : SavedBetweenTurns book rules
  pub saved_from_copies : SavedFromCopies book rules
  pub saved_in_any_form : SavedInAnyForm book rules
  pub room_for_turns : RoomForTurns book rules

abbrev pub EverySave : Type 0
EverySave = (book : List ℕ) (rules : List Rule) → Book book rules → SavingKept book rules
