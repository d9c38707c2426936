-- How the answers of the code come to the outcome of document 02. Assumes nothing.
use Rattle.answer.specs.declared.Turn.{Turn}
use Rattle.std.specs.Prelude.{Result, Ok, Err}
use Rattle.answer.specs.declared.Reason.TheVariants.{BookTooLong, PastTheText, TextTooLong, TooFewRecords}
use Rattle.answer.specs.Answers.{turned}
use mathlib.Core.Path.{◌≡◌, refl}
use mathlib.Core.Bool.{Bool, true, false}
use mathlib.Core.List.{List}
use Prim.Native.Nat.{ℕ, ◌<◌, ◌≤◌}
use native.Mathlib.Omega.{arith}
use lib.ListN.{length}
use borrow.Author.Tests.{lt-ltb, le-ltb}
use Rattle.answer.specs.declared.Refusal.{Refusal}
use Rattle.automaton.specs.Rule.{Rule}
use Rattle.automaton.specs.Layers.{Holds}
use Rattle.book.specs.Limits.{max_bytes, max_text}
use Rattle.reader.specs.Layers.{Loaded}
use Rattle.reader.proofs.Loading.{read_too_long}
use Rattle.reader.proofs.Loaded.{loaded_rules, loaded_refusal}
use Rattle.turns.specs.Outcome.{room_in, turn_rules, turn_outcome}
use Rattle.turns.specs.Layers.{turn_at, Room, Turned, Stores, Enough, Lacks, TurnAnswered}

-- ---- by the rules of an accepted book

module _ (rules : List Rule) (text : List ℕ) (place budget : ℕ) (records masks : List ℕ) where
  abbrev outcome : Result Turn Refusal → List ℕ → List ℕ → Type 0
  outcome = TurnAnswered (turn_rules rules text place budget records masks)

  pub answered_long : max_text < length text → outcome (Err (record { reason = TextTooLong; place = 0 })) records masks
  unfolding turn_rules
  answered_long l = rw (lt-ltb _ _ l) (record { answer = refl; records = refl; masks = refl })

  module _ (l : length text ≤ max_text) where
    pub answered_past : length text < place → outcome (Err (record { reason = PastTheText; place = 0 })) records masks
    unfolding turn_rules
    answered_past p = rw (le-ltb _ _ l, lt-ltb _ _ p) (record { answer = refl; records = refl; masks = refl })

    module _ (p : place ≤ length text) where
      pub answered_few : {n : ℕ} → Lacks rules text place budget (room_in records masks) n
          → outcome (Err (record { reason = TooFewRecords; place = n })) records masks
      unfolding turn_rules
      answered_few {n} few =
          rw (le-ltb _ _ l, le-ltb _ _ p, ← few.number, lt-ltb _ _ few.fewer)
          (record { answer = refl; records = refl; masks = refl })

      pub answered_turned : {tokens next examined : ℕ} {finished : Bool} {records-exit masks-exit : List ℕ}
          → length (turn_at rules text place budget).tokens ≤ room_in records masks
          → Turned rules text place budget tokens next examined finished
          → Stores true rules text place budget records records-exit masks masks-exit
          → outcome (turned tokens next examined finished) records-exit masks-exit
      unfolding turn_rules
      answered_turned room t s =
          rw (le-ltb _ _ l, le-ltb _ _ p, le-ltb _ _ room)
          (record {
            answer = cc (t.tokens_are, t.next_is, t.examined_is, t.finished_is);
            records = s.written refl;
            masks = s.agreed refl;
          })

-- ---- there is room

pub room_for : (rules : List Rule) (text : List ℕ) (place budget : ℕ) (records masks : List ℕ)
    → Enough rules text place budget (room_in records masks) → Room rules text place budget records masks
room_for rules text place budget records masks l = record { in_records = omega arith; in_masks = omega arith }

-- ---- where nothing is written, what is lent stands as it did

pub stores_nothing : {rules : List Rule} {text : List ℕ} {place budget : ℕ} {entry exit masks-entry masks-exit : List ℕ}
    → Stores false rules text place budget entry exit masks-entry masks-exit → (exit ≡ entry) × (masks-exit ≡ masks-entry)
stores_nothing s = (s.left refl, s.masks_left refl)

-- ---- by the bytes of a book

module _ {bytes tb : List ℕ} {b : Result ℕ Refusal} {n : ℕ} (l : Loaded bytes b tb) (a : b ≡ Ok n) where
  pub answered_book : (text : List ℕ) (place budget : ℕ) (records masks records-exit masks-exit : List ℕ) (r : Result Turn Refusal)
      → ((rules : List Rule) → Holds tb rules → TurnAnswered (turn_rules rules text place budget records masks) r records-exit masks-exit)
      → TurnAnswered (turn_outcome bytes text place budget records masks) r records-exit masks-exit
  unfolding turn_outcome
  answered_book text place budget records masks records-exit masks-exit r h =
      let read = loaded_rules l a in
      rw read.1.0 (h read.0 read.1.1)

module _ {bytes tb : List ℕ} {b : Result ℕ Refusal} {f : Refusal} (l : Loaded bytes b tb) (a : b ≡ Err f) where
  pub answered_refused : (text : List ℕ) (place budget : ℕ) (records masks : List ℕ)
      → TurnAnswered (turn_outcome bytes text place budget records masks) (Err f) records masks
  unfolding turn_outcome
  answered_refused text place budget records masks =
      rw (loaded_refusal l a) (record { answer = refl; records = refl; masks = refl })

-- a book that is too long is refused before it is read
pub answered_too_long : (bytes text : List ℕ) (place budget : ℕ) (records masks : List ℕ) → max_bytes < length bytes
    → TurnAnswered (turn_outcome bytes text place budget records masks) (Err (record { reason = BookTooLong; place = 0 })) records masks
unfolding turn_outcome
answered_too_long bytes text place budget records masks l =
    rw (read_too_long false bytes l) (record { answer = refl; records = refl; masks = refl })
