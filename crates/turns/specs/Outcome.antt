-- Cutting in turns, as a function from what a call is lent to what it answers and leaves behind (document 02, wish 1).
use Rattle.answer.specs.declared.Reason.{Reason}
use Rattle.answer.specs.declared.Refusal.{Refusal}
use Rattle.answer.specs.declared.Turn.{Turn as TurnTaken}
use Rattle.std.specs.Prelude.{Result, Err, List, ◌++◌, ℕ, ◌-◌, ◌*◌, min, ltb, length, drop}
use Rattle.answer.specs.declared.Reason.TheVariants.{PastTheText, TextTooLong, TooFewRecords}
use Rattle.answer.specs.Answers.{turned}
use Rattle.automaton.specs.Choice.{if}
use Rattle.automaton.specs.Rule.{Rule}
use Rattle.book.specs.Limits.{max_text}
use Rattle.reader.specs.Reading.{Reading, accepted, refused, read_book}
use Rattle.longest_match.specs.Masks.{masks_of}
use Rattle.record.specs.Records.{records_at, record_count}
use Rattle.record.specs.Masks.{mask_bytes, mask_count}
use Rattle.turns.specs.Turn.{Turn, turn}

-- the answer, and what the lent records and masks hold afterwards
pub record TurnOutcome : Type 0 where
  pub answer : Result TurnTaken Refusal
  pub records : List ℕ
  pub masks : List ℕ

-- refused for this reason at this place, with the records and the masks as they were
abbrev pub turn_refused : Reason → ℕ → List ℕ → List ℕ → TurnOutcome
turn_refused reason place records masks =
    record { answer = Err (record { reason = reason; place = place }); records = records; masks = masks }

-- Accepted: how many tokens the turn has, the place behind them, what it examined and how it ended. Its records and its masks stand from
-- the start of what is lent, with places from the start of the text, and every byte past them is as it was.
abbrev pub turn_accepted : List Rule → Turn → List ℕ → ℕ → List ℕ → List ℕ → TurnOutcome
turn_accepted rules t text place records masks = record {
  answer = turned (length t.tokens) (length text - length t.rest) t.examined t.finished;
  records = records_at place t.tokens ++ drop (10 * length t.tokens) records;
  masks = mask_bytes (masks_of rules t.tokens) ++ drop (4 * length t.tokens) masks;
}

-- how many tokens there is room for, in records and in masks
abbrev pub room_in : List ℕ → List ℕ → ℕ
room_in records masks = min (record_count records) (mask_count masks)

-- By the rules of an accepted book: 14 where the text is too long; 27 where the place lies past it; 15 where the records or the masks are
-- fewer than the tokens of the turn, at their number.
unfoldable pub turn_rules : List Rule → List ℕ → ℕ → ℕ → List ℕ → List ℕ → TurnOutcome
turn_rules rules text place budget records masks =
    if (ltb max_text (length text)) (turn_refused TextTooLong 0 records masks)
    (if (ltb (length text) place) (turn_refused PastTheText 0 records masks)
    (if (ltb (room_in records masks) (length (turn rules (drop place text) budget).tokens))
    (turn_refused TooFewRecords (length (turn rules (drop place text) budget).tokens) records masks)
    (turn_accepted rules (turn rules (drop place text) budget) text place records masks)))

-- the refusals of the book come first
abbrev pub turn_reading : Reading → List ℕ → ℕ → ℕ → List ℕ → List ℕ → TurnOutcome
turn_reading (refused reason at) text place budget records masks = turn_refused reason at records masks
turn_reading (accepted rules) text place budget records masks = turn_rules rules text place budget records masks

-- by the bytes of a book
unfoldable pub turn_outcome : List ℕ → List ℕ → ℕ → ℕ → List ℕ → List ℕ → TurnOutcome
turn_outcome book text place budget records masks = turn_reading (read_book book) text place budget records masks
