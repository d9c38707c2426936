-- Cutting (document 01, 'What each operation refuses'), as a function from what a call is lent to what it answers and leaves behind; and
-- the rest of a text.
use Rattle.answer.specs.declared.Reason.{Reason}
use Rattle.answer.specs.declared.Cut.{Cut}
use Rattle.answer.specs.declared.Refusal.{Refusal}
use Rattle.std.specs.Prelude.{Result, Err, List, ◌++◌, ℕ, ◌-◌, ◌*◌, ltb, length, drop}
use Rattle.answer.specs.declared.Reason.TheVariants.{TextTooLong, TooFewRecords}
use Rattle.answer.specs.Answers.{lexed}
use Rattle.automaton.specs.Choice.{if}
use Rattle.automaton.specs.Rule.{Rule}
use Rattle.book.specs.Limits.{max_text}
use Rattle.reader.specs.Reading.{Reading, accepted, refused, read_book}
use Rattle.longest_match.specs.Lexer.{Lexed, lex}
use Rattle.record.specs.Records.{records_at, record_count}

-- ---- The cut.

-- the answer, and what the lent records hold afterwards
pub record LexOutcome : Type 0 where
  pub answer : Result Cut Refusal
  pub records : List ℕ

-- refused for this reason at this place, with the records as they were
abbrev pub lex_refused : Reason → ℕ → List ℕ → LexOutcome
lex_refused reason place records =
    record { answer = Err (record { reason = reason; place = place }); records = records }

-- accepted: how many tokens there are and where the rest begins; the records of the tokens, and every byte past them as it was
abbrev pub lex_accepted : Lexed → List ℕ → List ℕ → LexOutcome
lex_accepted cut text records =
    record {
      answer = lexed (length cut.tokens) (length text - length cut.rest);
      records = records_at 0 cut.tokens ++ drop (10 * length cut.tokens) records;
    }

-- by the rules of an accepted book: 14 where the text is too long, 15 where there are fewer records than tokens, at the number of tokens
unfoldable pub lex_rules : List Rule → List ℕ → List ℕ → LexOutcome
lex_rules rules text records =
    if (ltb max_text (length text)) (lex_refused TextTooLong 0 records)
    (if (ltb (record_count records) (length (lex rules text).tokens))
    (lex_refused TooFewRecords (length (lex rules text).tokens) records)
    (lex_accepted (lex rules text) text records))

-- the refusals of the book come first
abbrev pub lex_reading : Reading → List ℕ → List ℕ → LexOutcome
lex_reading (refused reason place) text records = lex_refused reason place records
lex_reading (accepted rules) text records = lex_rules rules text records

-- by the bytes of a book
unfoldable pub lex_outcome : List ℕ → List ℕ → List ℕ → LexOutcome
lex_outcome book text records = lex_reading (read_book book) text records

-- ---- The rest; the whole text after a refusal of the book, or by 14.

-- 14
abbrev pub rest_rules : List Rule → List ℕ → List ℕ
rest_rules rules text = if (ltb max_text (length text)) text (lex rules text).rest

-- the book is refused
abbrev pub rest_reading : Reading → List ℕ → List ℕ
rest_reading (refused _ _) text = text
rest_reading (accepted rules) text = rest_rules rules text

-- what the call for the rest hands back ('Cutting', sentence 3), by the bytes of a book
unfoldable pub rest_of : List ℕ → List ℕ → List ℕ
rest_of book text = rest_reading (read_book book) text
