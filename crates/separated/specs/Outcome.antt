-- The paper's spacing writing, as a whole: from the book's bytes, the separator token, the mode, the records, their pool and the lent
-- output to the answer and what the output holds afterwards.
use Rattle.answer.specs.declared.Reason.TheVariants.{OutputTooLong}
use Rattle.std.specs.Prelude.{List, ℕ}
use Rattle.automaton.specs.Rule.{Rule}
use Rattle.book.specs.Limits.{max_text}
use Rattle.reader.specs.Reading.{Reading, accepted, refused, read_book}
use Rattle.record.specs.declared.TokenRecord.{TokenRecord}
use Rattle.output.specs.Outcome.{PrintOutcome, print_refused, unless, written_up_to}
use Rattle.spacing.specs.Separators.{spelled}
use Rattle.separated.specs.Refusals.{separated_refusal}

-- 20, separators counted, and 22, then the bytes
abbrev pub writing : List ℕ → List ℕ → PrintOutcome
writing bytes out = written_up_to max_text OutputTooLong bytes out

unfoldable pub separated_rules : List Rule → TokenRecord → ℕ → List ℕ → List ℕ → List ℕ → PrintOutcome
separated_rules rules sep mode records pool out =
    unless (separated_refusal rules sep mode records pool) out (writing (spelled rules sep mode records pool) out)

-- the book's refusals first
abbrev pub separated_reading : Reading → TokenRecord → ℕ → List ℕ → List ℕ → List ℕ → PrintOutcome
separated_reading (refused reason place) sep mode records pool out = print_refused reason place out
separated_reading (accepted rules) sep mode records pool out = separated_rules rules sep mode records pool out

unfoldable pub separated_outcome : List ℕ → TokenRecord → ℕ → List ℕ → List ℕ → List ℕ → PrintOutcome
separated_outcome book sep mode records pool out = separated_reading (read_book book) sep mode records pool out
