-- Rewriting a book, as a function from what a call is lent to what it answers and leaves behind.
use Rattle.answer.specs.declared.Reason.TheVariants.{BookTooLong}
use Rattle.std.specs.Prelude.{List, ℕ}
use Rattle.book.specs.Limits.{max_bytes}
use Rattle.reader.specs.Reading.{Reading, accepted, refused, read_book}
use Rattle.output.specs.Outcome.{PrintOutcome, print_refused, written_up_to}
use Rattle.rewriting.specs.Rewritten.{rewritten}

-- the ordinary reading's refusals, then 1 where the longer book passes the limit, then 22
abbrev pub rewrite_reading : Reading → List ℕ → List ℕ → PrintOutcome
rewrite_reading (refused reason place) book out = print_refused reason place out
rewrite_reading (accepted rules) book out = written_up_to max_bytes BookTooLong (rewritten book) out

unfoldable pub rewrite_outcome : List ℕ → List ℕ → PrintOutcome
rewrite_outcome book out = rewrite_reading (read_book book) book out
