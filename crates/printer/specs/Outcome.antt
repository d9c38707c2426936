-- Plain writing (document 01, 'What each operation refuses'), as a function from what a call is lent to what it answers and leaves behind.
use Rattle.answer.specs.declared.Reason.TheVariants.{OutputTooLong, TooManyTokens}
use Rattle.std.specs.Prelude.{List, ℕ, ltb, length}
use Rattle.automaton.specs.Rule.{Rule}
use Rattle.book.specs.Limits.{max_text, max_tokens}
use Rattle.reader.specs.Reading.{Reading, accepted, refused, read_book}
use Rattle.longest_match.specs.Lexer.{Token, join}
use Rattle.record.specs.Records.{record_count}
use Rattle.record.specs.Tokens.{records_of, tokens_of}
use Rattle.output.specs.Outcome.{PrintOutcome, print_refused, refused_if, unless, written}
use Rattle.token_list.specs.Faults.{fault_of}
use Rattle.token_list.specs.Checks.{first_fault, first_extended}

-- ---- by rules

-- 20, 21, 22, then the tokens' bytes joined
unfoldable pub print_checked : List Rule → List Token → List ℕ → PrintOutcome
print_checked rules tokens out =
    refused_if (ltb max_text (length (join tokens))) OutputTooLong 0 out
    (unless (first_extended rules tokens 0) out
    (written (join tokens) out))

-- before that 16, and the first token at fault
unfoldable pub print_rules : List Rule → List ℕ → List ℕ → List ℕ → PrintOutcome
print_rules rules records pool out =
    refused_if (ltb max_tokens (record_count records)) TooManyTokens 0 out
    (unless (first_fault (fault_of rules pool) (records_of records) 0) out
    (print_checked rules (tokens_of records pool) out))

-- ---- by a book

-- the book's refusals first
abbrev pub print_reading : Reading → List ℕ → List ℕ → List ℕ → PrintOutcome
print_reading (refused reason place) records pool out = print_refused reason place out
print_reading (accepted rules) records pool out = print_rules rules records pool out

unfoldable pub print_outcome : List ℕ → List ℕ → List ℕ → List ℕ → PrintOutcome
print_outcome book records pool out = print_reading (read_book book) records pool out
