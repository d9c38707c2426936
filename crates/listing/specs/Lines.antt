-- What the program cutlist prints, as bytes in ASCII (document 01, 'Sheets of examples'): for each token a line of its number, tag, place
-- and length in decimal, then a line for the rest; or one line for a refusal.
use Rattle.answer.specs.Refusals.{number_of}
use Rattle.answer.specs.declared.Cut.{Cut}
use Rattle.answer.specs.declared.Refusal.{Refusal}
use Rattle.std.specs.Prelude.{Result, Ok, Err}
use Rattle.std.specs.Prelude.{List, [], ◌∷◌, ◌++◌, ℕ, ◌+◌, zero, suc, ◌-◌, length}
use Rattle.longest_match.specs.Lexer.{Token}
use Rattle.record.specs.Tokens.{record_at}
use Rattle.lexer.specs.Outcome.{lex_outcome}
use Rattle.listing.specs.Decimal.{field, blank, last_two}

-- ---- lines

unfoldable pub token_line : ℕ → ℕ → ℕ → ℕ → List ℕ
token_line number tag place len = field number blank ++ field tag blank ++ last_two place len

-- a word and the two numbers behind it
abbrev pub word_line : List ℕ → ℕ → ℕ → List ℕ
word_line word a b = word ++ last_two a b

-- the words that begin the line of the rest and that of a refusal
abbrev pub rest_word : List ℕ
rest_word = 114 ∷ 101 ∷ 115 ∷ 116 ∷ blank ∷ []

abbrev pub refused_word : List ℕ
refused_word = 114 ∷ 101 ∷ 102 ∷ 117 ∷ 115 ∷ 101 ∷ 100 ∷ blank ∷ []

unfoldable pub rest_line : ℕ → ℕ → List ℕ
rest_line place len = word_line rest_word place len

unfoldable pub refused_line : ℕ → ℕ → List ℕ
refused_line number place = word_line refused_word number place

-- ---- an outcome of lexing

-- the line of record number k
unfoldable pub record_line : List ℕ → ℕ → List ℕ
record_line records k = token_line k (record_at records k).tag (record_at records k).place (record_at records k).len

-- the lines of the first n records
unfoldable pub record_lines : List ℕ → ℕ → List ℕ
record_lines records zero = []
record_lines records (suc n) = record_lines records n ++ record_line records n

-- the lines of an answer and the records beside it, for a text of so many bytes
abbrev pub lines_of : Result Cut Refusal → List ℕ → ℕ → List ℕ
lines_of (Err f) records len = refused_line (number_of f.reason) f.place
lines_of (Ok cut) records len = record_lines records cut.tokens ++ rest_line cut.rest (len - cut.rest)

-- room for 6,000 records
abbrev pub record_bytes : ℕ
record_bytes = 60000

-- what the program prints of a book and a text, with these records lent
unfoldable pub listing : List ℕ → List ℕ → List ℕ → List ℕ
listing book text records =
    lines_of (lex_outcome book text records).answer (lex_outcome book text records).records (length text)

-- ---- the tokens of a cut

-- The lines of tokens that lie one behind the other, the first of them at `place`. Of an accepted cut these are the lines of its records
-- (`listing-lexed` of proofs/Tokens.antt).
unfoldable pub token_lines : ℕ → ℕ → List Token → List ℕ
token_lines number place [] = []
token_lines number place (t ∷ ts) = token_line number t.tag place (length t.bytes) ++ token_lines (number + 1) (place + length t.bytes) ts
