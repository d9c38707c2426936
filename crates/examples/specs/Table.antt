-- The table of examples: a book's bytes, what is asked, and what document 01 says it gives.
use Rattle.answer.specs.declared.Refusal.{Refusal}
use Rattle.answer.specs.Refusals.{number_of}
use Rattle.std.specs.Prelude.{◌≡◌, List, [], ◌∷◌, ◌++◌, ℕ, ◌-◌, length, take, replicate, Result as Answer, Ok, Err}
use Rattle.automaton.specs.Choice.{All}
use Rattle.reader.specs.Reading.{Reading, accepted, refused, read_book}
use Rattle.longest_match.specs.Lexer.{Token, Lexed, lex, join}
use Rattle.record.specs.Records.{records_at}
use Rattle.output.specs.Outcome.{PrintOutcome}
use Rattle.printer.specs.Outcome.{print_outcome}
use Rattle.separated.specs.Outcome.{separated_outcome}
use Rattle.listing.specs.Lines.{listing, record_bytes}
use Rattle.examples.specs.Books.{book_a, book_b, book_c}

-- what is asked of a book
pub data Question : Type 0 where
  -- the cut of a text
  cut : List ℕ → Question
  -- what cutlist prints of a text
  lines : List ℕ → Question
  -- what the plain printer writes for a list
  plain : List Token → Question
  -- what the spacing printer writes for a list with one blank of tag 4, in a mode
  blanks : ℕ → List Token → Question

-- what it gives
pub data Result : Type 0 where
  -- the tokens and the place of the rest
  tokens : List Token → ℕ → Result
  -- bytes that are written
  bytes : List ℕ → Result
  -- a refusal's number and place
  refusal : ℕ → ℕ → Result

abbrev pub cut_result : Lexed → List ℕ → Result
cut_result c text = tokens c.tokens (length text - length c.rest)

abbrev pub cut_by : Reading → List ℕ → Result
cut_by (refused reason place) text = refusal (number_of reason) place
cut_by (accepted rules) text = cut_result (lex rules text) text

-- room for more bytes than any example writes
abbrev pub room : List ℕ
room = replicate 16 0

abbrev pub print_result : Answer ℕ Refusal → List ℕ → Result
print_result (Ok n) out = bytes (take n out)
print_result (Err f) out = refusal (number_of f.reason) f.place

abbrev pub print_by : PrintOutcome → Result
print_by o = print_result o.answer o.out

abbrev pub result : List ℕ → Question → Result
result book (cut text) = cut_by (read_book book) text
result book (lines text) = bytes (listing book text (replicate record_bytes 0))
-- the tokens lie one behind the other in the pool
result book (plain ts) = print_by (print_outcome book (records_at 0 ts) (join ts) room)
-- and the blank behind them
result book (blanks mode ts) =
    print_by
    (separated_outcome book (record { tag = 4; place = length (join ts); len = 1 }) mode (records_at 0 ts) (join ts ++ (32 ∷ [])) room)

pub record Example : Type 0 where
  pub book : List ℕ
  pub question : Question
  pub gives : Result

-- the common claim
abbrev pub Right : Example → Type 0
Right e = result e.book e.question ≡ e.gives

abbrev token : ℕ → List ℕ → Token
token tag w = record { tag = tag; bytes = w }

abbrev a : Token
a = token 1 (97 ∷ [])

abbrev b : Token
b = token 2 (98 ∷ [])

abbrev c : Token
c = token 3 (99 ∷ [])

abbrev row : List ℕ → Question → Result → Example
row book question gives = record { book = book; question = question; gives = gives }

-- 97 is a, 98 b, 99 c, 100 d, 102 f, 105 i, 115 s
unfoldable pub table : List Example
table =
    -- no text: no token, rest at 0
    row book_a (cut []) (tokens [] 0)
    -- abc: 1 abc
    ∷ row book_a (cut (97 ∷ 98 ∷ 99 ∷ [])) (tokens (token 1 (97 ∷ 98 ∷ 99 ∷ []) ∷ []) 3)
    -- ab: 1 a, 2 b
    ∷ row book_a (cut (97 ∷ 98 ∷ [])) (tokens (token 1 (97 ∷ []) ∷ token 2 (98 ∷ []) ∷ []) 2)
    -- d: no token, rest at 0
    ∷ row book_a (cut (100 ∷ [])) (tokens [] 0)
    -- abd: 1 a, 2 b, rest at 2
    ∷ row book_a (cut (97 ∷ 98 ∷ 100 ∷ [])) (tokens (token 1 (97 ∷ []) ∷ token 2 (98 ∷ []) ∷ []) 2)
    -- its lines: 0 1 0 1, 1 2 1 1, rest 2 1
    ∷ row book_a (lines (97 ∷ 98 ∷ 100 ∷ []))
    (bytes (48 ∷ 32 ∷ 49 ∷ 32 ∷ 48 ∷ 32 ∷ 49 ∷ 10
    ∷ 49 ∷ 32 ∷ 50 ∷ 32 ∷ 49 ∷ 32 ∷ 49 ∷ 10
    ∷ 114 ∷ 101 ∷ 115 ∷ 116 ∷ 32 ∷ 50 ∷ 32 ∷ 49 ∷ 10 ∷ []))
    -- abc in book B: 1 ab, rest at 2
    ∷ row book_b (cut (97 ∷ 98 ∷ 99 ∷ [])) (tokens (token 1 (97 ∷ 98 ∷ []) ∷ []) 2)
    -- if: 1; ifs: 2
    ∷ row book_c (cut (105 ∷ 102 ∷ [])) (tokens (token 1 (105 ∷ 102 ∷ []) ∷ []) 2)
    ∷ row book_c (cut (105 ∷ 102 ∷ 115 ∷ [])) (tokens (token 2 (105 ∷ 102 ∷ 115 ∷ []) ∷ []) 3)
    -- printing a, b, c: 21 at 0
    ∷ row book_a (plain (a ∷ b ∷ c ∷ [])) (refusal 21 0)
    -- c, b, a: cba
    ∷ row book_a (plain (c ∷ b ∷ a ∷ [])) (bytes (99 ∷ 98 ∷ 97 ∷ []))
    -- the empty list: no byte
    ∷ row book_a (plain []) (bytes [])
    -- 1 a, 2 bc in book B: 21 at 0
    ∷ row book_b (plain (a ∷ token 2 (98 ∷ 99 ∷ []) ∷ [])) (refusal 21 0)
    -- printing a, b, c with a blank, in mode 1
    ∷ row book_a (blanks 1 (a ∷ b ∷ c ∷ [])) (bytes (97 ∷ 32 ∷ 98 ∷ 32 ∷ 99 ∷ []))
    -- in mode 2
    ∷ row book_a (blanks 2 (a ∷ b ∷ c ∷ [])) (bytes (97 ∷ 32 ∷ 98 ∷ 99 ∷ []))
    ∷ []

-- every example is right
abbrev pub Examples : Type 0
Examples = All Right table
