-- What the functions of this crate ask and answer between themselves. Nobody needs to believe it: of these a caller of `list` reads only
-- `output_bytes`, the size of the buffer that it lends.
use Rattle.answer.specs.declared.Cut.{Cut}
use Rattle.answer.specs.declared.Refusal.{Refusal}
use Rattle.std.specs.Prelude.{Result, Ok, Err}
use Rattle.std.specs.Prelude.{◌≡◌, List, ◌++◌, ℕ, ◌+◌, ◌≤◌, ◌-◌, ◌*◌, length, take, drop}
use Rattle.listing.specs.Lines.{rest_line, record_lines}

-- ---- writing a text into a buffer

-- the bytes from `at` on have room for `text`
pub record Room (at : ℕ) (text out : List ℕ) : Type 0 where
  pub room : at + length text ≤ length out

-- `text` stands in the bytes from `at` on, `end` is the place behind it, and every other byte is as it was
pub record Puts (entry : List ℕ) (at : ℕ) (text : List ℕ) (end : ℕ) (exit : List ℕ) : Type 0 where
  pub behind : end ≡ at + length text
  pub written : exit ≡ take at entry ++ text ++ drop (at + length text) entry

-- ---- the lines of an outcome

-- bytes that the lines never pass: 24 for each record, and 24 for the last line
abbrev pub output_bytes : ℕ
output_bytes = 144024

-- the longest line of a refusal, whose number is a byte and whose place has at most 20 digits
abbrev pub refused_bytes : ℕ
refused_bytes = 33

-- the records and the rest that an answer tells of are there, and there is room for the lines
abbrev pub LinesFit : Result Cut Refusal → List ℕ → ℕ → List ℕ → Type 0
LinesFit (Err f) records len out = refused_bytes ≤ length out
LinesFit (Ok cut) records len out =
    (10 * cut.tokens ≤ length records) × (cut.rest ≤ len) × Room 0 (record_lines records cut.tokens ++ rest_line cut.rest (len - cut.rest)) out
