-- How a token list is lent, and what a call answers and leaves: what the contracts of the operations say of it, and no more.
use Rattle.answer.specs.declared.Cut.{Cut as Counts}
use Rattle.answer.specs.declared.Refusal.{Refusal}
use Rattle.answer.specs.declared.RuleName.{RuleName}
use Rattle.answer.specs.declared.Turn.{Turn}
use Rattle.std.specs.Prelude.{◌≡◌, Bool, List, ℕ, ◌*◌, length, get_or, take, drop, Result}
use Rattle.automaton.specs.Choice.{All}
use Rattle.reader.specs.Reading.{read_by, answer}
use Rattle.book_reader.specs.Rules.{rule_outcome}
use Rattle.longest_match.specs.Lexer.{Token}
use Rattle.big_endian.specs.Numbers.{four_at}
use Rattle.record.specs.Records.{record_count}
use Rattle.record.specs.Tokens.{records_of, tokens_in}
use Rattle.record.specs.Encoding.{encoded, Fits}
use Rattle.record.specs.Masks.{mask_bytes, mask_count, FitsMask}
use Rattle.record.specs.declared.TokenRecord.{TokenRecord}
use Rattle.rewriting.specs.Outcome.{rewrite_outcome}
use Rattle.expression_rule.specs.Outcome.{compile_outcome}
use Rattle.lexer.specs.Outcome.{lex_outcome}
use Rattle.lexer.specs.Masked.{masked_outcome}
use Rattle.turns.specs.Outcome.{turn_outcome}
use Rattle.printer.specs.Outcome.{print_outcome}
use Rattle.separated.specs.Outcome.{separated_outcome}

-- ---- forms

-- A list is lent as ten-byte records, to the calls of the player, or as a slice of structs, inside the server (document 01, 'Tokens',
-- sentences 4 and 5).
pub data Form : Type 0 where
  bytes : Form
  slice : Form

abbrev pub Lent : Form → Type 0
Lent bytes = List ℕ
Lent slice = List TokenRecord

-- what the type of a struct sees to
abbrev pub Typed : (f : Form) → Lent f → Type 0
Typed bytes l = Unit {0}
Typed slice l = All Fits l

-- the ten-byte records that it says, of which the outcomes speak
abbrev pub records_in : (f : Form) → Lent f → List ℕ
records_in bytes l = l
records_in slice l = encoded l

-- how many tokens it holds, or has room for
abbrev pub count_in : (f : Form) → Lent f → ℕ
count_in bytes l = record_count l
count_in slice l = length l

-- the first n of them
abbrev pub first_in : (f : Form) → ℕ → Lent f → Lent f
first_in bytes n l = take (10 * n) l
first_in slice n l = take n l

-- and what lies past these
abbrev pub past_in : (f : Form) → ℕ → Lent f → Lent f
past_in bytes n l = drop (10 * n) l
past_in slice n l = drop n l

-- its records as structs
abbrev pub structs_in : (f : Form) → Lent f → List TokenRecord
structs_in bytes l = records_of l
structs_in slice l = l

-- the token list that it says with a pool
abbrev pub list_in : (f : Form) → Lent f → List ℕ → List Token
list_in f l pool = tokens_in pool (structs_in f l)

-- Masks are lent in the same form as the list beside them: four bytes each, or numbers of 32 bits.
abbrev pub TypedMasks : Form → List ℕ → Type 0
TypedMasks bytes m = Unit {0}
TypedMasks slice m = All FitsMask m

-- the bytes that they say
abbrev pub mask_bytes_in : Form → List ℕ → List ℕ
mask_bytes_in bytes m = m
mask_bytes_in slice m = mask_bytes m

-- how many there are, or there is room for
abbrev pub mask_count_in : Form → List ℕ → ℕ
mask_count_in bytes m = mask_count m
mask_count_in slice m = length m

-- mask number i
abbrev pub mask_in : Form → List ℕ → ℕ → ℕ
mask_in bytes m i = four_at m (4 * i)
mask_in slice m i = get_or m i 0

-- what lies past the first n
abbrev pub past_masks : Form → ℕ → List ℕ → List ℕ
past_masks bytes n m = drop (4 * n) m
past_masks slice n m = drop n m

-- ---- calls

-- A call of a reading, the ordinary or the stricter one, and of asking for a rule by its number, as `book_reader::read` and
-- `book_reader::read_strict`, and `book_reader::rule`, ensure them.
pub record Read (strict : Bool) (book : List ℕ) (r : Result ℕ Refusal) : Type 0 where
  pub answers : r ≡ answer (read_by strict book)

pub record Ask (book : List ℕ) (index : ℕ) (r : Result RuleName Refusal) : Type 0 where
  pub answers : r ≡ rule_outcome book index

-- A call of rewriting: the output before and after it, and the answer, as `rewriting::rewrite` ensures it.
pub record Rewrite (book entry exit : List ℕ) (r : Result ℕ Refusal) : Type 0 where
  pub answers : r ≡ (rewrite_outcome book entry).answer
  pub leaves : exit ≡ (rewrite_outcome book entry).out

-- A call that makes a rule of an expression, for a tag and a kind: the output before and after it, and the answer, as `expression_rule::compile`
-- ensures it (document 02, wish 9).
pub record Compile (tag kind : ℕ) (text entry exit : List ℕ) (r : Result ℕ Refusal) : Type 0 where
  pub answers : r ≡ (compile_outcome tag kind text entry).answer
  pub leaves : exit ≡ (compile_outcome tag kind text entry).out

-- A call of the cut, masks aside: the records lent before and after it, and its answer. Each call with masks (`MaskedCut`) is one, unless
-- it has fewer masks than tokens (Masks.antt).
pub record Cut (f : Form) (book text : List ℕ) (entry exit : Lent f) (r : Result Counts Refusal) : Type 0 where
  pub entry_typed : Typed f entry
  pub exit_typed : Typed f exit
  pub answers : r ≡ (lex_outcome book text (records_in f entry)).answer
  pub leaves : records_in f exit ≡ (lex_outcome book text (records_in f entry)).records

-- A call of the cut with the masks before and after it (document 02, wish 11). This is what `book_lexer::lex` (bytes), `slices::lex_tokens`
-- (slice) and, with the bytes of the built-in book, `builtin::lex_builtin` (bytes) ensure.
pub record MaskedCut (f : Form) (book text : List ℕ) (entry exit : Lent f) (masks after : List ℕ) (r : Result Counts Refusal) : Type 0 where
  pub entry_typed : Typed f entry
  pub exit_typed : Typed f exit
  pub masks_typed : TypedMasks f masks
  pub after_typed : TypedMasks f after
  pub answers : r ≡ (masked_outcome book text (records_in f entry) (mask_bytes_in f masks)).answer
  pub leaves : records_in f exit ≡ (masked_outcome book text (records_in f entry) (mask_bytes_in f masks)).records
  pub leaves_masks : mask_bytes_in f after ≡ (masked_outcome book text (records_in f entry) (mask_bytes_in f masks)).masks

-- A call of a turn with a place and a budget: the records and the masks lent before and after it, and its answer (document 02, wish 1).
-- This is what `book_turns::lex_within` ensures.
pub record Turning (book text : List ℕ) (place budget : ℕ) (entry exit masks after : List ℕ) (r : Result Turn Refusal) : Type 0 where
  pub answers : r ≡ (turn_outcome book text place budget entry masks).answer
  pub leaves : exit ≡ (turn_outcome book text place budget entry masks).records
  pub leaves_masks : after ≡ (turn_outcome book text place budget entry masks).masks

-- A call of the plain printer: the list, its pool, the output before and after the call, and the answer. This is what `book_printer::print`
-- (bytes) and `slices::print_tokens` (slice) ensure.
pub record Print (f : Form) (book : List ℕ) (list : Lent f) (pool entry exit : List ℕ) (r : Result ℕ Refusal) : Type 0 where
  pub typed : Typed f list
  pub answers : r ≡ (print_outcome book (records_in f list) pool entry).answer
  pub leaves : exit ≡ (print_outcome book (records_in f list) pool entry).out

-- A call of the spacing printer with a separator token and a mode, as `book_separated::print_separated` ensures it.
pub record Space (book : List ℕ) (sep : TokenRecord) (mode : ℕ) (records pool entry exit : List ℕ) (r : Result ℕ Refusal) : Type 0 where
  pub answers : r ≡ (separated_outcome book sep mode records pool entry).answer
  pub leaves : exit ≡ (separated_outcome book sep mode records pool entry).out
