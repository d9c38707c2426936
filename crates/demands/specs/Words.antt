-- The words of the demands.
use Rattle.std.specs.Prelude.{◌≡◌, true, false, List, [], ◌∷◌, ◌++◌, ℕ, ◌+◌, ◌<◌, ◌≤◌, length, take, drop}
use Rattle.automaton.specs.Choice.{All}
use Rattle.automaton.specs.Rule.{Rule, matches, Uses}
use Rattle.book.specs.Draft.{tagged}
use Rattle.book.specs.Limits.{max_text, max_tokens}
use Rattle.reader.specs.Reading.{accepted, read_book}
use Rattle.longest_match.specs.Lexer.{Token, join}
use Rattle.record.specs.Records.{record_count}
use Rattle.record.specs.Tokens.{records_of, bytes_in, InPool}
use Rattle.record.specs.declared.TokenRecord.{TokenRecord}
use Rattle.token_list.specs.Faults.{alone_in}
use Rattle.shared_bytes.specs.Kinds.{plain_kind, separator_kind, separates}
use Rattle.spacing.specs.Separators.{spelled}
use Rattle.demands.specs.Calls.{Form, Lent, count_in, structs_in, list_in}

-- ---- books

-- a book, as every caller has it, is a run of bytes
abbrev pub Bytes : List ℕ → Type 0
Bytes w = All (λ (b : ℕ). b < 256) w

-- an accepted book, and its rules
pub record Book (book : List ℕ) (rules : List Rule) : Type 0 where
  pub bytes : Bytes book
  pub reads : read_book book ≡ accepted rules

-- ---- matching

-- no rule matches w
abbrev pub Unmatched : List Rule → List ℕ → Type 0
Unmatched rules w = All (λ (q : Rule). matches q w ≡ false) rules

-- the first token of a text is the longest stretch that some rule matches, by the earliest such rule
pub record Longest (rules : List Rule) (text : List ℕ) (t : Token) : Type 0 where
  pub here : take (length t.bytes) text ≡ t.bytes
  pub some_byte : 0 < length t.bytes
  pub earliest : alone_in rules t.tag t.bytes ≡ true
  pub longest : (n : ℕ) → length t.bytes < n → n ≤ length text → Unmatched rules (take n text)

-- The longest-match rule (demand 2, sentence 1): such a token at each place, and at the last place no rule matches.
abbrev pub LongestMatch : List Rule → List ℕ → List Token → List ℕ → Type 0
LongestMatch rules text [] rest = (text ≡ rest) × ((n : ℕ) → 0 < n → n ≤ length text → Unmatched rules (take n text))
LongestMatch rules text (t ∷ ts) rest = Longest rules text t × LongestMatch rules (drop (length t.bytes) text) ts rest

-- What the plain printer accepts (demand 3, sentence 2): every token is cut as itself alone, and no rule matches a token together with one
-- or more of the bytes written after it, those of all later tokens (document 01, 'Words of demand 3', 1).
abbrev pub Separable : List Rule → List Token → Type 0
Separable rules [] = Unit {0}
Separable rules (t ∷ ts) =
    (alone_in rules t.tag t.bytes ≡ true)
    × ((n : ℕ) → 0 < n → n ≤ length (join ts) → Unmatched rules (t.bytes ++ take n (join ts)))
    × Separable rules ts

-- ---- lists that a printer does not refuse

-- Limits aside: 16, 17, 20 and 22 do not apply (document 01, 'Words of demand 3', 2).
pub record Unlimited (f : Form) (list : Lent f) (pool out : List ℕ) : Type 0 where
  pub not_16 : count_in f list ≤ max_tokens
  pub not_17 : All (InPool pool) (structs_in f list)
  pub not_20 : length (join (list_in f list pool)) ≤ max_text
  pub not_22 : length (join (list_in f list pool)) ≤ length out

-- a token to which 17, 18 and 19 do not apply
pub record Fit (rules : List Rule) (pool : List ℕ) (r : TokenRecord) : Type 0 where
  pub not_17 : r.place + r.len ≤ length pool
  pub not_18 : tagged r.tag rules ≡ true
  pub not_19 : alone_in rules r.tag (bytes_in pool r) ≡ true

pub record FitSeparator (rules : List Rule) (pool : List ℕ) (r : TokenRecord) : Type 0 where
  pub fit : Fit rules pool r
  pub not_25 : separates rules r.tag ≡ true

pub record FitPlain (rules : List Rule) (pool : List ℕ) (r : TokenRecord) : Type 0 where
  pub fit : Fit rules pool r
  pub not_26 : separates rules r.tag ≡ false

-- no rule of the kind uses the byte (document 02, wish 5)
abbrev pub Unused : ℕ → List Rule → ℕ → Type 0
Unused kind rules b = All (λ (r : Rule). r.kind ≡ kind → Uses r b → ⊥) rules

-- a call of the spacing printer that meets none of its refusals
pub record Unrefused (rules : List Rule) (sep : TokenRecord) (mode : ℕ) (records pool out : List ℕ) : Type 0 where
  pub not_23 : (b : ℕ) → All (λ (p : Rule). p.kind ≡ plain_kind → Uses p b → Unused separator_kind rules b) rules
  pub not_24 : mode ≤ 2
  pub separator : FitSeparator rules pool sep
  pub not_16 : record_count records ≤ max_tokens
  pub tokens : All (FitPlain rules pool) (records_of records)
  pub not_20 : length (spelled rules sep mode records pool) ≤ max_text
  pub not_22 : length (spelled rules sep mode records pool) ≤ length out
