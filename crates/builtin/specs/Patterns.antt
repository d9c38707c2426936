-- The patterns of the built-in book, as sets of byte strings and without automata, and the claim that its rules match just these
-- (document 01, 'The built-in book', sentences 1 to 5).
use Rattle.std.specs.Prelude.{◌≡◌, Bool, true, false, not, ◌&&◌, ◌||◌, List, [], ◌∷◌, ℕ, eqb}
use Rattle.automaton.specs.Rule.{Rule, matches}
use Rattle.reader.specs.Reading.{read_book, accepted}
use Rattle.builtin.specs.Book.{builtin_bytes, builtin_rules}
use Rattle.builtin.specs.Classes.{within}

-- ---- byte strings

-- one byte of each set, in order, and no more
unfoldable pub spells : List (ℕ → Bool) → List ℕ → Bool
spells [] [] = true
spells [] (b ∷ w) = false
spells (f ∷ fs) [] = false
spells (f ∷ fs) (b ∷ w) = f b && spells fs w

-- one or more bytes, each of the set
unfoldable pub one_or_more : (ℕ → Bool) → List ℕ → Bool
one_or_more f [] = false
one_or_more f (b ∷ []) = f b
one_or_more f (b ∷ c ∷ w) = f b && one_or_more f (c ∷ w)

-- ---- sets of bytes

-- this byte alone
abbrev pub byte : ℕ → ℕ → Bool
byte c b = eqb b c

abbrev pub digit : ℕ → Bool
digit b = within 0x30 0x39 b

abbrev pub bracket_byte : ℕ → Bool
bracket_byte b = byte 0x5B b || byte 0x5D b

abbrev pub word_byte : ℕ → Bool
word_byte b = within 0x21 0x7E b && not (bracket_byte b) || within 0x80 0xFF b

-- blank or tab
abbrev pub blank_byte : ℕ → Bool
blank_byte b = byte 0x20 b || byte 0x09 b

-- ---- the five patterns

-- `kind` is 0 for plain, 1 for separator; `texts` are the byte strings that are of the pattern
pub record Pattern : Type 0 where
  pub tag : ℕ
  pub kind : ℕ
  pub texts : List ℕ → Bool

-- as in "[00:12.50]"
abbrev pub timestamp_sets : List (ℕ → Bool)
timestamp_sets = byte 0x5B ∷ digit ∷ digit ∷ byte 0x3A ∷ digit ∷ digit ∷ byte 0x2E ∷ digit ∷ digit ∷ byte 0x5D ∷ []

unfoldable pub patterns : List Pattern
patterns =
    record { tag = 1; kind = 0; texts = spells timestamp_sets } ∷
    record { tag = 2; kind = 0; texts = one_or_more word_byte } ∷
    record { tag = 3; kind = 1; texts = one_or_more blank_byte } ∷
    record { tag = 4; kind = 1; texts = spells (byte 0x0A ∷ []) } ∷
    record { tag = 5; kind = 0; texts = spells (bracket_byte ∷ []) } ∷ []

-- ---- the claim

-- the pattern says what the rule is: its tag, its kind and just which byte strings it matches
pub record Says (p : Pattern) (r : Rule) : Type 0 where
  pub tag : r.tag ≡ p.tag
  pub kind : r.kind ≡ p.kind
  pub texts : (w : List ℕ) → matches r w ≡ p.texts w

-- equally many elements, and R holds of each two in the same place
abbrev pub Pairwise : {A B : Type 0} → (A → B → Type 0) → List A → List B → Type 0
Pairwise R [] [] = Unit {0}
Pairwise R [] (y ∷ ys) = ⊥
Pairwise R (x ∷ xs) [] = ⊥
Pairwise R (x ∷ xs) (y ∷ ys) = R x y × Pairwise R xs ys

-- the command bytes are read as the book's rules, and these are what the patterns say, in this order
abbrev pub BuiltinPatterns : Type 0
BuiltinPatterns = (read_book builtin_bytes ≡ accepted builtin_rules) × Pairwise Says patterns builtin_rules
