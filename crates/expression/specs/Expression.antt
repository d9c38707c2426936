-- An extended regular expression (document 02, wish 9), and the strings that it matches (004, section 8.1).
use Rattle.std.specs.Prelude.{◌≡◌, Bool, true, not, ◌&&◌, ◌||◌, List, [], ◌∷◌, ◌++◌, ℕ, eqb, leb}
use Rattle.automaton.specs.Choice.{any}

-- the bytes from low to high, both included; one byte where they are the same
pub record Range : Type 0 where
  pub low : ℕ
  pub high : ℕ

-- What stands for one byte of a string: a byte, ordinary or escaped, a period, or a bracket list.
pub data Position : Type 0 where
  byte : ℕ → Position
  period : Position
  list : List Range → Position

pub data Expression : Type 0 where
  position : Position → Expression
  group : Expression → Expression  -- parenthesised
  union : Expression → Expression → Expression  -- alternatives
  concat : Expression → Expression → Expression  -- a sequence
  star plus optional : Expression → Expression

abbrev pub in_range : ℕ → Range → Bool
in_range b r = leb r.low b && leb b r.high

-- a period takes every byte but 00 and 0A
unfoldable pub takes : Position → ℕ → Bool
takes (byte c) b = eqb c b
takes period b = not (eqb b 0 || eqb b 10)
takes (list ranges) b = any (in_range b) ranges

-- The matching rules of 8.1. That section has no plus and no question mark: e+ is e followed by e*, and e? is e or the empty string.
pub data Matches : Expression → List ℕ → Type 0 where
  char : {c : Position} {b : ℕ} → takes c b ≡ true → Matches (position c) (b ∷ [])
  inside : {e : Expression} {w : List ℕ} → Matches e w → Matches (group e) w
  union_left : {e f : Expression} {w : List ℕ} → Matches e w → Matches (union e f) w
  union_right : {e f : Expression} {w : List ℕ} → Matches f w → Matches (union e f) w
  joined : {e f : Expression} {v w : List ℕ} → Matches e v → Matches f w → Matches (concat e f) (v ++ w)
  star_empty : {e : Expression} → Matches (star e) []
  star_more : {e : Expression} {v w : List ℕ} → Matches e v → Matches (star e) w → Matches (star e) (v ++ w)
  plus_more : {e : Expression} {v w : List ℕ} → Matches e v → Matches (star e) w → Matches (plus e) (v ++ w)
  optional_empty : {e : Expression} → Matches (optional e) []
  optional_one : {e : Expression} {w : List ℕ} → Matches e w → Matches (optional e) w
