-- The masks of tokens in bytes (document 02, wish 11), four each, the high byte first.
use Rattle.std.specs.Prelude.{List, [], ◌∷◌, ◌++◌, ℕ, ◌/◌, ◌<◌, length}
use Rattle.big_endian.specs.Numbers.{four}

unfoldable pub mask_bytes : List ℕ → List ℕ
mask_bytes [] = []
mask_bytes (m ∷ ms) = four m ++ mask_bytes ms

-- a byte buffer counts as so many masks; leftover bytes play no part
abbrev pub mask_count : List ℕ → ℕ
mask_count masks = length masks / 4

-- a mask lent in a slice of numbers has 32 bits, as every number of its type
abbrev pub FitsMask : ℕ → Type 0
FitsMask m = m < 4294967296
