-- The byte classes of the built-in book (document 01, 'The built-in book', sentences 6 and 7).
use Rattle.std.specs.Prelude.{◌≡◌, Bool, ◌&&◌, ◌||◌, List, [], ◌∷◌, ℕ, zero, suc, ◌<◌, leb, eqb, get_or}
use Rattle.automaton.specs.Choice.{if, All}
use Rattle.automaton.specs.Rule.{Rule, step}
use Rattle.builtin.specs.Book.{builtin_rules}

abbrev pub within : ℕ → ℕ → ℕ → Bool
within low high b = leb low b && leb b high

-- the class of a byte: the list in sentence 6
unfoldable pub class_of : ℕ → ℕ
class_of b =
    if (within 0x00 0x08 b || (within 0x0B 0x1F b || eqb b 0x7F)) 0
    (if (eqb b 0x09 || eqb b 0x20) 1
    (if (eqb b 0x0A) 2
    (if (within 0x30 0x39 b) 3
    (if (eqb b 0x5B) 4
    (if (eqb b 0x5D) 5
    (if (eqb b 0x3A) 6
    (if (eqb b 0x2E) 7 8)))))))

-- f of the n numbers from i on
unfoldable pub tabulate : (ℕ → ℕ) → ℕ → ℕ → List ℕ
tabulate f i zero = []
tabulate f i (suc n) = f i ∷ tabulate f (suc i) n

-- the classes of all bytes
unfoldable pub class_table : List ℕ
class_table = tabulate class_of 0 256

abbrev pub class_at : ℕ → ℕ
class_at b = get_or class_table b 0

-- From each state of each rule, bytes of one class lead to the same state: sentence 7, its first half.
abbrev pub MovedAlike : Type 0
MovedAlike = All (λ (r : Rule). (s a b : ℕ) → a < 256 → b < 256 → class_at a ≡ class_at b → step r s a ≡ step r s b) builtin_rules
