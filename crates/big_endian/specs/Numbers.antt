-- Numbers of two and of four bytes, the high byte first (document 01, 'The book', sentence 2, and 'Tokens', sentence 5).
use Rattle.std.specs.Prelude.{List, [], ◌∷◌, ℕ, ◌+◌, ◌*◌, ◌/◌, ◌%◌, get_or}

-- the number whose first byte is number i
abbrev pub two_at : List ℕ → ℕ → ℕ
two_at bytes i = get_or bytes i 0 * 256 + get_or bytes (i + 1) 0

abbrev pub four_at : List ℕ → ℕ → ℕ
four_at bytes i = ((get_or bytes i 0 * 256 + get_or bytes (i + 1) 0) * 256 + get_or bytes (i + 2) 0) * 256 + get_or bytes (i + 3) 0

-- the bytes of a number, of which the lowest two or four are taken
abbrev pub two : ℕ → List ℕ
two n = n / 256 % 256 ∷ n % 256 ∷ []

abbrev pub four : ℕ → List ℕ
four n = n / 16777216 % 256 ∷ n / 65536 % 256 ∷ n / 256 % 256 ∷ n % 256 ∷ []
