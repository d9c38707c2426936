-- Numbers in decimal, as the bytes of their digits in ASCII, and the fields of a line that are made of them.
use Rattle.std.specs.Prelude.{List, [], ◌∷◌, ◌++◌, ℕ, zero, suc, ◌+◌, ◌/◌, ◌%◌, ltb}
use Rattle.automaton.specs.Choice.{if}

-- every digit but the last takes a step, so that as many steps as the number says are enough
unfoldable pub decimal_for : ℕ → ℕ → List ℕ
decimal_for zero n = []
decimal_for (suc f) n = if (ltb n 10) ((48 + n) ∷ []) (decimal_for f (n / 10) ++ ((48 + n % 10) ∷ []))

-- n in decimal, with no zero in front
unfoldable pub decimal : ℕ → List ℕ
decimal n = decimal_for (suc n) n

-- n and the byte behind it
abbrev pub field : ℕ → ℕ → List ℕ
field n after = decimal n ++ (after ∷ [])

-- the bytes behind a number: a blank within a line, a newline at its end
abbrev pub blank : ℕ
blank = 32

abbrev pub line_end : ℕ
line_end = 10

-- the two numbers that end a line
unfoldable pub last_two : ℕ → ℕ → List ℕ
last_two a b = field a blank ++ field b line_end
