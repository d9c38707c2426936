-- A set of positions as a number: bit p, worth 2 ^ p, is set where position p is of the set.
use Rattle.std.specs.Prelude.{Bool, ℕ, zero, suc, ◌+◌, ◌/◌, ◌%◌, ◌^◌, eqb}
use Rattle.automaton.specs.Choice.{if}

-- those below n that pass the test
unfoldable pub set_below : ℕ → (ℕ → Bool) → ℕ
set_below zero test = 0
set_below (suc p) test = set_below p test + if (test p) (2 ^ p) 0

-- those below 64, as many as a machine word has bits
abbrev pub set_of : (ℕ → Bool) → ℕ
set_of test = set_below 64 test

abbrev pub member : ℕ → ℕ → Bool
member p set = eqb (set / 2 ^ p % 2) 1
