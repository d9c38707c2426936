-- Sets of positions: those that can have matched the last byte of a string.
use Rattle.std.specs.Prelude.{Bool, false, ◌&&◌, ◌||◌, List, [], ◌∷◌, ℕ, zero, suc}
use Rattle.expression.specs.Expression.{Expression}
use Rattle.positions.specs.Positions.{size, nullable, takes_at, first, last, follows}

-- a position below n passes the test
unfoldable pub any_below : ℕ → (ℕ → Bool) → Bool
any_below zero test = false
any_below (suc n) test = any_below n test || test n

-- those that can match the byte after that of a position of the set
abbrev pub ahead : Expression → (ℕ → Bool) → ℕ → Bool
ahead e set q = any_below (size e) (λ p. set p && follows e p q)

-- those of a set that take a byte
abbrev pub taking : Expression → ℕ → (ℕ → Bool) → ℕ → Bool
taking e b set q = set q && takes_at e b q

abbrev pub has_last : Expression → (ℕ → Bool) → Bool
has_last e set = any_below (size e) (λ p. set p && last e p)

-- from the set that can have matched the byte before: whether the string can end a match
unfoldable pub ends_from : Expression → (ℕ → Bool) → List ℕ → Bool
ends_from e set [] = has_last e set
ends_from e set (b ∷ w) = ends_from e (taking e b (ahead e set)) w

-- the string is matched, by sets of positions
unfoldable pub matches_by_sets : Expression → List ℕ → Bool
matches_by_sets e [] = nullable e
matches_by_sets e (b ∷ w) = ends_from e (taking e b (first e)) w
