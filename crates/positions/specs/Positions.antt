-- The positions of an expression (document 02, wish 9), numbered from 0 in the order of the text: which of them can match the first byte of
-- a string that the expression matches, which the last, and which the byte after that of another.
use Rattle.std.specs.Prelude.{Bool, true, false, ◌&&◌, ◌||◌, ℕ, suc, ◌+◌, ◌-◌, eqb, ltb}
use Rattle.automaton.specs.Choice.{if}
use Rattle.expression.specs.Expression.{Expression, position, group, union, concat, star, plus, optional, takes}

-- how many
unfoldable pub size : Expression → ℕ
size (position c) = 1
size (group e) = size e
size (union e f) = size e + size f
size (concat e f) = size e + size f
size (star e) = size e
size (plus e) = size e
size (optional e) = size e

abbrev pub larger : ℕ → ℕ → ℕ
larger m n = if (ltb m n) n m

-- how deep its parentheses are
unfoldable pub depth : Expression → ℕ
depth (position c) = 0
depth (group e) = suc (depth e)
depth (union e f) = larger (depth e) (depth f)
depth (concat e f) = larger (depth e) (depth f)
depth (star e) = depth e
depth (plus e) = depth e
depth (optional e) = depth e

-- matches the empty string
unfoldable pub nullable : Expression → Bool
nullable (position c) = false
nullable (group e) = nullable e
nullable (union e f) = nullable e || nullable f
nullable (concat e f) = nullable e && nullable f
nullable (star e) = true
nullable (plus e) = nullable e
nullable (optional e) = true

-- Of an expression of two parts, the first with n positions: a position of the first, or one of the second by its number there.
abbrev pub of_part : ℕ → (ℕ → Bool) → (ℕ → Bool) → ℕ → Bool
of_part n f g p = if (ltb p n) (f p) (g (p - n))

-- position p takes the byte
unfoldable pub takes_at : Expression → ℕ → ℕ → Bool
takes_at (position c) b p = eqb p 0 && takes c b
takes_at (group e) b p = takes_at e b p
takes_at (union e f) b p = of_part (size e) (takes_at e b) (takes_at f b) p
takes_at (concat e f) b p = of_part (size e) (takes_at e b) (takes_at f b) p
takes_at (star e) b p = takes_at e b p
takes_at (plus e) b p = takes_at e b p
takes_at (optional e) b p = takes_at e b p

-- position p can match the first byte
unfoldable pub first : Expression → ℕ → Bool
first (position c) p = eqb p 0
first (group e) p = first e p
first (union e f) p = of_part (size e) (first e) (first f) p
first (concat e f) p = of_part (size e) (first e) (λ q. nullable e && first f q) p
first (star e) p = first e p
first (plus e) p = first e p
first (optional e) p = first e p

-- position p can match the last byte
unfoldable pub last : Expression → ℕ → Bool
last (position c) p = eqb p 0
last (group e) p = last e p
last (union e f) p = of_part (size e) (last e) (last f) p
last (concat e f) p = of_part (size e) (λ q. nullable f && last e q) (last f) p
last (star e) p = last e p
last (plus e) p = last e p
last (optional e) p = last e p

-- position q can match the byte after that of position p
unfoldable pub follows : Expression → ℕ → ℕ → Bool
follows (position c) p q = false
follows (group e) p q = follows e p q
follows (union e f) p q =
    if (ltb p (size e)) (of_part (size e) (follows e p) (λ r. false) q) (of_part (size e) (λ r. false) (follows f (p - size e)) q)
follows (concat e f) p q =
    if (ltb p (size e)) (of_part (size e) (follows e p) (λ r. last e p && first f r) q)
    (of_part (size e) (λ r. false) (follows f (p - size e)) q)
follows (star e) p q = follows e p q || last e p && first e q
follows (plus e) p q = follows e p q || last e p && first e q
follows (optional e) p q = follows e p q
