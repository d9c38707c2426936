-- The reach at a place (document 02, wish 1): how many bytes have to be examined there before all rules are known to go no further. Bytes
-- and states are natural numbers.
use Rattle.std.specs.Prelude.{Bool, true, ◌&&◌, List, [], ◌∷◌, ℕ, zero, suc, eqb, length, take}
use Rattle.automaton.specs.Choice.{if}
use Rattle.automaton.specs.Rule.{Rule, walk}

-- whether the rule stands in its error state after the bytes w
abbrev pub fails : Rule → List ℕ → Bool
fails r w = eqb (walk r r.start w) r.error

-- whether all rules do
unfoldable pub all_fail : List Rule → List ℕ → Bool
all_fail [] w = true
all_fail (r ∷ rs) w = fails r w && all_fail rs w

-- the fewest below n for which the test holds; n where it holds for none
unfoldable pub fewest : (ℕ → Bool) → ℕ → ℕ
fewest test zero = 0
fewest test (suc n) = if (test 0) 0 (suc (fewest (λ (k : ℕ). test (suc k)) n))

-- The fewest bytes of the text from a place on, 0 or more, after which all rules stand in their error states, or all bytes where that never
-- happens; `reach-fewest` (proofs/Reaching) says it without `fewest`.
unfoldable pub reach : List Rule → List ℕ → ℕ
reach rules text = fewest (λ (k : ℕ). all_fail rules (take k text)) (length text)
