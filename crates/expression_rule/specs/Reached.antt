-- The states of an expression's rule, in the words of document 02, wish 9: "a state is the set of positions that can have matched the last
-- byte"; "sets are numbered from 1 by the shortest, then lowest, string that reaches them".
use Rattle.std.specs.Prelude.{◌≡◌, Bool, false, List, [], ◌∷◌, ℕ, suc, ◌<◌, ◌≤◌}
use Rattle.automaton.specs.Rule.{Rule, walk}
use Rattle.expression.specs.Expression.{Expression}
use Rattle.positions.specs.Positions.{first}
use Rattle.positions.specs.Sets.{ahead, taking}
use Rattle.subsets.specs.Numbering.{Bytes, Before}

-- the positions that can have matched the last byte of a string, where those of the set can match its first; none where there is no byte
unfoldable pub reached_from : Expression → (ℕ → Bool) → List ℕ → (ℕ → Bool)
reached_from e set [] = λ p. false
reached_from e set (b ∷ []) = taking e b set
reached_from e set (b ∷ c ∷ w) = reached_from e (ahead e (taking e b set)) (c ∷ w)

abbrev pub reached : Expression → List ℕ → (ℕ → Bool)
reached e w = reached_from e (first e) w

abbrev pub Empty : (ℕ → Bool) → Type 0
Empty set = (p : ℕ) → set p ≡ false

abbrev pub Same : (ℕ → Bool) → (ℕ → Bool) → Type 0
Same set other = (p : ℕ) → set p ≡ other p

-- strings with numbers below `count` reach sets that are not empty, no two the same
pub record Different (e : Expression) (count : ℕ) (word : ℕ → List ℕ) : Type 0 where
  pub bytes : (k : ℕ) → k < count → Bytes (word k)
  pub filled : (k : ℕ) → k < count → Empty (reached e (word k)) → ⊥
  pub different : (i j : ℕ) → i < j → j < count → Same (reached e (word i)) (reached e (word j)) → ⊥

-- The rule's states are these sets. State k + 1 is the set that string `word k` reaches and no string before it; these strings rise. A
-- string leads to the state of the set that it reaches, and to the error state where that is empty.
pub record StatesOf (e : Expression) (r : Rule) : Type 0 where
  pub count : ℕ
  pub few : count ≤ 254
  pub word : ℕ → List ℕ
  pub sets : Different e count word
  pub rising : (i j : ℕ) → i < j → j < count → Before (word i) (word j)
  pub least : (k : ℕ) → k < count → (v : List ℕ) → Bytes v → Same (reached e v) (reached e (word k)) → Before v (word k) → ⊥
  pub all : (v : List ℕ) → Bytes v → (Empty (reached e v) → ⊥) → (k : ℕ) × (k < count) × Same (reached e v) (reached e (word k))
  pub leads : (k : ℕ) → k < count → (v : List ℕ) → Bytes v → Same (reached e v) (reached e (word k)) → walk r r.start v ≡ suc k
  pub fails : (b : ℕ) (v : List ℕ) → Bytes (b ∷ v) → Empty (reached e (b ∷ v)) → walk r r.start (b ∷ v) ≡ r.error

-- "more than 254 reachable non-empty sets"
pub record ManyReached (e : Expression) : Type 0 where
  pub word : ℕ → List ℕ
  pub sets : Different e 255 word
