-- Whether a tag is taken, by the number of its rule. Assumes nothing.
use Rattle.std.specs.Prelude.{Option as Maybe, None, Some, is_some, MatchOption}
use mathlib.Core.Path.{◌≡◌, refl, sym}
use mathlib.Core.Bool.{true, false}
use mathlib.Core.List.{List, [], ◌∷◌}
use Prim.Native.Nat.{ℕ, zero, suc, ◌<◌}
use native.Mathlib.Omega.{arith}
use lib.Dec.{eqb}
use lib.ListN.{length}
use borrow.Author.Tests.{eq-eqb}
use Rattle.automaton.specs.Rule.{Rule}
use Rattle.automaton.specs.Layers.{rule_at, Ranks}
use Rattle.book.specs.Draft.{tagged}

untagged : (rules : List Rule) (tag : ℕ) → ((j : ℕ) → j < length rules → eqb (rule_at rules j).tag tag ≡ false) → tagged tag rules ≡ false
untagged [] tag h = refl
untagged (r ∷ rs) tag h = rw (h 0 (omega arith)) (untagged rs tag (λ j l. h (suc j) (omega arith)))

tagged_here : (rules : List Rule) (tag k : ℕ) → k < length rules → (rule_at rules k).tag ≡ tag
    → ((j : ℕ) → j < k → eqb (rule_at rules j).tag tag ≡ false) → tagged tag rules ≡ true
tagged_here [] tag k l e h = absurd (omega arith)
tagged_here (r ∷ rs) tag zero l e h = rw (eq-eqb _ _ e)
tagged_here (r ∷ rs) tag (suc k) l e h = rw (h 0 (omega arith)) (tagged_here rs tag k (omega arith) e (λ j p. h (suc j) (omega arith)))

module _ {rules : List Rule} {tag k : ℕ} (r : Ranks rules tag k) where
  pub ranks_none : k ≡ length rules → tagged tag rules ≡ false
  ranks_none e = untagged rules tag (λ j l. r.earlier j (omega arith))

  pub ranks_some : (k ≡ length rules → ⊥) → tagged tag rules ≡ true
  ranks_some ne = let l : k < length rules = omega (arith, r.within) in tagged_here rules tag k l (r.here l) r.earlier

-- a tag is taken where a rule of it is found
pub found_taken : (rules : List Rule) (tag : ℕ) (r : Maybe ℕ)
    → MatchOption r (Ranks rules tag (length rules)) (λ k. (k < length rules) × Ranks rules tag k) → is_some r ≡ tagged tag rules
found_taken rules tag None h = sym (ranks_none h refl)
found_taken rules tag (Some k) h = sym (ranks_some h.1 (λ e. omega (arith, h.0)))
