-- What `find` answers is the place of the set, and its number is one more. Assumes nothing.
use mathlib.Core.Path.{◌≡◌, refl, sym, ap, ◌∙◌}
use mathlib.Core.Bool.{Bool, true, false, cond, not}
use mathlib.Core.List.{List, [], ◌∷◌}
use Prim.Native.Nat.{ℕ, zero, suc, ◌+◌, ◌≤◌, ◌<◌}
use native.Mathlib.Numerals.{add-one}
use native.Mathlib.Omega.{arith}
use lib.Dec.{eqb, ltb}
use lib.ListN.{length, get_or}
use borrow.Author.Tests.{eqb-true, eqb-false, eq-eqb, ne_eqb, ltb-true, ltb-false}
use Rattle.std.specs.Prelude.{Some, None, MatchOption, position}
use Rattle.std.specs.List.{position_or_len}
use Rattle.automaton.specs.Choice.{if}
use Rattle.subsets.specs.States.{place, number_of}
use Rattle.subsets.proofs.Reaching.{place-within, number_some}

place_is : (set : ℕ) (known : List ℕ) → position_or_len (λ x. eqb x set) known ≡ place set known
unfolding place
place_is set [] = refl
place_is set (x ∷ known) = go (eqb x set) refl (place_is set known)
  where
    go : (t : Bool) → eqb x set ≡ t → position_or_len (λ x. eqb x set) known ≡ place set known
        → cond (not t) (1 + position_or_len (λ x. eqb x set) known) 0 ≡ if (eqb set x) 0 (suc (place set known))
    go true e h = rw (eq-eqb set x (sym (eqb-true x set e)))
    go false e h = rw (ne_eqb set x (λ q. eqb-false x set e (sym q))) (omega arith)

-- a set stands where it is, and not before
pub place_at : (set : ℕ) (known : List ℕ) (i : ℕ) → i < length known → get_or known i 0 ≡ set
    → ((k : ℕ) → k < i → get_or known k 0 ≡ set → ⊥) → place set known ≡ i
unfolding place
place_at set [] i l here before = omega arith
place_at set (x ∷ known) zero l here before = rw (eq-eqb set x (sym here))
place_at set (x ∷ known) (suc i) l here before =
    rw (ne_eqb set x (λ e. before 0 (omega arith) (sym e)))
    (ap suc (place_at set known i (omega arith) here (λ k m. before (suc k) (omega arith))))

-- `find` answers where it stands, or it stands nowhere
found : (set : ℕ) (known : List ℕ)
    → MatchOption (position (λ x. eqb x set) known) (place set known ≡ length known) (λ i. (place set known ≡ i) × (i < length known))
found set known = rw (place_is set known) (go (ltb (place set known) (length known)) refl)
  where
    go : (t : Bool) → ltb (place set known) (length known) ≡ t
        → MatchOption (cond t (Some (place set known)) None) (place set known ≡ length known)
        (λ i. (place set known ≡ i) × (i < length known))
    go true e = (refl, ltb-true (place set known) (length known) e)
    go false e = omega (arith, place-within set known, ltb-false (place set known) (length known) e)

module _ (set : ℕ) (known : List ℕ) (some : set ≡ 0 → ⊥) where
  pub number_next : number_of known set ≡ place set known + 1
  number_next = number_some known set (ne_eqb set 0 some) ∙ sym (add-one (place set known))

  pub number_at : (k : ℕ) → position (λ x. eqb x set) known ≡ Some k → (k + 1 ≡ number_of known set) × (k + 1 ≤ length known)
  number_at k e = let h = rw e at (found set known) in (omega (arith, h, number_next), omega (arith, h))

  pub number_past : position (λ x. eqb x set) known ≡ None → length known < number_of known set
  number_past e = let h = rw e at (found set known) in omega (arith, h, number_next)
