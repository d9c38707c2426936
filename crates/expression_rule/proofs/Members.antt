-- What the numbers of an expression's sets say: the set ahead of a set, its part that takes a byte, and whether it has a last position.
-- Assumes nothing.
use mathlib.Core.Path.{◌≡◌, refl, sym, ap, ap₂, ◌∙◌}
use mathlib.Core.Bool.{Bool, true, false, not, ◌&&◌}
use mathlib.Core.List.{List, [], ◌∷◌}
use Prim.Native.Nat.{ℕ, zero, suc, ◌≤◌, ◌<◌}
use native.Mathlib.Omega.{arith}
use lib.Bits.{bit_and, bit_or}
use lib.Dec.{eqb}
use lib.ListN.{get_or}
use borrow.Author.Tests.{eq-eqb, ne_eqb}
use Rattle.automaton.specs.Choice.{if}
use Rattle.automaton.proofs.Tests.{clash, and_true}
use Rattle.expression.specs.Expression.{Expression}
use Rattle.positions.specs.Positions.{size, takes_at, last, follows}
use Rattle.positions.specs.Sets.{any_below, ahead, taking, has_last, ends_from}
use Rattle.positions.specs.Numbers.{set_below, set_of, member}
use Rattle.positions.proofs.Numbers.{member-set, set_same, set-or, set_and, set_none, none_set}
use Rattle.positions.proofs.Bounds.{takes_below}
use Rattle.positions.proofs.Matching.{any_passing, passing_any}
use Rattle.subsets.specs.States.{after_below, after}
use Rattle.expression_rule.specs.Layers.{Sets}

-- ---- tests below a bound

false_unless : (x : Bool) → (x ≡ true → ⊥) → x ≡ false
false_unless true h = absurd (h refl)
false_unless false h = refl

pub any_none : (n : ℕ) (test : ℕ → Bool) → ((p : ℕ) → p < n → test p ≡ false) → any_below n test ≡ false
unfolding any_below
any_none zero test h = refl
any_none (suc n) test h = rw (any_none n test (λ p l. h p (omega arith)), h n (omega arith))

none_any : (n : ℕ) (test : ℕ → Bool) → any_below n test ≡ false → (p : ℕ) → p < n → test p ≡ false
none_any n test e p l = false_unless (test p) (λ h. clash (passing_any n test p l h) e)

-- a bound above all that pass plays no part
any_fewer : (n m : ℕ) (test : ℕ → Bool) → m ≤ n → ((p : ℕ) → test p ≡ true → p < m) → any_below n test ≡ any_below m test
any_fewer n m test l h = go (any_below m test) refl
  where
    go : (t : Bool) → any_below m test ≡ t → any_below n test ≡ t
    go true e = let s = any_passing m test e in passing_any n test s.place (omega (arith, s.below)) s.passes
    go false e = any_none n test (λ p _. false_unless (test p) (λ k. clash (passing_any m test p (h p k) k) e))

-- a set is not empty where some number is of it
set_some : (n : ℕ) (test : ℕ → Bool) → not (eqb (set_below n test) 0) ≡ any_below n test
set_some n test = go (any_below n test) refl
  where
    go : (t : Bool) → any_below n test ≡ t → not (eqb (set_below n test) 0) ≡ t
    go true e =
        let s = any_passing n test e in
        rw (ne_eqb (set_below n test) 0 (λ z. clash s.passes (none_set n test z s.place s.below)))
    go false e = rw (eq-eqb (set_below n test) 0 (set_none n test (none_any n test e)))

-- ---- an empty set ends nothing

pub ends_nothing : (e : Expression) (w : List ℕ) (S : ℕ → Bool) → ((p : ℕ) → S p ≡ false) → ends_from e S w ≡ false
unfolding ends_from
ends_nothing e [] S h = any_none (size e) (λ p. S p && last e p) (λ p _. rw (h p))
ends_nothing e (b ∷ w) S h =
    ends_nothing e w (taking e b (ahead e S)) (λ q. rw (any_none (size e) (λ p. S p && follows e p q) (λ p _. rw (h p))))

-- ---- the sets of an expression

-- what is in the set is a position
pub record Within (e : Expression) (S : ℕ → Bool) : Type 0 where
  pub below : (p : ℕ) → S p ≡ true → p < size e

pub taking-within : (e : Expression) (b : ℕ) (A : ℕ → Bool) → Within e (taking e b A)
taking-within e b A = record { below = λ q h. takes_below b e q (and_true (A q) (takes_at e b q) h).1 }

module _ {e : Expression} {firsts lasts : ℕ} {empty : Bool} {follow takers : List ℕ} (s : Sets e firsts lasts empty follow takers) where
  pub taking-set : (b : ℕ) → b < 256 → (A : ℕ → Bool) → bit_and (set_of A) (get_or takers b 0) ≡ set_of (taking e b A)
  taking-set b l A = ap (bit_and (set_of A)) (s.takers_set b l) ∙ set_and 64 A (takes_at e b)

  module _ (S : ℕ → Bool) (w : Within e S) where
    pub empty_set : set_of S ≡ 0 → (p : ℕ) → S p ≡ false
    empty_set z p = false_unless (S p) (λ h. clash h (none_set 64 S z p (omega (arith, w.below p h, s.small))))

    pub last_set : not (eqb (bit_and (set_of S) lasts) 0) ≡ has_last e S
    last_set =
        ap (λ (x : ℕ). not (eqb (bit_and (set_of S) x) 0)) s.last_set
        ∙ ap (λ (x : ℕ). not (eqb x 0)) (set_and 64 S (last e)) ∙ set_some 64 (λ p. S p && last e p)
        ∙ any_fewer 64 (size e) (λ p. S p && last e p) s.small (λ p h. w.below p (and_true (S p) (last e p) h).0)

    -- what one position adds
    adds : (p : ℕ) → p < 64 → if (member p (set_of S)) (get_or follow p 0) 0 ≡ set_of (λ q. S p && follows e p q)
    adds p l = ap (λ (t : Bool). if t (get_or follow p 0) 0) (member-set 64 S p l) ∙ go (S p) refl
      where
        go : (t : Bool) → S p ≡ t → if t (get_or follow p 0) 0 ≡ set_of (λ q. t && follows e p q)
        go true h = s.follow_set p (w.below p h)
        go false h = sym (set_none 64 (λ q. false) (λ q _. refl))

    after_below_lem : (n : ℕ) → n ≤ 64 → after_below n follow (set_of S) ≡ set_of (λ q. any_below n (λ p. S p && follows e p q))
    unfolding after_below any_below
    after_below_lem zero l = sym (set_none 64 (λ q. false) (λ q _. refl))
    after_below_lem (suc n) l =
        ap₂ bit_or (after_below_lem n (omega arith)) (adds n (omega arith))
        ∙ set-or 64 (λ q. any_below n (λ p. S p && follows e p q)) (λ q. S n && follows e n q)

    pub after-set : after follow (set_of S) ≡ set_of (ahead e S)
    after-set =
        after_below_lem 64 (omega arith)
        ∙ set_same 64 (λ q. any_below 64 (λ p. S p && follows e p q)) (ahead e S)
        (λ q _. any_fewer 64 (size e) (λ p. S p && follows e p q) s.small (λ p h. w.below p (and_true (S p) (follows e p q) h).0))
