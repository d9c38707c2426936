-- What the sets of an expression hold are its own positions. Assumes nothing.
use mathlib.Core.Path.{◌≡◌, refl}
use mathlib.Core.Bool.{Bool, true, false, ◌&&◌, ◌||◌}
use mathlib.Core.Logic.{inl, inr}
use Prim.Native.Nat.{ℕ, ◌+◌, ◌-◌, ◌≤◌, ◌<◌}
use native.Mathlib.Omega.{arith}
use lib.Dec.{eqb, ltb}
use borrow.Author.Tests.{ltb-true, ltb-false, eqb-true}
use Rattle.automaton.specs.Choice.{if}
use Rattle.automaton.proofs.Tests.{clash, and_true}
use Rattle.expression.specs.Expression.{Expression, position, group, union, concat, star, plus, optional, takes}
use Rattle.positions.specs.Positions.{size, nullable, of_part, takes_at, first, last, follows}
use Rattle.positions.proofs.Splits.{or_cases}

zero_below : (p : ℕ) → eqb p 0 ≡ true → p < 1
zero_below p h = let z : p ≡ 0 = eqb-true p 0 h in omega arith

module _ (n m p : ℕ) where
  in_part : {x y : Bool} (t : Bool) → ltb p n ≡ t → (x ≡ true → p < n) → (y ≡ true → p - n < m) → if t x y ≡ true → p < n + m
  in_part true e h k l = let z : p < n = ltb-true p n e in omega arith
  in_part false e h k l = let z : n ≤ p = ltb-false p n e in let y : p - n < m = k l in omega arith

  parts_below : (S T : ℕ → Bool) → (S p ≡ true → p < n) → (T (p - n) ≡ true → p - n < m) → of_part n S T p ≡ true → p < n + m
  parts_below S T h k l = in_part (ltb p n) refl h k l

-- what follows a position of the first part, or of the second
abbrev pub from_part : Bool → ℕ → (ℕ → Bool) → (ℕ → Bool) → (ℕ → Bool) → ℕ → Bool
from_part t n S T U q = if t (of_part n S T q) (of_part n (λ r. false) U q)

second_part : (n q : ℕ) (U : ℕ → Bool) → of_part n (λ r. false) U q ≡ true → U (q - n) ≡ true
second_part n q U h = go (ltb q n) h
  where
    go : (t : Bool) → if t false (U (q - n)) ≡ true → U (q - n) ≡ true
    go true h = clash h refl
    go false h = h

module _ (n m p q : ℕ) (S T U : ℕ → Bool) where
  from_below : (S q ≡ true → q < n) → (T (q - n) ≡ true → q - n < m) → (U (q - n) ≡ true → (p - n < m) × (q - n < m)) → (t : Bool)
      → ltb p n ≡ t → from_part t n S T U q ≡ true → (p < n + m) × (q < n + m)
  from_below h k u true e l = let z : p < n = ltb-true p n e in (omega arith, parts_below n m q S T h k l)
  from_below h k u false e l = let z : (p - n < m) × (q - n < m) = u (second_part n q U l) in (omega arith, omega arith)

module _ (b : ℕ) where
  pub takes_below : (e : Expression) (p : ℕ) → takes_at e b p ≡ true → p < size e
  unfolding takes_at size
  takes_below (position c) p h = zero_below p (and_true (eqb p 0) (takes c b) h).0
  takes_below (group e) p h = takes_below e p h
  takes_below (union e f) p h =
      parts_below (size e) (size f) p (takes_at e b) (takes_at f b) (λ k. takes_below e p k) (λ k. takes_below f (p - size e) k) h
  takes_below (concat e f) p h =
      parts_below (size e) (size f) p (takes_at e b) (takes_at f b) (λ k. takes_below e p k) (λ k. takes_below f (p - size e) k) h
  takes_below (star e) p h = takes_below e p h
  takes_below (plus e) p h = takes_below e p h
  takes_below (optional e) p h = takes_below e p h

pub first_below : (e : Expression) (p : ℕ) → first e p ≡ true → p < size e
unfolding first size
first_below (position c) p h = zero_below p h
first_below (group e) p h = first_below e p h
first_below (union e f) p h =
    parts_below (size e) (size f) p (first e) (first f) (λ k. first_below e p k) (λ k. first_below f (p - size e) k) h
first_below (concat e f) p h = parts_below (size e) (size f) p (first e) (λ q. nullable e && first f q) (λ k. first_below e p k)
    (λ k. first_below f (p - size e) (and_true (nullable e) (first f (p - size e)) k).1) h
first_below (star e) p h = first_below e p h
first_below (plus e) p h = first_below e p h
first_below (optional e) p h = first_below e p h

pub last_below : (e : Expression) (p : ℕ) → last e p ≡ true → p < size e
unfolding last size
last_below (position c) p h = zero_below p h
last_below (group e) p h = last_below e p h
last_below (union e f) p h =
    parts_below (size e) (size f) p (last e) (last f) (λ k. last_below e p k) (λ k. last_below f (p - size e) k) h
last_below (concat e f) p h = parts_below (size e) (size f) p (λ q. nullable f && last e q) (last f)
    (λ k. last_below e p (and_true (nullable f) (last e p) k).1) (λ k. last_below f (p - size e) k) h
last_below (star e) p h = last_below e p h
last_below (plus e) p h = last_below e p h
last_below (optional e) p h = last_below e p h

again : (e : Expression) (p q : ℕ) → (follows e p q ≡ true → (p < size e) × (q < size e)) → follows e p q || last e p && first e q ≡ true
    → (p < size e) × (q < size e)
again e p q ih h = elim (or_cases (follows e p q) (last e p && first e q) h) [
  | inl k ↦ ih k
  | inr k ↦ let l = and_true (last e p) (first e q) k in (last_below e p l.0, first_below e q l.1)
]

-- both of two positions of which one can follow the other
pub follows_below : (e : Expression) (p q : ℕ) → follows e p q ≡ true → (p < size e) × (q < size e)
unfolding follows size
follows_below (position c) p q h = clash h refl
follows_below (group e) p q h = follows_below e p q h
follows_below (union e f) p q h =
    from_below (size e) (size f) p q (follows e p) (λ r. false) (follows f (p - size e)) (λ k. (follows_below e p q k).1)
    (λ k. clash k refl) (λ k. follows_below f (p - size e) (q - size e) k) (ltb p (size e)) refl h
follows_below (concat e f) p q h =
    from_below (size e) (size f) p q (follows e p) (λ r. last e p && first f r) (follows f (p - size e)) (λ k. (follows_below e p q k).1)
    (λ k. first_below f (q - size e) (and_true (last e p) (first f (q - size e)) k).1)
    (λ k. follows_below f (p - size e) (q - size e) k) (ltb p (size e)) refl h
follows_below (star e) p q h = again e p q (follows_below e p q) h
follows_below (plus e) p q h = again e p q (follows_below e p q) h
follows_below (optional e) p q h = follows_below e p q h
