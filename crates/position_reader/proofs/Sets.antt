-- The set of one position, and the sets of the expression that is one. Assumes nothing.
use mathlib.Core.Path.{◌≡◌, refl, sym, ◌∙◌}
use mathlib.Core.Bool.{Bool, true, false, ◌&&◌}
use Prim.Native.Nat.{ℕ, ◌-◌, ◌*◌, ◌%◌, ◌^◌, ◌≤◌, ◌<◌}
use native.Mathlib.Nat.{mod-eq_of_lt}
use native.Mathlib.Omega.{arith}
use lib.Dec.{eqb, leb}
use borrow.Author.Tests.{eqb-true, eqb-false, leb-true, eq-eqb, ne_eqb, le-leb}
use Rattle.automaton.specs.Choice.{if}
use Rattle.automaton.proofs.Tests.{clash, and_false_right}
use Rattle.expression.specs.Expression.{Position, position, takes}
use Rattle.positions.specs.Positions.{takes_at, first, last}
use Rattle.positions.specs.Numbers.{set_of}
use Rattle.positions.proofs.Numbers.{set-lt, set_same, set_none, set-one}
use Rattle.position_reader.specs.Layers.{from}
use Rattle.position_reader.specs.Steps.{only}

and_true_right : (x : Bool) → x && true ≡ x
and_true_right true = refl
and_true_right false = refl

eqb_turned : (a b : ℕ) → eqb a b ≡ eqb b a
eqb_turned a b = go (eqb a b) refl
  where
    go : (c : Bool) → eqb a b ≡ c → c ≡ eqb b a
    go true e = sym (eq-eqb b a (sym (eqb-true a b e)))
    go false e = sym (ne_eqb b a (λ z. eqb-false a b e (sym z)))

only_one : (n : ℕ) → n < 64 → only n ≡ 2 ^ n
only_one n l = set_same 64 (λ p. eqb p n) (eqb n) (λ p h. eqb_turned p n) ∙ set-one 64 n l

pub only_below : (n : ℕ) → n < 64 → 1 * 2 ^ n % 18446744073709551616 ≡ only n
only_below n l =
    let h : only n < 18446744073709551616 = set-lt 64 (λ p. eqb p n) in
    let e : 1 * 2 ^ n ≡ only n = omega (arith, only_one n l) in
    rw e (mod-eq_of_lt h)

pub only_above : (n : ℕ) → 64 ≤ n → 0 ≡ only n
only_above n l = sym (set_none 64 (λ p. eqb p n) (λ p h. ne_eqb p n (omega arith)))

-- ---- the expression that is one position

from_first : (base q : ℕ) → from base (λ p. eqb p 0) q ≡ eqb q base
from_first base q = go (leb base q) refl (eqb q base) refl
  where
    go : (t : Bool) → leb base q ≡ t → (u : Bool) → eqb q base ≡ u → t && eqb (q - base) 0 ≡ u
    go true h true k = eq-eqb (q - base) 0 (omega (arith, eqb-true q base k))
    go true h false k = ne_eqb (q - base) 0 (λ z. eqb-false q base k (omega (arith, leb-true base q h)))
    go false h true k = clash (le-leb base q (omega (arith, eqb-true q base k))) h
    go false h false k = refl

pub first_one : (base : ℕ) (c : Position) → only base ≡ set_of (from base (first (position c)))
unfolding first
first_one base c = set_same 64 (λ p. eqb p base) (from base (λ p. eqb p 0)) (λ p h. sym (from_first base p))

pub last_one : (base : ℕ) (c : Position) → only base ≡ set_of (from base (last (position c)))
unfolding last
last_one base c = set_same 64 (λ p. eqb p base) (from base (λ p. eqb p 0)) (λ p h. sym (from_first base p))

pub takers_one : (base : ℕ) (c : Position) (b : ℕ) → set_of (from base (takes_at (position c) b)) ≡ if (takes c b) (only base) 0
unfolding takes_at
takers_one base c b = go (takes c b)
  where
    go : (t : Bool) → set_of (from base (λ p. eqb p 0 && t)) ≡ if t (only base) 0
    go true = set_same 64 _ (λ p. eqb p base) (λ p h. rw (and_true_right (eqb (p - base) 0)) (from_first base p))
    go false = set_none 64 _ (λ p h. rw (and_false_right (eqb (p - base) 0), and_false_right (leb base p)))
