-- The numbers of sets of positions from base on, for expressions of two parts, the first with n positions. Assumes nothing.
use mathlib.Core.Path.{◌≡◌, refl, sym, ap, ap₂, ◌∙◌}
use mathlib.Core.Bool.{Bool, true, false, ◌&&◌, ◌||◌}
use Prim.Native.Nat.{ℕ, ◌+◌, ◌-◌, ◌*◌, ◌/◌, ◌%◌, ◌≤◌, ◌<◌, max}
use native.Mathlib.Omega.{arith}
use borrow.Author.Tests.{ltb-true, ltb-false, lt-ltb, le-ltb, le-leb, lt-leb}
use lib.Arith.{bin_ind, digits_mod}
use lib.Bits.{bit_or, or_step, or_shr}
use lib.Dec.{leb, ltb}
use Rattle.automaton.proofs.Tests.{or_none}
use Rattle.positions.specs.Positions.{of_part}
use Rattle.positions.specs.Numbers.{set_of}
use Rattle.positions.proofs.Numbers.{set-or, set_same}
use Rattle.position_reader.specs.Layers.{from}

-- ---- where a position stands

module _ (base n q : ℕ) {P : Type 0} where
  -- before the first part, in it, or behind it
  pub by_place : (q < base → P) → (base ≤ q → q < base + n → P) → (base + n ≤ q → P) → P
  by_place before inside behind = go (ltb q base) refl (ltb q (base + n)) refl
    where
      go : (t : Bool) → ltb q base ≡ t → (u : Bool) → ltb q (base + n) ≡ u → P
      go true e u d = before (ltb-true q base e)
      go false e true d = inside (ltb-false q base e) (ltb-true q (base + n) d)
      go false e false d = behind (ltb-false q (base + n) d)

module _ (base : ℕ) (f : ℕ → Bool) (q : ℕ) where
  pub from_before : q < base → from base f q ≡ false
  from_before h = rw (lt-leb base q h)

  pub from_at : base ≤ q → from base f q ≡ f (q - base)
  from_at h = rw (le-leb base q h)

-- ---- the first part, the second, both

module _ (base n : ℕ) (f g : ℕ → Bool) (q : ℕ) where
  part_inside : base ≤ q → q < base + n → from base (of_part n f g) q ≡ f (q - base)
  part_inside h k = rw (le-leb base q h, lt-ltb (q - base) n (omega arith))

  part-behind : base + n ≤ q → from base (of_part n f g) q ≡ g (q - (base + n))
  part-behind h =
      let e : q - base - n ≡ q - (base + n) = omega arith in
      rw (le-leb base q (omega arith), le-ltb (q - base) n (omega arith), e)

pub second_set : (base n : ℕ) (g : ℕ → Bool) → set_of (from (base + n) g) ≡ set_of (from base (of_part n (λ r. false) g))
second_set base n g = set_same 64 (from (base + n) g) (from base (of_part n (λ r. false) g)) (λ q h. by_place base n q
    (λ l. from_before (base + n) g q (omega arith) ∙ sym (from_before base (of_part n (λ r. false) g) q l))
    (λ l k. from_before (base + n) g q k ∙ sym (part_inside base n (λ r. false) g q l k))
    (λ l. from_at (base + n) g q l ∙ sym (part-behind base n (λ r. false) g q l)))

-- where f holds positions of the first part only
module _ (base n : ℕ) (f : ℕ → Bool) (below : (p : ℕ) → f p ≡ true → p < n) where
  f_behind : (q : ℕ) → base + n ≤ q → from base f q ≡ false
  f_behind q h = from_at base f q (omega arith) ∙ go (f (q - base)) refl
    where
      go : (t : Bool) → f (q - base) ≡ t → f (q - base) ≡ false
      go true e = let l : q - base < n = below (q - base) e in absurd (omega arith)
      go false e = e

  pub both_set : (g : ℕ → Bool) → bit_or (set_of (from base f)) (set_of (from (base + n) g)) ≡ set_of (from base (of_part n f g))
  both_set g =
      set-or 64 (from base f) (from (base + n) g)
      ∙ set_same 64 (λ q. from base f q || from (base + n) g q) (from base (of_part n f g)) (λ q h. by_place base n q
      (λ l. ap₂ ◌||◌ (from_before base f q l) (from_before (base + n) g q (omega arith)) ∙ sym (from_before base (of_part n f g) q l))
      (λ l k. ap₂ ◌||◌ (from_at base f q l) (from_before (base + n) g q k) ∙ or_none (f (q - base)) ∙ sym (part_inside base n f g q l k))
      (λ l. ap₂ ◌||◌ (f_behind q l) (from_at (base + n) g q l) ∙ sym (part-behind base n f g q l)))

  pub first-set : set_of (from base f) ≡ set_of (from base (of_part n f (λ r. false)))
  first-set = set_same 64 (from base f) (from base (of_part n f (λ r. false))) (λ q h. by_place base n q
      (λ l. from_before base f q l ∙ sym (from_before base (of_part n f (λ r. false)) q l))
      (λ l k. from_at base f q l ∙ sym (part_inside base n f (λ r. false) q l k))
      (λ l. f_behind q l ∙ sym (part-behind base n f (λ r. false) q l)))

-- ---- two tests of the same positions

and_or : (t x y : Bool) → (t && x) || (t && y) ≡ t && (x || y)
and_or true x y = refl
and_or false x y = refl

pub or_set : (base : ℕ) (f g : ℕ → Bool) → bit_or (set_of (from base f)) (set_of (from base g)) ≡ set_of (from base (λ q. f q || g q))
or_set base f g =
    set-or 64 (from base f) (from base g)
    ∙ set_same 64 (λ q. from base f q || from base g q) (from base (λ q. f q || g q))
    (λ q h. and_or (leb base q) (f (q - base)) (g (q - base)))

-- ---- the union of numbers

max_assoc : (x y z : ℕ) → max (max x y) z ≡ max x (max y z)
max_assoc x y z = omega arith

max_two : (a b : ℕ) → max (a % 2) (b % 2) < 2
max_two a b = omega arith

or_odd : (a b : ℕ) → bit_or a b % 2 ≡ max (a % 2) (b % 2)
or_odd a b = ap (λ (x : ℕ). x % 2) (or_step a b) ∙ digits_mod (bit_or (a / 2) (b / 2)) (max_two a b)

pub or_assoc : (a b c : ℕ) → bit_or (bit_or a b) c ≡ bit_or a (bit_or b c)
or_assoc =
    bin_ind (λ (a : ℕ). (b c : ℕ) → bit_or (bit_or a b) c ≡ bit_or a (bit_or b c)) (λ b c. refl)
    (λ a ih b c.
    or_step (bit_or a b) c
    ∙ ap₂ (λ (x y : ℕ). x * 2 + y)
    (ap (λ (x : ℕ). bit_or x (c / 2)) (or_shr a b 1) ∙ ih (b / 2) (c / 2) ∙ ap (λ (x : ℕ). bit_or (a / 2) x) (sym (or_shr b c 1)))
    (ap (λ (x : ℕ). max x (c % 2)) (or_odd a b) ∙ max_assoc (a % 2) (b % 2) (c % 2)
    ∙ ap (λ (x : ℕ). max (a % 2) x) (sym (or_odd b c)))
    ∙ sym (or_step a (bit_or b c)))
