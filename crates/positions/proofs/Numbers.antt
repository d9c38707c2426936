-- What the number of a set says: its members, its size, and the number of a union, of an intersection, of none and of one. Assumes nothing.
use mathlib.Core.Path.{◌≡◌, refl, sym, ap, ap₂, ◌∙◌}
use mathlib.Core.Bool.{Bool, true, false, ◌&&◌, ◌||◌}
use mathlib.Core.Logic.{◌⊎◌, inl, inr}
use Prim.Native.Nat.{ℕ, zero, suc, ◌+◌, ◌-◌, ◌*◌, ◌/◌, ◌%◌, ◌^◌, ◌≤◌, ◌<◌}
use native.Mathlib.Nat.{eq-or-lt_of_le, pow-suc, mul_comm, mul_assoc, mod-lt, mod-one, mod-eq_of_lt, div-eq_of_lt, zero-div}
use native.Mathlib.Nat.{mul-add-div_right, mul-add-mod_self_right, lt_of_lt_of_le}
use native.Mathlib.Omega.{arith}
use lib.Dec.{eqb}
use lib.Arith.{mod-mul}
use lib.Pow.{pow_pos, pow_mono, pow-add, high}
use lib.Bits.{bit_and, bit_or, and_block, or_block}
use borrow.Author.Tests.{eq-eqb, ne_eqb}
use Rattle.automaton.specs.Choice.{if}
use Rattle.positions.specs.Numbers.{set_below, member}

-- ---- one position more

bit : Bool → ℕ
bit true = 1
bit false = 0

scaled : (t : Bool) (x : ℕ) → if t x 0 ≡ bit t * x
unfolding bit
scaled true x = omega arith
scaled false x = omega arith

bit_test : (t : Bool) → eqb (bit t % 2) 1 ≡ t
unfolding bit
bit_test true = refl
bit_test false = refl

set-step : (n : ℕ) (f : ℕ → Bool) → set_below (suc n) f ≡ bit (f n) * 2 ^ n + set_below n f
unfolding set_below
set-step n f = omega (arith, scaled (f n) (2 ^ n))

-- ---- how large

lt-step : (s x : ℕ) (t : Bool) → s < x → s + if t x 0 < x * 2
lt-step s x true h = omega arith
lt-step s x false h = omega arith

pub set-lt : (n : ℕ) (f : ℕ → Bool) → set_below n f < 2 ^ n
unfolding set_below
set-lt zero f = omega arith
set-lt (suc n) f = rw pow-suc (lt-step (set_below n f) (2 ^ n) (f n) (set-lt n f))

-- ---- its members

-- a bit does not see what stands above it
low_bit : (c s : ℕ) {p n : ℕ} → p < n → (c * 2 ^ n + s) / 2 ^ p % 2 ≡ s / 2 ^ p % 2
low_bit c s {p} {n} h =
    ap (λ (x : ℕ). (x + s) / 2 ^ p % 2) split
    ∙ ap (λ (x : ℕ). x % 2) (mul-add-div_right (pow_pos p) (c * 2 ^ (n - suc p) * 2) s)
    ∙ mul-add-mod_self_right (c * 2 ^ (n - suc p)) 2 (s / 2 ^ p)
  where
    exponent : n ≡ (n - suc p) + suc p
    exponent = omega arith

    split : c * 2 ^ n ≡ c * 2 ^ (n - suc p) * 2 * 2 ^ p
    split = ap (λ (k : ℕ). c * 2 ^ k) exponent ∙ rw (pow-add, pow-suc, mul_comm (2 ^ p) 2) (simp mul_assoc)

pub member-set : (n : ℕ) (f : ℕ → Bool) (p : ℕ) → p < n → member p (set_below n f) ≡ f p
member-set zero f p h = absurd (omega arith)
member-set (suc n) f p h = rw set-step (go (member-set n f p) (eq-or-lt_of_le (omega arith)))
  where
    go : (p < n → member p (set_below n f) ≡ f p) → (p ≡ n) ⊎ (p < n) → member p (bit (f n) * 2 ^ n + set_below n f) ≡ f p
    go ih (inl e) = rw (e, high (bit (f n)) n (set-lt n f)) (bit_test (f n))
    go ih (inr l) = rw (low_bit (bit (f n)) (set_below n f) l) (ih l)

pub member_none : (n : ℕ) (f : ℕ → Bool) (p : ℕ) → n ≤ p → member p (set_below n f) ≡ false
member_none n f p h = rw (div-eq_of_lt (lt_of_lt_of_le (set-lt n f) (pow_mono h)))

pub set_same : (n : ℕ) (f g : ℕ → Bool) → ((p : ℕ) → p < n → f p ≡ g p) → set_below n f ≡ set_below n g
unfolding set_below
set_same zero f g h = refl
set_same (suc n) f g h = rw (h n (omega arith), set_same n f g (λ p l. h p (omega arith)))

-- the number of a number's members
set_members : (n a : ℕ) → set_below n (λ p. member p a) ≡ a % 2 ^ n
unfolding set_below
set_members zero a = sym (mod-one a)
set_members (suc n) a =
    ap (λ (x : ℕ). x + if (member n a) (2 ^ n) 0) (set_members n a)
    ∙ digit (a / 2 ^ n % 2) (a % 2 ^ n) (2 ^ n) (mod-lt (a / 2 ^ n) (omega arith))
    ∙ sym (rw (pow-suc, mul_comm (2 ^ n) 2) (mod-mul a {m = 2} (omega arith) (pow_pos n)))
  where
    digit : (d r x : ℕ) → d < 2 → r + if (eqb d 1) x 0 ≡ d * x + r
    digit zero r x h = omega arith
    digit (suc zero) r x h = omega arith
    digit (suc (suc d)) r x h = absurd (omega arith)

pub number_same : (n a b : ℕ) → a < 2 ^ n → b < 2 ^ n → ((p : ℕ) → p < n → member p a ≡ member p b) → a ≡ b
number_same n a b h l e =
    sym (mod-eq_of_lt h) ∙ sym (set_members n a) ∙ set_same n (λ p. member p a) (λ p. member p b) e ∙ set_members n b ∙ mod-eq_of_lt l

-- ---- of a union, of an intersection

bit-or : (x y : Bool) → bit_or (bit x) (bit y) ≡ bit (x || y)
unfolding bit
bit-or true true = refl
bit-or true false = refl
bit-or false true = refl
bit-or false false = refl

bit_and_lem : (x y : Bool) → bit_and (bit x) (bit y) ≡ bit (x && y)
unfolding bit
bit_and_lem true true = refl
bit_and_lem true false = refl
bit_and_lem false true = refl
bit_and_lem false false = refl

pub set-or : (n : ℕ) (f g : ℕ → Bool) → bit_or (set_below n f) (set_below n g) ≡ set_below n (λ p. f p || g p)
unfolding set_below
set-or zero f g = refl
set-or (suc n) f g =
    ap₂ bit_or (set-step n f) (set-step n g)
    ∙ or_block n (bit (f n)) (bit (g n)) (set_below n f) (set_below n g) (set-lt n f) (set-lt n g)
    ∙ ap₂ (λ (x y : ℕ). x * 2 ^ n + y) (bit-or (f n) (g n)) (set-or n f g) ∙ sym (set-step n (λ p. f p || g p))

pub set_and : (n : ℕ) (f g : ℕ → Bool) → bit_and (set_below n f) (set_below n g) ≡ set_below n (λ p. f p && g p)
unfolding set_below
set_and zero f g = refl
set_and (suc n) f g =
    ap₂ bit_and (set-step n f) (set-step n g)
    ∙ and_block n (bit (f n)) (bit (g n)) (set_below n f) (set_below n g) (set-lt n f) (set-lt n g)
    ∙ ap₂ (λ (x y : ℕ). x * 2 ^ n + y) (bit_and_lem (f n) (g n)) (set_and n f g) ∙ sym (set-step n (λ p. f p && g p))

-- ---- of none, of one

pub set_none : (n : ℕ) (f : ℕ → Bool) → ((p : ℕ) → p < n → f p ≡ false) → set_below n f ≡ 0
unfolding set_below
set_none zero f h = refl
set_none (suc n) f h = rw (h n (omega arith), set_none n f (λ p l. h p (omega arith)))

pub none_set : (n : ℕ) (f : ℕ → Bool) → set_below n f ≡ 0 → (p : ℕ) → p < n → f p ≡ false
none_set n f e p h = sym (member-set n f p h) ∙ rw (e, zero-div)

pub set-one : (n k : ℕ) → k < n → set_below n (eqb k) ≡ 2 ^ k
unfolding set_below
set-one zero k h = absurd (omega arith)
set-one (suc n) k h = go (set-one n k) (eq-or-lt_of_le (omega arith))
  where
    go : (k < n → set_below n (eqb k) ≡ 2 ^ k) → (k ≡ n) ⊎ (k < n) → set_below n (eqb k) + if (eqb k n) (2 ^ n) 0 ≡ 2 ^ k
    go ih (inl e) = rw (eq-eqb k n e, set_none n (eqb k) (λ p l. ne_eqb k p (omega arith)), e) (omega arith)
    go ih (inr l) = rw (ne_eqb k n (omega arith), ih l) (omega arith)
