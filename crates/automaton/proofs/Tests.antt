-- Tests and choices, taken apart, and what holds of every element. Assumes nothing.
use mathlib.Core.Path.{◌≡◌, refl, sym, subst}
use mathlib.Core.Bool.{Bool, true, false, ◌&&◌, ◌||◌}
use mathlib.Core.List.{List, [], ◌∷◌, ◌++◌}
use Prim.Native.Nat.{ℕ, zero, suc, ◌<◌}
use native.Mathlib.Omega.{arith}
use lib.Dec.{eqb}
use lib.ListN.{length, get_or}
use borrow.Author.Tests.{eqb-true, eq-eqb}
use Rattle.automaton.specs.Choice.{if, All, any, among}

pub clash : {A : Type 0} {b : Bool} → b ≡ true → b ≡ false → A
clash {b = b} p q = let z : ◌≡◌ {A = ℕ} 0 1 = cc in absurd (omega arith)

pub or_true : (x : Bool) → x || true ≡ true
or_true true = refl
or_true false = refl

pub or_none : (x : Bool) → x || false ≡ x
or_none true = refl
or_none false = refl

pub or_false : (x y : Bool) → x || y ≡ false → (x ≡ false) × (y ≡ false)
or_false true y e = clash refl e
or_false false y e = (refl, e)

pub if_false : (x y : Bool) → if x true y ≡ false → (x ≡ false) × (y ≡ false)
if_false true y e = clash refl e
if_false false y e = (refl, e)

pub and_true : (x y : Bool) → x && y ≡ true → (x ≡ true) × (y ≡ true)
and_true true y e = (refl, e)
and_true false y e = clash e refl

pub and_false_right : (x : Bool) → x && false ≡ false
and_false_right true = refl
and_false_right false = refl

pub all_map : {A : Type 0} (P Q : A → Type 0) → ((x : A) → P x → Q x) → (xs : List A) → All P xs → All Q xs
all_map P Q f [] a = tt
all_map P Q f (x ∷ xs) (p, a) = (f x p, all_map P Q f xs a)

pub all_of : {A : Type 0} (P : A → Type 0) (xs : List A) (d : A) → ((k : ℕ) → k < length xs → P (get_or xs k d)) → All P xs
all_of P [] d h = tt
all_of P (x ∷ xs) d h = (h 0 (omega arith), all_of P xs d (λ k l. h (suc k) (omega arith)))

pub all_with : {A : Type 0} (P Q R : A → Type 0) → ((x : A) → P x → Q x → R x) → (xs : List A) → All P xs → All Q xs → All R xs
all_with P Q R f [] a b = tt
all_with P Q R f (x ∷ xs) (p, a) (q, b) = (f x p q, all_with P Q R f xs a b)

pub all_at : {A : Type 0} (P : A → Type 0) (xs : List A) (d : A) → All P xs → (k : ℕ) → k < length xs → P (get_or xs k d)
all_at P [] d h k l = absurd (omega arith)
all_at P (x ∷ xs) d (p, h) zero l = p
all_at P (x ∷ xs) d (p, h) (suc k) l = all_at P xs d h k (omega arith)

pub all_append : {A : Type 0} (P : A → Type 0) (xs ys : List A) → All P xs → All P ys → All P (xs ++ ys)
all_append P [] ys h g = g
all_append P (x ∷ xs) ys (p, h) g = (p, all_append P xs ys h g)

pub all_left : {A : Type 0} (P : A → Type 0) (xs ys : List A) → All P (xs ++ ys) → All P xs
all_left P [] ys h = tt
all_left P (x ∷ xs) ys (p, h) = (p, all_left P xs ys h)

pub all_right : {A : Type 0} (P : A → Type 0) (xs ys : List A) → All P (xs ++ ys) → All P ys
all_right P [] ys h = h
all_right P (x ∷ xs) ys h = all_right P xs ys h.1

pub all_middle : {A : Type 0} (P : A → Type 0) (xs : List A) (x : A) (ys : List A) → All P (xs ++ x ∷ ys) → P x
all_middle P xs x ys h = (all_right P xs (x ∷ ys) h).0

-- ---- some element passes a test

pub any_each : {A : Type 0} (f : A → Bool) (xs : List A) → All (λ (x : A). f x ≡ true → any f xs ≡ true) xs
any_each f [] = tt
any_each {A} f (x ∷ xs) = (
  λ e. rw e,
  all_map (λ (y : A). f y ≡ true → any f xs ≡ true) (λ (y : A). f y ≡ true → f x || any f xs ≡ true)
      (λ y h e. rw (h e, or_true)) xs (any_each f xs),
)

pub any_some : {A C : Type 0} (f : A → Bool) (xs : List A) → All (λ (x : A). f x ≡ true → C) xs → any f xs ≡ true → C
any_some f [] h e = clash e refl
any_some {A} {C} f (x ∷ xs) (k, h) e = go (f x) refl (any_some f xs h) e
  where
    go : (c : Bool) → f x ≡ c → (any f xs ≡ true → C) → c || any f xs ≡ true → C
    go true q ih z = k q
    go false q ih z = ih z

pub any-map : {A : Type 0} (f g : A → Bool) → ((x : A) → f x ≡ true → g x ≡ true) → (xs : List A) → any f xs ≡ true → any g xs ≡ true
any-map {A} f g h xs =
    any_some f xs
    (all_map (λ (x : A). g x ≡ true → any g xs ≡ true) (λ (x : A). f x ≡ true → any g xs ≡ true) (λ x k e. k (h x e)) xs (any_each g xs))

pub all_among : (xs : List ℕ) → All (λ (x : ℕ). among x xs ≡ true) xs
all_among [] = tt
all_among (x ∷ xs) = (
  rw (eq-eqb x x refl),
  all_map (λ (y : ℕ). among y xs ≡ true) (λ (y : ℕ). among y (x ∷ xs) ≡ true) (λ y e. rw (e, or_true)) xs (all_among xs),
)

pub among-all : (P : ℕ → Type 0) (y : ℕ) (xs : List ℕ) → All P xs → among y xs ≡ true → P y
among-all P y xs a =
    any_some (eqb y) xs (all_map P (λ (x : ℕ). eqb y x ≡ true → P y) (λ x p e. subst P (sym (eqb-true y x e)) p) xs a)
