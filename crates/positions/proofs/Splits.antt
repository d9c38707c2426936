-- A string cut in two, and what a match of each kind of expression is made of. Assumes nothing.
use mathlib.Core.Path.{◌≡◌, refl, sym, ap, subst}
use mathlib.Core.Bool.{Bool, true, false, ◌||◌}
use mathlib.Core.Logic.{◌⊎◌, inl, inr}
use mathlib.Core.List.{List, [], ◌∷◌, ◌++◌}
use Prim.Native.Nat.{ℕ}
use native.Mathlib.Omega.{arith}
use Rattle.automaton.proofs.Tests.{clash, or_true, and_true}
use Rattle.expression.specs.Expression.{Position, Expression, position, group, union, concat, star, plus, optional, takes}
use Rattle.expression.specs.Expression.{Matches, char, inside, union_left, union_right, joined, star_empty, star_more, plus_more}
use Rattle.expression.specs.Expression.{optional_empty, optional_one}
use Rattle.positions.specs.Positions.{nullable}

pub or_cases : (x y : Bool) → x || y ≡ true → (x ≡ true) ⊎ (y ≡ true)
or_cases true y e = inl refl
or_cases false y e = inr e

pub nil_cons : {A : Type 0} {b : ℕ} {v : List ℕ} → ◌≡◌ {A = List ℕ} [] (b ∷ v) → A
nil_cons e = let z : ◌≡◌ {A = ℕ} 0 1 = cc in absurd (omega arith)

-- ---- a string cut in two

pub record Split (A B : List ℕ → Type 0) (w : List ℕ) : Type 0 where
  pub front : List ℕ
  pub back : List ℕ
  pub joins : front ++ back ≡ w
  pub before : A front
  pub after : B back

pub split_map : {A C B : List ℕ → Type 0} {w : List ℕ} → ((x : List ℕ) → A x → C x) → Split A B w → Split C B w
split_map h s = record { front = s.front; back = s.back; joins = s.joins; before = h s.front s.before; after = s.after }

pub split_none : {A B : List ℕ → Type 0} → Split A B [] → A [] × B []
split_none {A} {B} s = go s.front s.back s.joins s.before s.after
  where
    go : (x y : List ℕ) → x ++ y ≡ [] → A x → B y → A [] × B []
    go [] y e a b = (a, subst B e b)
    go (c ∷ x) y e a b = nil_cons (sym e)

pub none_split : {A B : List ℕ → Type 0} {w : List ℕ} → A [] → B w → Split A B w
none_split {w = w} a b = record { front = []; back = w; joins = refl; before = a; after = b }

pub split_first : {A B : List ℕ → Type 0} {b : ℕ} {v : List ℕ} → Split A B (b ∷ v)
    → (A [] × B (b ∷ v)) ⊎ Split (λ (x : List ℕ). A (b ∷ x)) B v
split_first {A} {B} {b} {v} s = go s.front s.back s.joins s.before s.after
  where
    go : (x y : List ℕ) → x ++ y ≡ b ∷ v → A x → B y → (A [] × B (b ∷ v)) ⊎ Split (λ (x : List ℕ). A (b ∷ x)) B v
    go [] y e a d = inl (a, subst B e d)
    go (c ∷ x) y e a d =
        let h : c ≡ b = cc in
        inr (record { front = x; back = y; joins = cc; before = subst (λ (k : ℕ). A (k ∷ x)) h a; after = d })

pub first_split : {A B : List ℕ → Type 0} {b : ℕ} {v : List ℕ} → Split (λ (x : List ℕ). A (b ∷ x)) B v → Split A B (b ∷ v)
first_split {b = b} s =
    record { front = b ∷ s.front; back = s.back; joins = ap (λ (x : List ℕ). b ∷ x) s.joins; before = s.before; after = s.after }

-- ---- matches taken apart, and put together

pub of_char : {c : Position} {b : ℕ} {v : List ℕ} → Matches (position c) (b ∷ v) → (takes c b ≡ true) × (v ≡ [])
of_char (char t) = (t, refl)

pub of_group : {e : Expression} {w : List ℕ} → Matches (group e) w → Matches e w
of_group (inside m) = m

pub of_union : {e f : Expression} {w : List ℕ} → Matches (union e f) w → Matches e w ⊎ Matches f w
of_union (union_left m) = inl m
of_union (union_right m) = inr m

pub of_optional : {e : Expression} {w : List ℕ} → Matches (optional e) w → (w ≡ []) ⊎ Matches e w
of_optional optional_empty = inl refl
of_optional (optional_one m) = inr m

pub of_concat : {e f : Expression} {w : List ℕ} → Matches (concat e f) w → Split (Matches e) (Matches f) w
of_concat (joined {v = x} {w = y} m n) = record { front = x; back = y; joins = refl; before = m; after = n }

pub to_concat : {e f : Expression} {w : List ℕ} → Split (Matches e) (Matches f) w → Matches (concat e f) w
to_concat {e} {f} s = subst (Matches (concat e f)) s.joins (joined s.before s.after)

pub to_star : {e : Expression} {w : List ℕ} → Split (Matches e) (Matches (star e)) w → Matches (star e) w
to_star {e} s = subst (Matches (star e)) s.joins (star_more s.before s.after)

pub of_plus : {e : Expression} {w : List ℕ} → Matches (plus e) w → Split (Matches e) (Matches (star e)) w
of_plus (plus_more {v = x} {w = y} m n) = record { front = x; back = y; joins = refl; before = m; after = n }

pub to_plus : {e : Expression} {w : List ℕ} → Split (Matches e) (Matches (star e)) w → Matches (plus e) w
to_plus {e} s = subst (Matches (plus e)) s.joins (plus_more s.before s.after)

-- the first part of a star that is not empty
abbrev pub After : Expression → ℕ → List ℕ → Type 0
After e b v = Split (λ (x : List ℕ). Matches e (b ∷ x)) (Matches (star e)) v

front_of : {e : Expression} (x y : List ℕ) (b : ℕ) (v : List ℕ) → x ++ y ≡ b ∷ v → Matches e x → Matches (star e) y
    → (y ≡ b ∷ v → After e b v) → After e b v
front_of [] y b v h m n ih = ih h
front_of {e} (c ∷ x) y b v h m n ih =
    let k : c ≡ b = cc in
    record { front = x; back = y; joins = cc; before = subst (λ (d : ℕ). Matches e (d ∷ x)) k m; after = n }

pub star_front : {e : Expression} {w : List ℕ} → Matches (star e) w → (b : ℕ) (v : List ℕ) → w ≡ b ∷ v → After e b v
star_front star_empty b v h = nil_cons h
star_front (star_more {v = x} {w = y} m n) b v h = front_of x y b v h m n (λ k. star_front n b v k)

-- ---- the empty string

pub empty_nullable : (e : Expression) → Matches e [] → nullable e ≡ true
unfolding nullable
empty_nullable (position c) m = none_char m refl
  where
    none_char : {w : List ℕ} → Matches (position c) w → w ≡ [] → false ≡ true
    none_char (char t) h = nil_cons (sym h)
empty_nullable (group e) m = empty_nullable e (of_group m)
empty_nullable (union e f) m =
    elim (of_union m) [ inl x ↦ rw (empty_nullable e x) | inr y ↦ rw (empty_nullable f y) (or_true (nullable e)) ]
empty_nullable (concat e f) m = let s = split_none (of_concat m) in rw (empty_nullable e s.0, empty_nullable f s.1)
empty_nullable (star e) m = refl
empty_nullable (plus e) m = empty_nullable e (split_none (of_plus m)).0
empty_nullable (optional e) m = refl

pub nullable_empty : (e : Expression) → nullable e ≡ true → Matches e []
unfolding nullable
nullable_empty (position c) h = clash h refl
nullable_empty (group e) h = inside (nullable_empty e h)
nullable_empty (union e f) h =
    elim (or_cases (nullable e) (nullable f) h) [ inl x ↦ union_left (nullable_empty e x) | inr y ↦ union_right (nullable_empty f y) ]
nullable_empty (concat e f) h = let k = and_true (nullable e) (nullable f) h in joined (nullable_empty e k.0) (nullable_empty f k.1)
nullable_empty (star e) h = star_empty
nullable_empty (plus e) h = plus_more (nullable_empty e h) star_empty
nullable_empty (optional e) h = optional_empty
