-- What can follow a position in a match: by its last positions, and by those that follow it. Assumes nothing.
use mathlib.Core.Path.{◌≡◌, refl}
use mathlib.Core.Bool.{Bool, true, false, ◌&&◌}
use mathlib.Core.List.{List, []}
use Prim.Native.Nat.{ℕ, ◌-◌}
use lib.Dec.{ltb}
use borrow.Author.Tests.{eqb-true, eq-eqb}
use Rattle.automaton.specs.Choice.{if}
use Rattle.automaton.proofs.Tests.{and_true}
use Rattle.expression.specs.Expression.{Expression, position, group, union, concat, star, plus, optional}
use Rattle.expression.specs.Expression.{Matches, star_empty}
use Rattle.positions.specs.Positions.{size, nullable, last}
use Rattle.positions.proofs.Splits.{Split, split_none, none_split}
use Rattle.positions.proofs.Splits.{empty_nullable, nullable_empty}

abbrev pub Either : Bool → Type 0 → Type 0 → Type 0
Either true A B = A
Either false A B = B

-- after a byte that position p has matched, the string ends a match
unfoldable pub Rest : Expression → ℕ → List ℕ → Type 0
Rest (position c) p v = (p ≡ 0) × (v ≡ [])
Rest (group e) p v = Rest e p v
Rest (union e f) p v = Either (ltb p (size e)) (Rest e p v) (Rest f (p - size e) v)
Rest (concat e f) p v = Either (ltb p (size e)) (Split (Rest e p) (Matches f) v) (Rest f (p - size e) v)
Rest (star e) p v = Split (Rest e p) (Matches (star e)) v
Rest (plus e) p v = Split (Rest e p) (Matches (star e)) v
Rest (optional e) p v = Rest e p v

-- ---- what can end

either_if : {A B : Type 0} {x y : Bool} → (A → x ≡ true) → (B → y ≡ true) → (t : Bool) → Either t A B → if t x y ≡ true
either_if h k true r = h r
either_if h k false r = k r

if_either : {A B : Type 0} {x y : Bool} → (x ≡ true → A) → (y ≡ true → B) → (t : Bool) → if t x y ≡ true → Either t A B
if_either h k true r = h r
if_either h k false r = k r

pub rest-last : (e : Expression) (p : ℕ) → Rest e p [] → last e p ≡ true
unfolding Rest last
rest-last (position c) p r = eq-eqb p 0 r.0
rest-last (group e) p r = rest-last e p r
rest-last (union e f) p r = either_if (λ x. rest-last e p x) (λ x. rest-last f (p - size e) x) (ltb p (size e)) r
rest-last (concat e f) p r = either_if (go (λ x. rest-last e p x)) (λ x. rest-last f (p - size e) x) (ltb p (size e)) r
  where
    go : (Rest e p [] → last e p ≡ true) → Split (Rest e p) (Matches f) [] → nullable f && last e p ≡ true
    go h r = let s = split_none r in rw (empty_nullable f s.1) (h s.0)
rest-last (star e) p r = rest-last e p (split_none r).0
rest-last (plus e) p r = rest-last e p (split_none r).0
rest-last (optional e) p r = rest-last e p r

pub last_rest : (e : Expression) (p : ℕ) → last e p ≡ true → Rest e p []
unfolding Rest last
last_rest (position c) p h = (eqb-true p 0 h, refl)
last_rest (group e) p h = last_rest e p h
last_rest (union e f) p h = if_either (λ x. last_rest e p x) (λ x. last_rest f (p - size e) x) (ltb p (size e)) h
last_rest (concat e f) p h = if_either (go (λ x. last_rest e p x)) (λ x. last_rest f (p - size e) x) (ltb p (size e)) h
  where
    go : (last e p ≡ true → Rest e p []) → nullable f && last e p ≡ true → Split (Rest e p) (Matches f) []
    go k h = let l = and_true (nullable f) (last e p) h in none_split (k l.1) (nullable_empty f l.0)
last_rest (star e) p h = none_split (last_rest e p h) star_empty
last_rest (plus e) p h = none_split (last_rest e p h) star_empty
last_rest (optional e) p h = last_rest e p h
