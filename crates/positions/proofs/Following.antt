-- Which positions take a match's first byte, and which the first byte of what follows a position. Assumes nothing.
use mathlib.Core.Path.{refl, sym, subst}
use mathlib.Core.Bool.{Bool, true, false, ◌&&◌, ◌||◌}
use mathlib.Core.Logic.{◌⊎◌, inl, inr}
use mathlib.Core.List.{List, ◌∷◌}
use Prim.Native.Nat.{ℕ, ◌-◌}
use lib.Dec.{eqb, ltb}
use Rattle.automaton.proofs.Tests.{clash, and_true}
use Rattle.expression.specs.Expression.{Expression, position, group, union, concat, star, plus, optional, takes}
use Rattle.expression.specs.Expression.{Matches, char, inside, union_left, union_right, optional_one}
use Rattle.positions.specs.Positions.{size, nullable, of_part, takes_at, first, last, follows}
use Rattle.positions.proofs.Bounds.{from_part, takes_below}
use Rattle.positions.proofs.Splits.{Split, After, split_map, none_split, split_first, first_split, nil_cons}
use Rattle.positions.proofs.Splits.{of_char, of_group, of_union, of_optional, of_concat, to_concat, to_star, of_plus, to_plus}
use Rattle.positions.proofs.Splits.{star_front, empty_nullable, nullable_empty}
use Rattle.positions.proofs.Rests.{Either, Rest, rest-last, last_rest}
use Rattle.positions.proofs.Steps.{Step, step-or, or_step, step_and, and_step, step_parts, parts_step, split_step, step_split}

-- a position of the set takes the byte, and the string can follow it
abbrev pub Goes : Expression → (ℕ → Bool) → ℕ → List ℕ → Type 0
Goes e set b v = Step set (takes_at e b) (λ (q : ℕ). Rest e q v)

-- ---- by the kind of an expression

module _ (e f : Expression) (S T : ℕ → Bool) (b : ℕ) (v : List ℕ) where
  go_union : Goes e S b v ⊎ Goes f T b v → Goes (union e f) (of_part (size e) S T) b v
  unfolding takes_at Rest
  go_union g = step_parts (size e) S T (takes_at e b) (takes_at f b) (λ q. Rest e q v) (λ q. Rest f q v) (takes_below b e) g

  union_go : Goes (union e f) (of_part (size e) S T) b v → Goes e S b v ⊎ Goes f T b v
  unfolding takes_at Rest
  union_go g = parts_step (size e) S T (takes_at e b) (takes_at f b) (λ q. Rest e q v) (λ q. Rest f q v) g

  abbrev Both : Type 0
  Both = Split (λ (x : List ℕ). Goes e S b x) (Matches f) v ⊎ Goes f T b v

  go_concat : Both → Goes (concat e f) (of_part (size e) S T) b v
  unfolding takes_at Rest
  go_concat g = step_parts (size e) S T (takes_at e b) (takes_at f b) (λ q. Split (Rest e q) (Matches f) v) (λ q. Rest f q v)
      (takes_below b e) (inside_split g)
    where
      inside_split : Both → Step S (takes_at e b) (λ q. Split (Rest e q) (Matches f) v) ⊎ Goes f T b v
      inside_split (inl s) = inl (split_step S (takes_at e b) (Rest e) (Matches f) v s)
      inside_split (inr g) = inr g

  concat_go : Goes (concat e f) (of_part (size e) S T) b v → Both
  unfolding takes_at Rest
  concat_go g = elim (parts_step (size e) S T (takes_at e b) (takes_at f b) (λ q. Split (Rest e q) (Matches f) v) (λ q. Rest f q v) g) [
    | inl s ↦ inl (step_split S (takes_at e b) (Rest e) (Matches f) v s)
    | inr h ↦ inr h
  ]

-- ---- the first byte of a match

plus_front : {e : Expression} {b : ℕ} {v : List ℕ} → Matches (plus e) (b ∷ v) → After e b v
plus_front {b = b} {v = v} m = elim (split_first (of_plus m)) [ inl h ↦ star_front h.1 b v refl | inr s ↦ s ]

optional_more : {e : Expression} {b : ℕ} {v : List ℕ} → Matches (optional e) (b ∷ v) → Matches e (b ∷ v)
optional_more m = elim (of_optional m) [ inl h ↦ nil_cons (sym h) | inr n ↦ n ]

pub match_first : (e : Expression) (b : ℕ) (v : List ℕ) → Matches e (b ∷ v) → Goes e (first e) b v
unfolding first takes_at Rest
match_first (position c) b v m = let h = of_char m in record { next = 0; fits = refl; takes = h.0; after = (refl, h.1) }
match_first (group e) b v m = match_first e b v (of_group m)
match_first (union e f) b v m =
    go_union e f (first e) (first f) b v (elim (of_union m) [ inl x ↦ inl (match_first e b v x) | inr y ↦ inr (match_first f b v y) ])
match_first (concat e f) b v m =
    go_concat e f (first e) (λ q. nullable e && first f q) b v (elim (split_first (of_concat m)) [
      | inl h ↦ inr (step_and (empty_nullable e h.0) (match_first f b v h.1))
      | inr s ↦ inl (split_map (λ x k. match_first e b x k) s)
    ])
match_first (star e) b v m =
    split_step (first e) (takes_at e b) (Rest e) (Matches (star e)) v (split_map (λ x k. match_first e b x k) (star_front m b v refl))
match_first (plus e) b v m =
    split_step (first e) (takes_at e b) (Rest e) (Matches (star e)) v (split_map (λ x k. match_first e b x k) (plus_front m))
match_first (optional e) b v m = match_first e b v (optional_more m)

pub first_match_lem : (e : Expression) (b : ℕ) (v : List ℕ) → Goes e (first e) b v → Matches e (b ∷ v)
unfolding first takes_at Rest
first_match_lem (position c) b v g =
    subst (λ (x : List ℕ). Matches (position c) (b ∷ x)) (sym (g.after).1) (char (and_true (eqb g.next 0) (takes c b) g.takes).1)
first_match_lem (group e) b v g = inside (first_match_lem e b v g)
first_match_lem (union e f) b v g =
    elim (union_go e f (first e) (first f) b v g) [ inl x ↦ union_left (first_match_lem e b v x) | inr y ↦ union_right (first_match_lem f b v y) ]
first_match_lem (concat e f) b v g = elim (concat_go e f (first e) (λ q. nullable e && first f q) b v g) [
  | inl s ↦ to_concat (first_split (split_map (λ x k. first_match_lem e b x k) s))
  | inr h ↦ let k = and_step h in to_concat (none_split (nullable_empty e k.0) (first_match_lem f b v k.1))
]
first_match_lem (star e) b v g =
    to_star (first_split (split_map (λ x k. first_match_lem e b x k) (step_split (first e) (takes_at e b) (Rest e) (Matches (star e)) v g)))
first_match_lem (plus e) b v g =
    to_plus (first_split (split_map (λ x k. first_match_lem e b x k) (step_split (first e) (takes_at e b) (Rest e) (Matches (star e)) v g)))
first_match_lem (optional e) b v g = optional_one (first_match_lem e b v g)

-- ---- the first byte of what follows a position

no_step : {A : Type 0} {K : ℕ → Bool} {R : ℕ → Type 0} → Step (λ (q : ℕ). false) K R → A
no_step s = clash s.fits refl

module _ (e f : Expression) (p b : ℕ) (v : List ℕ) where
  abbrev UnionGoes : Bool → Type 0
  UnionGoes t = Goes (union e f) (from_part t (size e) (follows e p) (λ r. false) (follows f (p - size e))) b v

  abbrev UnionRest : Bool → Type 0
  UnionRest t = Either t (Rest e p (b ∷ v)) (Rest f (p - size e) (b ∷ v))

  rest_union : (Rest e p (b ∷ v) → Goes e (follows e p) b v) → (Rest f (p - size e) (b ∷ v) → Goes f (follows f (p - size e)) b v)
      → (t : Bool) → UnionRest t → UnionGoes t
  rest_union h k true r = go_union e f (follows e p) (λ r. false) b v (inl (h r))
  rest_union h k false r = go_union e f (λ r. false) (follows f (p - size e)) b v (inr (k r))

  union_rest : (Goes e (follows e p) b v → Rest e p (b ∷ v)) → (Goes f (follows f (p - size e)) b v → Rest f (p - size e) (b ∷ v))
      → (t : Bool) → UnionGoes t → UnionRest t
  union_rest h k true g = elim (union_go e f (follows e p) (λ r. false) b v g) [ inl x ↦ h x | inr y ↦ no_step y ]
  union_rest h k false g = elim (union_go e f (λ r. false) (follows f (p - size e)) b v g) [ inl x ↦ no_step x | inr y ↦ k y ]

  abbrev ConcatGoes : Bool → Type 0
  ConcatGoes t = Goes (concat e f) (from_part t (size e) (follows e p) (λ r. last e p && first f r) (follows f (p - size e))) b v

  abbrev ConcatRest : Bool → Type 0
  ConcatRest t = Either t (Split (Rest e p) (Matches f) (b ∷ v)) (Rest f (p - size e) (b ∷ v))

  rest_concat : ((x : List ℕ) → Rest e p (b ∷ x) → Goes e (follows e p) b x)
      → (Rest f (p - size e) (b ∷ v) → Goes f (follows f (p - size e)) b v)
      → (t : Bool) → ConcatRest t → ConcatGoes t
  rest_concat h k true r = go_concat e f (follows e p) (λ r. last e p && first f r) b v (elim (split_first r) [
    | inl m ↦ inr (step_and (rest-last e p m.0) (match_first f b v m.1))
    | inr s ↦ inl (split_map h s)
  ])
  rest_concat h k false r = go_concat e f (λ r. false) (follows f (p - size e)) b v (inr (k r))

  concat_rest : ((x : List ℕ) → Goes e (follows e p) b x → Rest e p (b ∷ x))
      → (Goes f (follows f (p - size e)) b v → Rest f (p - size e) (b ∷ v))
      → (t : Bool) → ConcatGoes t → ConcatRest t
  concat_rest h k true g = elim (concat_go e f (follows e p) (λ r. last e p && first f r) b v g) [
    | inl s ↦ first_split (split_map h s)
    | inr y ↦ let l = and_step y in none_split (last_rest e p l.0) (first_match_lem f b v l.1)
  ]
  concat_rest h k false g = elim (concat_go e f (λ r. false) (follows f (p - size e)) b v g) [ inl s ↦ no_step s.before | inr y ↦ k y ]

module _ (e : Expression) (p b : ℕ) (v : List ℕ) where
  abbrev Again : (ℕ → Bool) → Type 0
  Again S = Step S (takes_at e b) (λ (q : ℕ). Split (Rest e q) (Matches (star e)) v)

  rest_star : ((x : List ℕ) → Rest e p (b ∷ x) → Goes e (follows e p) b x) → Split (Rest e p) (Matches (star e)) (b ∷ v)
      → Again (λ q. follows e p q || last e p && first e q)
  unfolding first takes_at Rest
  rest_star h r = step-or {S = follows e p} {T = λ q. last e p && first e q} (elim (split_first r) [
    | inl m ↦ inr (step_and (rest-last e p m.0) (match_first (star e) b v m.1))
    | inr s ↦ inl (split_step (follows e p) (takes_at e b) (Rest e) (Matches (star e)) v (split_map h s))
  ])

  star_rest : ((x : List ℕ) → Goes e (follows e p) b x → Rest e p (b ∷ x)) → Again (λ q. follows e p q || last e p && first e q)
      → Split (Rest e p) (Matches (star e)) (b ∷ v)
  unfolding first takes_at Rest
  star_rest h g = elim (or_step {S = follows e p} {T = λ q. last e p && first e q} g) [
    | inl s ↦ first_split (split_map h (step_split (follows e p) (takes_at e b) (Rest e) (Matches (star e)) v s))
    | inr s ↦ let l = and_step s in none_split (last_rest e p l.0) (first_match_lem (star e) b v l.1)
  ]

pub rest-follows : (e : Expression) (p b : ℕ) (v : List ℕ) → Rest e p (b ∷ v) → Goes e (follows e p) b v
unfolding follows takes_at Rest
rest-follows (position c) p b v r = nil_cons (sym r.1)
rest-follows (group e) p b v r = rest-follows e p b v r
rest-follows (union e f) p b v r =
    rest_union e f p b v (λ k. rest-follows e p b v k) (λ k. rest-follows f (p - size e) b v k) (ltb p (size e)) r
rest-follows (concat e f) p b v r =
    rest_concat e f p b v (λ x k. rest-follows e p b x k) (λ k. rest-follows f (p - size e) b v k) (ltb p (size e)) r
rest-follows (star e) p b v r = rest_star e p b v (λ x k. rest-follows e p b x k) r
rest-follows (plus e) p b v r = rest_star e p b v (λ x k. rest-follows e p b x k) r
rest-follows (optional e) p b v r = rest-follows e p b v r

pub follows-rest : (e : Expression) (p b : ℕ) (v : List ℕ) → Goes e (follows e p) b v → Rest e p (b ∷ v)
unfolding follows takes_at Rest
follows-rest (position c) p b v g = no_step g
follows-rest (group e) p b v g = follows-rest e p b v g
follows-rest (union e f) p b v g =
    union_rest e f p b v (λ k. follows-rest e p b v k) (λ k. follows-rest f (p - size e) b v k) (ltb p (size e)) g
follows-rest (concat e f) p b v g =
    concat_rest e f p b v (λ x k. follows-rest e p b x k) (λ k. follows-rest f (p - size e) b v k) (ltb p (size e)) g
follows-rest (star e) p b v g = star_rest e p b v (λ x k. follows-rest e p b x k) g
follows-rest (plus e) p b v g = star_rest e p b v (λ x k. follows-rest e p b x k) g
follows-rest (optional e) p b v g = follows-rest e p b v g
