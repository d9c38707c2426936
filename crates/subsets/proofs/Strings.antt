-- Laws of strings: their order, the sets that they lead to, and the strings of the states by the steps that met them. Assumes nothing.
use mathlib.Core.Path.{◌≡◌, refl, sym, ap, subst, ◌∙◌}
use mathlib.Core.List.{List, [], ◌∷◌, ◌++◌}
use Prim.Native.Nat.{ℕ, zero, suc, ◌+◌, ◌-◌, ◌^◌, ◌/◌, ◌%◌, ◌≤◌, ◌<◌}
use native.Mathlib.Nat.{lt_trans, zero-div}
use native.Mathlib.Numerals.{unary_clauses}
use native.Mathlib.Omega.{arith}
use lib.Bits.{bit_and}
use lib.ListN.{length, get_or, length-append, get_or-append}
use lib.Seq.{get_or_at}
use Rattle.subsets.specs.States.{after, after_below}
use Rattle.subsets.specs.Numbering.{set_from, Lower, here, there, Before, shorter, lower}

-- ---- order

lower_trans : {u v w : List ℕ} → Lower u v → Lower v w → Lower u w
lower_trans (here l) (here m) = here (lt_trans l m)
lower_trans (here l) (there m) = here l
lower_trans (there l) (here m) = here m
lower_trans (there l) (there m) = there (lower_trans l m)

lower_other : {v w : List ℕ} → Lower v w → v ≡ w → ⊥
lower_other (here {b} {c} l) e =
    let q : b ≡ c = cc in
    omega arith
lower_other (there {b} {v} {w} l) e = lower_other l cc

lower_self : {w : List ℕ} → Lower w w → ⊥
lower_self l = lower_other l refl

lower_more : {v w : List ℕ} (b c : ℕ) → Lower v w → Lower (v ++ (b ∷ [])) (w ++ (c ∷ []))
lower_more b c (here l) = here l
lower_more b c (there l) = there (lower_more b c l)

lower_byte : (w : List ℕ) {b c : ℕ} → b < c → Lower (w ++ (b ∷ [])) (w ++ (c ∷ []))
lower_byte [] l = here l
lower_byte (x ∷ w) l = there (lower_byte w l)

pub before_trans : {u v w : List ℕ} → Before u v → Before v w → Before u w
before_trans (shorter l) (shorter m) = shorter (omega arith)
before_trans (shorter l) (lower e m) = shorter (omega arith)
before_trans (lower e l) (shorter m) = shorter (omega arith)
before_trans (lower e l) (lower q m) = lower (e ∙ q) (lower_trans l m)

pub before_self : {w : List ℕ} → Before w w → ⊥
before_self (shorter l) = omega arith
before_self (lower e l) = lower_self l

pub before_more : {v w : List ℕ} (b c : ℕ) → Before v w → Before (v ++ (b ∷ [])) (w ++ (c ∷ []))
before_more {v} {w} b c (shorter l) = shorter (omega (arith, length-append v (b ∷ []), length-append w (c ∷ [])))
before_more {v} {w} b c (lower e l) =
    lower (omega (arith, length-append v (b ∷ []), length-append w (c ∷ []))) (lower_more b c l)

pub before_byte : (w : List ℕ) {b c : ℕ} → b < c → Before (w ++ (b ∷ [])) (w ++ (c ∷ []))
before_byte w {b} {c} l = lower (omega (arith, length-append w (b ∷ []), length-append w (c ∷ []))) (lower_byte w l)

pub before_some : (w : List ℕ) (b : ℕ) → Before [] (w ++ (b ∷ []))
before_some w b = shorter (omega (arith, length-append w (b ∷ [])))

-- not after
pub data UpTo (v w : List ℕ) : Type 0 where
  same : v ≡ w → UpTo v w
  earlier : Before v w → UpTo v w

pub upto_before : {u v w : List ℕ} → UpTo u v → Before v w → Before u w
upto_before {w = w} (same e) b = subst (λ (x : List ℕ). Before x w) (sym e) b
upto_before (earlier a) b = before_trans a b

pub upto_trans : {u v w : List ℕ} → UpTo u v → UpTo v w → UpTo u w
upto_trans (same e) (same q) = same (e ∙ q)
upto_trans (same e) (earlier b) = earlier (upto_before (same e) b)
upto_trans {u} (earlier a) (same q) = earlier (subst (Before u) q a)
upto_trans (earlier a) (earlier b) = earlier (before_trans a b)

pub upto_more : {v w : List ℕ} (b : ℕ) → UpTo v w → UpTo (v ++ (b ∷ [])) (w ++ (b ∷ []))
upto_more b (same e) = same (ap (λ (x : List ℕ). x ++ (b ∷ [])) e)
upto_more b (earlier a) = earlier (before_more b b a)

-- ---- the sets that strings lead to

-- what can match the byte after the string
unfoldable pub ahead_from : ℕ → List ℕ → List ℕ → List ℕ → ℕ
ahead_from ahead follow takers [] = ahead
ahead_from ahead follow takers (b ∷ w) = ahead_from (after follow (bit_and ahead (get_or takers b 0))) follow takers w

pub set_more : (ahead : ℕ) (follow takers w : List ℕ) (b : ℕ)
    → set_from ahead follow takers (w ++ (b ∷ [])) ≡ bit_and (ahead_from ahead follow takers w) (get_or takers b 0)
unfolding set_from ahead_from
set_more ahead follow takers [] b = refl
set_more ahead follow takers (c ∷ []) b = refl
set_more ahead follow takers (c ∷ d ∷ w) b = set_more (after follow (bit_and ahead (get_or takers c 0))) follow takers (d ∷ w) b

pub ahead_more : (ahead : ℕ) (follow takers w : List ℕ) (b : ℕ)
    → ahead_from ahead follow takers (w ++ (b ∷ [])) ≡ after follow (set_from ahead follow takers (w ++ (b ∷ [])))
unfolding ahead_from set_from
ahead_more ahead follow takers [] b = refl
ahead_more ahead follow takers (c ∷ []) b = refl
ahead_more ahead follow takers (c ∷ d ∷ w) b = ahead_more (after follow (bit_and ahead (get_or takers c 0))) follow takers (d ∷ w) b

-- nothing can follow the empty set
below_none : (p : ℕ) (follow : List ℕ) → after_below p follow 0 ≡ 0
unfolding after_below
below_none zero follow = refl
below_none (suc p) follow = rw (below_none p follow, zero-div (2 ^ p))

pub after_none : (follow : List ℕ) → after follow 0 ≡ 0
after_none follow = below_none 64 follow

-- ---- strings by steps

-- the strings of states 0 to n, where state i + 1 was met by a step that is 256 times a state plus a byte
unfoldable pub names : (ℕ → ℕ) → ℕ → List (List ℕ)
names step zero = [] ∷ []
names step (suc n) = names step n ++ ((get_or (names step n) (step n / 256) [] ++ (step n % 256 ∷ [])) ∷ [])

unfoldable pub name : (ℕ → ℕ) → ℕ → List ℕ
name step p = get_or (names step p) p []

module _ (step : ℕ → ℕ) where
  names-length : (n : ℕ) → length (names step n) ≡ suc n
  unfolding names
  names-length zero = refl
  names-length (suc n) =
      omega (arith, names-length n, length-append (names step n) ((get_or (names step n) (step n / 256) [] ++ (step n % 256 ∷ [])) ∷ []))

  names_stay : (j p : ℕ) → get_or (names step (p + j)) p [] ≡ name step p
  unfolding names name
  names_stay zero p = simp unary_clauses
  names_stay (suc j) p =
      simp unary_clauses
      (get_or-append (names step (p + j)) _ [] p (omega (arith, names-length (p + j))) ∙ names_stay j p)

  pub name-start : name step 0 ≡ []
  unfolding name names
  name-start = refl

  pub name_next : (n : ℕ) → step n / 256 ≤ n → name step (suc n) ≡ name step (step n / 256) ++ (step n % 256 ∷ [])
  unfolding name names
  name_next n l =
      let e : n ≡ step n / 256 + (n - step n / 256) = omega arith in
      get_or_at (names step n) _ [] [] (suc n) (names-length n)
      ∙ ap (λ (w : List ℕ). w ++ (step n % 256 ∷ []))
      (ap (λ (m : ℕ). get_or (names step m) (step n / 256) []) e ∙ names_stay (n - step n / 256) (step n / 256))
