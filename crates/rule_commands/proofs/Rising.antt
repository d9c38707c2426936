-- Transitions that rise: ordered by state and then by byte, each above the one before it. No two overlap, so their order plays no part.
-- Assumes nothing.
use mathlib.Core.Path.{◌≡◌, refl, ◌∙◌}
use mathlib.Core.Bool.{Bool, true, false, ◌&&◌}
use mathlib.Core.List.{List, [], ◌∷◌, ◌++◌, reverse, reverse_aux}
use Prim.Native.Nat.{ℕ, ◌+◌, ◌*◌, ◌<◌, ◌≤◌}
use native.Mathlib.Omega.{arith}
use lib.Dec.{leb, eqb}
use borrow.Author.Tests.{lt-leb, eqb-true, leb-true}
use Rattle.automaton.specs.Choice.{if, All}
use Rattle.automaton.specs.Rule.{Transition, covers, target, meets, overlaps}
use Rattle.automaton.proofs.Tests.{and_true, and_false_right, all_map}
use Rattle.rule_commands.proofs.Reversed.{none_of}

-- byte b in state s, as one number
abbrev pub place : ℕ → ℕ → ℕ
place s b = s * 256 + b

-- behind the transition's last byte
abbrev pub past : Transition → ℕ
past t = place t.from t.high + 1

pub record Above (m : ℕ) (t : Transition) : Type 0 where
  pub above : m ≤ place t.from t.low
  pub ordered : t.low ≤ t.high
  pub byte : t.high < 256

-- from place m to before place e
abbrev pub Rising : ℕ → ℕ → List Transition → Type 0
Rising m e [] = m ≤ e
Rising m e (t ∷ ts) = Above m t × Rising (past t) e ts

pub rising_le : (m e : ℕ) (ts : List Transition) → Rising m e ts → m ≤ e
rising_le m e [] l = l
rising_le m e (t ∷ ts) (a, r) = omega (arith, rising_le (past t) e ts r)

pub rising_lower : (m k e : ℕ) (ts : List Transition) → k ≤ m → Rising m e ts → Rising k e ts
rising_lower m k e [] l r = omega arith
rising_lower m k e (t ∷ ts) l (a, r) = (record { above = omega arith; ordered = a.ordered; byte = a.byte }, r)

pub rising_append : (m k e : ℕ) (xs ys : List Transition) → Rising m k xs → Rising k e ys → Rising m e (xs ++ ys)
rising_append m k e [] ys l r = rising_lower k m e ys l r
rising_append m k e (x ∷ xs) ys (a, h) r = (a, rising_append (past x) k e xs ys h r)

-- ---- no two overlap

apart : (x y : Transition) → past y ≤ place x.from x.low → meets x y ≡ false
apart x y l = go (eqb y.from x.from) refl
  where
    go : (t : Bool) → eqb y.from x.from ≡ t → t && (leb x.low y.high && leb y.low x.high) ≡ false
    go true q = rw (lt-leb x.low y.high (omega (arith, eqb-true y.from x.from q)))
    go false q = refl

overlaps_aux : (m e : ℕ) (xs ys : List Transition) → Rising m e xs → All (λ (y : Transition). past y ≤ m) ys → overlaps ys ≡ false
    → overlaps (reverse_aux xs ys) ≡ false
unfolding overlaps
overlaps_aux m e [] ys r h o = o
overlaps_aux m e (x ∷ xs) ys (a, r) h o =
    overlaps_aux (past x) e xs (x ∷ ys) r
    (omega arith, all_map (λ (y : Transition). past y ≤ m) (λ (y : Transition). past y ≤ past x) (λ y l. omega (arith, a.ordered)) ys h)
    (rw (none_of (λ (y : Transition). past y ≤ m) (meets x) (λ y l. apart x y (omega (arith, a.above))) ys h) o)

pub rising_apart : (m e : ℕ) (ts : List Transition) → Rising m e ts → overlaps (reverse ts) ≡ false
unfolding overlaps
rising_apart m e ts r = overlaps_aux m e ts [] r tt refl

-- ---- where they lead

abbrev fits : Transition → ℕ → ℕ → Bool
fits t s b = eqb t.from s && covers t b

-- none stands at a place below or behind them all
pub target_below : (m e : ℕ) (ts : List Transition) (s b error : ℕ) → Rising m e ts → place s b < m → target ts s b error ≡ error
unfolding target
target_below m e [] s b error r l = refl
target_below m e (t ∷ ts) s b error (a, r) l =
    rw (misses (eqb t.from s) refl) (target_below (past t) e ts s b error r (omega arith))
  where
    misses : (c : Bool) → eqb t.from s ≡ c → c && covers t b ≡ false
    misses true q = rw (lt-leb t.low b (omega (arith, eqb-true t.from s q)))
    misses false q = refl

pub target_above : (m e : ℕ) (ts : List Transition) (s b error : ℕ) → Rising m e ts → e ≤ place s b → target ts s b error ≡ error
unfolding target
target_above m e [] s b error r l = refl
target_above m e (t ∷ ts) s b error (a, r) l =
    rw (misses (eqb t.from s) refl) (target_above (past t) e ts s b error r l)
  where
    misses : (c : Bool) → eqb t.from s ≡ c → c && covers t b ≡ false
    misses true q =
        rw (lt-leb b t.high (omega (arith, eqb-true t.from s q, rising_le (past t) e ts r)), and_false_right (leb t.low b))
    misses false q = refl

pub target-append : (xs ys : List Transition) (s b error : ℕ) → target (xs ++ ys) s b error ≡ target xs s b (target ys s b error)
unfolding target
target-append [] ys s b error = refl
target-append (x ∷ xs) ys s b error = rw (target-append xs ys s b error)

target_aux : (m e : ℕ) (xs ys : List Transition) (s b error : ℕ) → Rising m e xs
    → target (reverse_aux xs ys) s b error ≡ target xs s b (target ys s b error)
unfolding target
target_aux m e [] ys s b error r = refl
target_aux m e (x ∷ xs) ys s b error (a, r) = target_aux (past x) e xs (x ∷ ys) s b error r ∙ go (fits x s b) refl
  where
    go : (c : Bool) → fits x s b ≡ c
        → target xs s b (if c x.to (target ys s b error)) ≡ if c x.to (target xs s b (target ys s b error))
    go true q =
        let k = and_true (eqb x.from s) (covers x b) q in
        let i = and_true (leb x.low b) (leb b x.high) k.1 in
        target_below (past x) e xs s b x.to r (omega (arith, eqb-true x.from s k.0, leb-true b x.high i.1))
    go false q = refl

pub target-reverse : (m e : ℕ) (ts : List Transition) (s b error : ℕ) → Rising m e ts → target (reverse ts) s b error ≡ target ts s b error
unfolding target
target-reverse m e ts s b error r = target_aux m e ts [] s b error r
