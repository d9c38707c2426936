-- Lists of states and of transitions: which leave a state, which are noted, and which stand in a queue. Assumes nothing.
use mathlib.Core.Path.{◌≡◌, refl, sym}
use mathlib.Core.Bool.{Bool, true, false}
use mathlib.Core.List.{List, [], ◌∷◌}
use Prim.Native.Nat.{ℕ, zero, suc, ◌-◌, ◌<◌}
use native.Mathlib.Omega.{arith}
use lib.Dec.{eqb}
use lib.ListN.{get_or}
use borrow.Author.Tests.{eqb-true, eqb-false, eq-eqb}
use Rattle.automaton.specs.Choice.{if, All, any, among}
use Rattle.automaton.specs.Rule.{Transition}
use Rattle.automaton.specs.Layers.{state_of, leaving}
use Rattle.automaton.proofs.Tests.{clash, or_true, all_map, all_with}
use Rattle.used_bytes.specs.Layers.{queued, noted, noted_all}

-- ---- tests

pub either_way : (x y : Bool) → (x ≡ true → y ≡ true) → (y ≡ true → x ≡ true) → x ≡ y
either_way true y f g = sym (f refl)
either_way false true f g = g refl
either_way false false f g = refl

-- a test that t passes is passed by one of them
abbrev pub Passed : List Transition → Transition → Type 0
Passed ts t = (f : Transition → Bool) → f t ≡ true → any f ts ≡ true

pub passed_each : (ts : List Transition) → All (Passed ts) ts
passed_each [] = tt
passed_each (t ∷ ts) = (λ f e. rw e, all_map (Passed ts) (Passed (t ∷ ts)) (λ v p f e. rw (p f e, or_true)) ts (passed_each ts))

-- ---- the transitions that leave a state

pub leaving-from : (s : ℕ) (us : List Transition) → All (λ (u : Transition). u.from ≡ s) (leaving s us)
unfolding leaving
leaving-from s [] = tt
leaving-from s (u ∷ us) = go (eqb u.from s) refl (leaving-from s us)
  where
    go : (c : Bool) → eqb u.from s ≡ c → All (λ (u : Transition). u.from ≡ s) (leaving s us)
        → All (λ (u : Transition). u.from ≡ s) (if c (u ∷ leaving s us) (leaving s us))
    go true q a = (eqb-true u.from s q, a)
    go false q a = a

pub leaving-all : (P : Transition → Type 0) (s : ℕ) (us : List Transition) → All P us → All P (leaving s us)
unfolding leaving
leaving-all P s [] a = tt
leaving-all P s (u ∷ us) (p, a) = go (eqb u.from s) (leaving-all P s us a)
  where
    go : (c : Bool) → All P (leaving s us) → All P (if c (u ∷ leaving s us) (leaving s us))
    go true b = (p, b)
    go false b = b

-- each is one of all and leaves it
pub leaving_of : (P : Transition → Type 0) (s : ℕ) (ts : List Transition) → All P ts
    → All (λ (t : Transition). P t × (t.from ≡ s)) (leaving s ts)
leaving_of P s ts a =
    all_with P (λ (t : Transition). t.from ≡ s) (λ (t : Transition). P t × (t.from ≡ s)) (λ t p q. (p, q)) (leaving s ts)
    (leaving-all P s ts a) (leaving-from s ts)

-- what holds of those of each state of a list holds of all that leave one of them
pub leaving_each : (P : Transition → Type 0) (fs : List ℕ) (ts : List Transition)
    → ((x : ℕ) → among x fs ≡ true → All P (leaving x ts)) → All (λ (t : Transition). among t.from fs ≡ true → P t) ts
unfolding leaving
leaving_each P fs [] h = tt
leaving_each P fs (t ∷ ts) h = (
  λ e. first t.from e (eqb t.from t.from) (eq-eqb t.from t.from refl) (h t.from e),
  leaving_each P fs ts (λ x e. rest x (eqb t.from x) (h x e)),
)
  where
    first : (x : ℕ) → among x fs ≡ true → (c : Bool) → c ≡ true → All P (if c (t ∷ leaving x ts) (leaving x ts)) → P t
    first x e true z a = a.0
    first x e false z a = clash z refl

    rest : (x : ℕ) (c : Bool) → All P (if c (t ∷ leaving x ts) (leaving x ts)) → All P (leaving x ts)
    rest x true a = a.1
    rest x false a = a

-- ---- noted states

pub noted_kept : (fs : List ℕ) (s x : ℕ) → among x fs ≡ true → among x (noted fs s) ≡ true
noted_kept fs s x e = go (among s fs)
  where
    go : (c : Bool) → among x (if c fs (s ∷ fs)) ≡ true
    go true = e
    go false = rw (e, or_true)

pub noted_here : (fs : List ℕ) (s : ℕ) → among s (noted fs s) ≡ true
noted_here fs s = go (among s fs) refl
  where
    go : (c : Bool) → among s fs ≡ c → among s (if c fs (s ∷ fs)) ≡ true
    go true e = e
    go false e = rw (eq-eqb s s refl)

pub all-noted_kept : (fs : List ℕ) (ts : List Transition) (x : ℕ) → among x fs ≡ true → among x (noted_all fs ts) ≡ true
all-noted_kept fs [] x e = e
all-noted_kept fs (t ∷ ts) x e = all-noted_kept (noted fs t.to) ts x (noted_kept fs t.to x e)

pub all_noted : (fs : List ℕ) (ts : List Transition) → All (λ (t : Transition). among t.to (noted_all fs ts) ≡ true) ts
all_noted fs [] = tt
all_noted fs (t ∷ ts) = (all-noted_kept (noted fs t.to) ts t.to (noted_here fs t.to), all_noted (noted fs t.to) ts)

pub noted-all : (P : ℕ → Type 0) (fs : List ℕ) (s : ℕ) → All P fs → P s → All P (noted fs s)
noted-all P fs s a p = go (among s fs)
  where
    go : (c : Bool) → All P (if c fs (s ∷ fs))
    go true = a
    go false = (p, a)

pub all-noted-all : (P : ℕ → Type 0) (fs : List ℕ) (ts : List Transition) → All P fs → All (λ (t : Transition). P t.to) ts
    → All P (noted_all fs ts)
all-noted-all P fs [] a b = a
all-noted-all P fs (t ∷ ts) a (p, b) = all-noted-all P (noted fs t.to) ts (noted-all P fs t.to a p) b

-- ---- states of a queue

pub queued_at : (P : ℕ → Type 0) (queue : List ℕ) (n : ℕ) (base : List ℕ) → All P (queued queue n base)
    → (k : ℕ) → k < n → P (state_of (get_or queue k 0))
unfolding queued
queued_at P queue zero base a k l = absurd (omega arith)
queued_at P queue (suc n) base (p, a) k l = go (eqb k n) refl (queued_at P queue n base a k)
  where
    go : (c : Bool) → eqb k n ≡ c → (k < n → P (state_of (get_or queue k 0))) → P (state_of (get_or queue k 0))
    go true e ih = let y : k ≡ n = eqb-true k n e in rw y p
    go false e ih = let y = eqb-false k n e in ih (omega arith)

pub queued-last : (queue : List ℕ) (n : ℕ) (base : List ℕ) → 0 < n
    → queued queue n base ≡ state_of (get_or queue (n - 1) 0) ∷ queued queue (n - 1) base
unfolding queued
queued-last queue zero base l = absurd (omega arith)
queued-last queue (suc n) base l = let q : suc n - 1 ≡ n = omega arith in rw q

pub queued-all : (P : ℕ → Type 0) (queue : List ℕ) (n : ℕ) (base : List ℕ) → All P base
    → ((k : ℕ) → k < n → P (state_of (get_or queue k 0))) → All P (queued queue n base)
unfolding queued
queued-all P queue zero base a h = a
queued-all P queue (suc n) base a h = (h n (omega arith), queued-all P queue n base a (λ k l. h k (omega arith)))
