-- Ways along transitions: they can be joined, and what every transition keeps is kept along them. Assumes nothing.
use mathlib.Core.Path.{◌≡◌, refl, subst}
use mathlib.Core.Bool.{Bool, true, false, ◌&&◌, ◌||◌}
use mathlib.Core.List.{List, [], ◌∷◌}
use Prim.Native.Nat.{ℕ}
use borrow.Author.Tests.{eqb-true, eq-eqb}
use Rattle.automaton.specs.Choice.{All}
use Rattle.automaton.specs.Rule.{Transition, leads}
use Rattle.automaton.proofs.Tests.{or_true, and_true, all_map}

-- a way with a transition more to choose from: without it, or by it
module _ (t : Transition) (ts : List Transition) where
  pub leads_without : (s x : ℕ) → leads ts s x ≡ true → leads (t ∷ ts) s x ≡ true
  unfolding leads
  leads_without s x e = rw e

  pub leads_by : (s x : ℕ) → leads ts s t.from ≡ true → leads ts t.to x ≡ true → leads (t ∷ ts) s x ≡ true
  unfolding leads
  leads_by s x e f = rw (e, f, or_true)

  pub leads_cases : {C : Type 0} (s x : ℕ) → leads (t ∷ ts) s x ≡ true → (leads ts s x ≡ true → C)
      → (leads ts s t.from ≡ true → leads ts t.to x ≡ true → C) → C
  unfolding leads
  leads_cases {C} s x e f g = go (leads ts s x) refl e
    where
      go : (c : Bool) → leads ts s x ≡ c → c || leads ts s t.from && leads ts t.to x ≡ true → C
      go true q z = f q
      go false q z = let a = and_true (leads ts s t.from) _ z in g a.0 a.1

pub leads_here : (ts : List Transition) (s : ℕ) → leads ts s s ≡ true
unfolding leads
leads_here [] s = eq-eqb s s refl
leads_here (t ∷ ts) s = rw (leads_here ts s)

pub leads_on : (ts : List Transition) (s m x : ℕ) → leads ts s m ≡ true → leads ts m x ≡ true → leads ts s x ≡ true
unfolding leads
leads_on [] s m x e f = let y : s ≡ m = eqb-true s m e in rw y f
leads_on (t ∷ ts) s m x e f =
    leads_cases t ts s m e
    (λ a. leads_cases t ts m x f (λ b. leads_without t ts s x (leads_on ts s m x a b))
    (λ b c. leads_by t ts s x (leads_on ts s m t.from a b) c))
    (λ a d. leads_cases t ts m x f (λ b. leads_by t ts s x a (leads_on ts t.to m x d b)) (λ b c. leads_by t ts s x a c))

-- each transition is a way
pub leads_each : (ts : List Transition) → All (λ (t : Transition). leads ts t.from t.to ≡ true) ts
leads_each [] = tt
leads_each (t ∷ ts) = (
  leads_by t ts t.from t.to (leads_here ts t.from) (leads_here ts t.to),
  all_map (λ (u : Transition). leads ts u.from u.to ≡ true) (λ (u : Transition). leads (t ∷ ts) u.from u.to ≡ true)
      (λ u e. leads_without t ts u.from u.to e) ts (leads_each ts),
)

-- what every transition keeps, a way keeps
pub leads_keeps : (P : ℕ → Type 0) (ts : List Transition) → All (λ (t : Transition). P t.from → P t.to) ts
    → (s x : ℕ) → leads ts s x ≡ true → P s → P x
unfolding leads
leads_keeps P [] a s x e p = subst P (eqb-true s x e) p
leads_keeps P (t ∷ ts) (k, a) s x e p =
    leads_cases t ts s x e (λ b. leads_keeps P ts a s x b p)
    (λ b c. leads_keeps P ts a t.to x c (k (leads_keeps P ts a s t.from b p)))

-- and so it goes back along a way, if every transition lets it
pub leads_back : (P : ℕ → Type 0) (ts : List Transition) → All (λ (t : Transition). P t.to → P t.from) ts
    → (s x : ℕ) → leads ts s x ≡ true → P x → P s
leads_back P ts a s x e =
    leads_keeps (λ (y : ℕ). P y → P s) ts
    (all_map (λ (t : Transition). P t.to → P t.from) (λ (t : Transition). (P t.from → P s) → P t.to → P s) (λ t k f p. f (k p)) ts a)
    s x e (λ p. p)
