-- A walk along a chain: what is left of it, and what the walk asks of the whole. Assumes nothing.
use mathlib.Core.Path.{◌≡◌, sym, ◌∙◌}
use mathlib.Core.List.{List, [], ◌∷◌}
use Prim.Native.Nat.{ℕ, ◌<◌}
use native.Mathlib.Omega.{arith}
use lib.ListN.{length}
use Rattle.automaton.specs.Rule.{Transition}
use Rattle.automaton.specs.Layers.{next_of, edge_at, Edge, Link, Chain, Chained}

-- a chain at link h for which f answers x
pub record Left {A : Type 0} (tb : List ℕ) (first h : ℕ) (f : List Transition → A) (x : A) : Type 0 where
  pub transitions : List Transition
  pub chain : Chain tb first h transitions
  pub same : x ≡ f transitions

-- the walk from `head` stands at h: whatever the whole chain is, f answers of it what it answers of what is left
pub record Along {A : Type 0} (tb : List ℕ) (head h : ℕ) (f : List Transition → A) : Type 0 where
  pub left : (first : ℕ) (ts : List Transition) → Chain tb first head ts → Left tb first h f (f ts)

-- the link at which the walk stands
pub record At (tb : List ℕ) (first h : ℕ) : Type 0 where
  pub transition : Transition
  pub link : Link tb first h transition

pub at_left : (tb : List ℕ) (first h : ℕ) (ts : List Transition) → Chain tb first h ts → 0 < h → At tb first h
at_left tb first h [] c pos = absurd (omega arith)
at_left tb first h (t ∷ ts) (l, c) pos = record { transition = t; link = l }

module _ {A : Type 0} {tb : List ℕ} {head h : ℕ} {f : List Transition → A} (w : Along tb head h f) where
  pub along_in : (first : ℕ) (ts : List Transition) → Chain tb first head ts → 0 < h → At tb first h
  along_in first ts c pos = let m = w.left first ts c in at_left tb first h m.transitions m.chain pos

  -- past a link that f passes over
  pub along_next : {n : ℕ} → 0 < h → ((t : Transition) (us : List Transition) → Edge tb h t → f (t ∷ us) ≡ f us)
      → n ≡ next_of (edge_at tb h) → Along tb head n f
  along_next {n} pos miss e =
      record { left = λ first ts c. let m = w.left first ts c in go first m.transitions m.chain m.same }
    where
      go : {x : A} (first : ℕ) (us : List Transition) → Chain tb first h us → x ≡ f us → Left tb first n f x
      go first [] c s = absurd (omega arith)
      go first (t ∷ us) (l, c) s = record { transitions = us; chain = rw e c; same = s ∙ miss t us l.edge }

  -- at a link by which f is settled
  pub along_hit : {x : A} → 0 < h → ((t : Transition) (us : List Transition) → Edge tb h t → x ≡ f (t ∷ us))
      → (first : ℕ) (ts : List Transition) → Chain tb first head ts → x ≡ f ts
  along_hit {x} pos hit first ts c = let m = w.left first ts c in go m.transitions m.chain m.same
    where
      go : {y : A} (us : List Transition) → Chain tb first h us → y ≡ f us → x ≡ y
      go [] k s = absurd (omega arith)
      go (t ∷ us) (l, k) s = hit t us l.edge ∙ sym s

  -- at the end
  pub along_end : {x : A} → h ≡ 0 → x ≡ f [] → (first : ℕ) (ts : List Transition) → Chain tb first head ts → x ≡ f ts
  along_end {x} z e first ts c = let m = w.left first ts c in go m.transitions m.chain m.same
    where
      go : {y : A} (us : List Transition) → Chain tb first h us → y ≡ f us → x ≡ y
      go [] k s = e ∙ sym s
      go (t ∷ us) (l, k) s = let p = l.some in absurd (omega arith)

-- a chain that goes on has a word at its link, and goes on from the next
pub record Step (tb : List ℕ) (h : ℕ) : Type 0 where
  pub room : h < length tb
  pub back : next_of (edge_at tb h) < h
  pub rest : Chained tb (next_of (edge_at tb h))

pub chained_step : {tb : List ℕ} {h : ℕ} → Chained tb h → 0 < h → Step tb h
chained_step {tb} {h} k pos = go k.transitions k.chain
  where
    go : (ts : List Transition) → Chain tb k.first h ts → Step tb h
    go [] c = absurd (omega arith)
    go (t ∷ ts) (l, c) =
        record { room = l.edge.room; back = l.back; rest = record { first = k.first; transitions = ts; chain = c } }
