-- The transitions of a rule as they stand one after the other in a table. Assumes nothing.
use mathlib.Core.Path.{◌≡◌, refl}
use mathlib.Core.Bool.{Bool, true, false}
use mathlib.Core.List.{List, [], ◌∷◌}
use Prim.Native.Nat.{ℕ, ◌+◌, ◌-◌, ◌<◌, ◌≤◌}
use native.Mathlib.Omega.{arith}
use lib.ListN.{length}
use lib.Dec.{eqb}
use borrow.Author.Tests.{eqb-true, eqb-false}
use Rattle.automaton.specs.Choice.{All}
use Rattle.automaton.specs.Rule.{Transition, Ranged, state_count}
use Rattle.automaton.specs.Layers.{to_of, edge_at, Listed}

pub listed_order : (tb : List ℕ) (first end : ℕ) (ts : List Transition) → Listed tb first end ts → first ≤ end
listed_order tb first end [] c = omega arith
listed_order tb first end (t ∷ ts) (l, k, c) = omega arith

pub listed_length : (tb : List ℕ) (first end : ℕ) (ts : List Transition) → Listed tb first end ts → end ≡ first + length ts
listed_length tb first end [] c = omega arith
listed_length tb first end (t ∷ ts) (l, k, c) = let q = listed_length tb first (end - 1) ts c in omega arith

-- the transitions lead to states
pub listed_below : (tb : List ℕ) (first end : ℕ) (ts : List Transition) → All (Ranged state_count) ts → Listed tb first end ts
    → (i : ℕ) → first ≤ i → i < end → to_of (edge_at tb i) < state_count
listed_below tb first end [] r c i f l = absurd (omega arith)
listed_below tb first end (t ∷ ts) (q, r) (k, e, c) i f l = go (eqb i (end - 1)) refl (listed_below tb first (end - 1) ts r c i f)
  where
    go : (x : Bool) → eqb i (end - 1) ≡ x → (i < end - 1 → to_of (edge_at tb i) < state_count) → to_of (edge_at tb i) < state_count
    go true z h = let y = eqb-true i (end - 1) z in rw (y, e.to) q.to_below
    go false z h = let y = eqb-false i (end - 1) z in h (omega arith)
