-- What a chain tells of bytes: two between which it covers all, the loop of `first_bytes`, and one that is shared, a step of `shares_byte`.
-- Assumes nothing.
use mathlib.Core.Path.{◌≡◌}
use mathlib.Core.List.{List, [], ◌∷◌}
use mathlib.Core.Bool.{true}
use mathlib.Core.Logic.{◌⊎◌, inl, inr}
use Prim.Native.Nat.{ℕ, ◌+◌, ◌*◌, ◌<◌, ◌≤◌, min, max}
use native.Mathlib.Omega.{arith}
use borrow.Author.Tests.{le-leb, lt-leb}
use Rattle.automaton.specs.Rule.{Transition}
use Rattle.automaton.specs.Choice.{any}
use Rattle.automaton.specs.Layers.{low_of, high_of, next_of, edge_at, Edge, Chain, Between, Within}
use Rattle.automaton.proofs.Tests.{and_false_right}
use Rattle.table_builder.specs.Layers.{shares}

-- ---- the bytes that a chain covers

-- a chain at link h that is left of ts: ts lies from low to high where it does
pub record Rest (tb : List ℕ) (first h low high : ℕ) (ts : List Transition) : Type 0 where
  pub transitions : List Transition
  pub chain : Chain tb first h transitions
  pub whole : Between low high transitions → Between low high ts

-- the walk from `head` stands at h, and what it has passed lies from low to high
pub record Spanning (tb : List ℕ) (head h low high : ℕ) : Type 0 where
  pub low_byte : low < 256
  pub high_byte : high < 256
  pub rest : (l m : ℕ) → l ≤ low → high ≤ m → (first : ℕ) (ts : List Transition) → Chain tb first head ts → Rest tb first h l m ts

pub spanning_start : (tb : List ℕ) (head : ℕ) → Spanning tb head head 255 0
spanning_start tb head =
    record {
      low_byte = omega arith;
      high_byte = omega arith;
      rest = λ l m p q first ts c. record { transitions = ts; chain = c; whole = λ b. b };
    }

module _ {tb : List ℕ} {head h low high : ℕ} (w : Spanning tb head h low high) where
  pub spanning_next : {n low₁ high₁ : ℕ} → 0 < h → low₁ ≡ min low (low_of (edge_at tb h)) → high₁ ≡ max high (high_of (edge_at tb h))
      → n ≡ next_of (edge_at tb h) → Spanning tb head n low₁ high₁
  spanning_next {n} {low₁} {high₁} pos a b e =
      record {
        low_byte = omega (arith, w.low_byte);
        high_byte = omega (arith, w.high_byte);
        rest = λ l m p q first ts c.
            let k = w.rest l m (omega arith) (omega arith) first ts c in
            go l m p q first k.transitions k.chain k.whole;
      }
    where
      go : (l m : ℕ) → l ≤ low₁ → high₁ ≤ m → (first : ℕ) {ts : List Transition} (us : List Transition) → Chain tb first h us
          → (Between l m us → Between l m ts) → Rest tb first n l m ts
      go l m p q first [] c f = absurd (omega arith)
      go l m p q first (t ∷ us) (k, c) f =
          record {
            transitions = us;
            chain = rw e c;
            whole = λ r. f ((omega (arith, k.edge.low), omega (arith, k.edge.high)), r);
          }

  pub spanning_end : h ≡ 0 → {p : ℕ} → p ≡ high * 256 + low → (first : ℕ) (ts : List Transition) → Chain tb first head ts → Within p ts
  spanning_end z {p} e first ts c =
      let a : low_of p ≤ low = omega (arith, w.low_byte, w.high_byte) in
      let b : high ≤ high_of p = omega (arith, w.low_byte, w.high_byte) in
      let k = w.rest (low_of p) (high_of p) a b first ts c in
      go k.transitions k.chain k.whole
    where
      go : (us : List Transition) → Chain tb first h us → (Between (low_of p) (high_of p) us → Within p ts) → Within p ts
      go [] c f = f tt
      go (t ∷ us) (l, c) f = let q = l.some in absurd (omega arith)

-- ---- a shared byte

module _ {tb : List ℕ} {h : ℕ} (low high : ℕ) where
  pub share_hit : {t : Transition} (us : List Transition) → Edge tb h t → low ≤ high_of (edge_at tb h)
      → low_of (edge_at tb h) ≤ high → true ≡ any (shares low high) (t ∷ us)
  share_hit us l p q = rw (← l.low, ← l.high, le-leb _ _ p, le-leb _ _ q)

  pub share_miss : {t : Transition} (us : List Transition) → Edge tb h t
      → (high_of (edge_at tb h) < low) ⊎ (high < low_of (edge_at tb h)) → any (shares low high) (t ∷ us) ≡ any (shares low high) us
  share_miss us l (inl p) = rw (← l.high, lt-leb _ _ p)
  share_miss us l (inr p) = rw (← l.low, lt-leb _ _ p, and_false_right)
