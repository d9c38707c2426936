-- A byte more: a position of a set takes it, and the rest can follow that position. Assumes nothing.
use mathlib.Core.Path.{◌≡◌}
use mathlib.Core.Bool.{Bool, true, false, ◌&&◌, ◌||◌}
use mathlib.Core.Logic.{◌⊎◌, inl, inr}
use mathlib.Core.List.{List}
use Prim.Native.Nat.{ℕ, ◌+◌, ◌-◌, ◌<◌}
use native.Mathlib.Nat.{add-sub_cancel_left}
use native.Mathlib.Omega.{arith}
use lib.Dec.{ltb}
use borrow.Author.Tests.{lt-ltb, le-ltb}
use Rattle.automaton.specs.Choice.{if}
use Rattle.automaton.proofs.Tests.{or_true, and_true}
use Rattle.positions.specs.Positions.{of_part}
use Rattle.positions.proofs.Splits.{Split, or_cases}
use Rattle.positions.proofs.Rests.{Either}

pub record Step (set taken : ℕ → Bool) (rest : ℕ → Type 0) : Type 0 where
  pub next : ℕ
  pub fits : set next ≡ true
  pub takes : taken next ≡ true
  pub after : rest next

module _ {S T K : ℕ → Bool} {R : ℕ → Type 0} where
  pub step-or : (Step S K R) ⊎ (Step T K R) → Step (λ (q : ℕ). S q || T q) K R
  step-or (inl s) = record { next = s.next; fits = rw (s.fits); takes = s.takes; after = s.after }
  step-or (inr s) = record { next = s.next; fits = rw (s.fits) (or_true (S s.next)); takes = s.takes; after = s.after }

  pub or_step : Step (λ (q : ℕ). S q || T q) K R → (Step S K R) ⊎ (Step T K R)
  or_step s = elim (or_cases (S s.next) (T s.next) s.fits) [
    | inl h ↦ inl (record { next = s.next; fits = h; takes = s.takes; after = s.after })
    | inr h ↦ inr (record { next = s.next; fits = h; takes = s.takes; after = s.after })
  ]

module _ {S K : ℕ → Bool} {R : ℕ → Type 0} where
  pub step_and : {k : Bool} → k ≡ true → Step S K R → Step (λ (q : ℕ). k && S q) K R
  step_and h s = record { next = s.next; fits = rw h (s.fits); takes = s.takes; after = s.after }

  pub and_step : {k : Bool} → Step (λ (q : ℕ). k && S q) K R → (k ≡ true) × Step S K R
  and_step {k} s =
      let h = and_true k (S s.next) s.fits in
      (h.0, record { next = s.next; fits = h.1; takes = s.takes; after = s.after })

-- a position of the first of two parts, or of the second
module _ (n : ℕ) (S T K L : ℕ → Bool) (A B : ℕ → Type 0) where
  abbrev pub Parts : Type 0
  Parts = Step (of_part n S T) (of_part n K L) (λ (q : ℕ). Either (ltb q n) (A q) (B (q - n)))

  pub step_parts : ((q : ℕ) → K q ≡ true → q < n) → (Step S K A) ⊎ (Step T L B) → Parts
  step_parts below (inl s) = go s.next (lt-ltb s.next n (below s.next s.takes)) s.fits s.takes s.after
    where
      go : (q : ℕ) → ltb q n ≡ true → S q ≡ true → K q ≡ true → A q → Parts
      go q l h k a = record { next = q; fits = rw l h; takes = rw l k; after = rw l a }
  step_parts below (inr s) = go s.next (le-ltb (n + s.next) n (omega arith)) (add-sub_cancel_left n s.next) s.fits s.takes s.after
    where
      go : (q : ℕ) → ltb (n + q) n ≡ false → n + q - n ≡ q → T q ≡ true → L q ≡ true → B q → Parts
      go q l c h k a = record { next = n + q; fits = rw (l, c) h; takes = rw (l, c) k; after = rw (l, c) a }

  pub parts_step : Parts → (Step S K A) ⊎ (Step T L B)
  parts_step s = go s.next (ltb s.next n) s.fits s.takes s.after
    where
      go : (q : ℕ) (t : Bool) → if t (S q) (T (q - n)) ≡ true → if t (K q) (L (q - n)) ≡ true → Either t (A q) (B (q - n))
          → (Step S K A) ⊎ (Step T L B)
      go q true h k a = inl (record { next = q; fits = h; takes = k; after = a })
      go q false h k a = inr (record { next = q - n; fits = h; takes = k; after = a })

-- the cut stands in the rest
module _ (S K : ℕ → Bool) (R : ℕ → List ℕ → Type 0) (M : List ℕ → Type 0) (v : List ℕ) where
  pub split_step : Split (λ (x : List ℕ). Step S K (λ (q : ℕ). R q x)) M v → Step S K (λ (q : ℕ). Split (R q) M v)
  split_step s =
      let t = s.before in
      record {
        next = t.next;
        fits = t.fits;
        takes = t.takes;
        after =
            record { front = s.front; back = s.back; joins = s.joins; before = t.after; after = s.after };
      }

  pub step_split : Step S K (λ (q : ℕ). Split (R q) M v) → Split (λ (x : List ℕ). Step S K (λ (q : ℕ). R q x)) M v
  step_split t =
      let s = t.after in
      record {
        front = s.front;
        back = s.back;
        joins = s.joins;
        after = s.after;
        before =
            record { next = t.next; fits = t.fits; takes = t.takes; after = s.before };
      }
