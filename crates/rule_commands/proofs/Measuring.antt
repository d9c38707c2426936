-- A table's rows, where the SPANs of a row end, and the loops that count them. Assumes nothing.
use mathlib.Core.Path.{◌≡◌, refl, sym, ap, ◌∙◌}
use mathlib.Core.Bool.{Bool, true, false, not, ◌&&◌, and-false}
use mathlib.Core.List.{List, [], ◌∷◌, ◌++◌, append-nil}
use Prim.Native.Nat.{ℕ, suc, ◌+◌, ◌*◌, ◌-◌, ◌<◌, ◌≤◌}
use native.Mathlib.Numerals.{add-one}
use native.Mathlib.Omega.{arith}
use lib.Dec.{eqb}
use lib.ListN.{length, get_or, take, drop, length-append, length-drop, drop_of_length-le}
use lib.Seq.{drop-cons, get_or-take, get_or-drop, length-take-le}
use borrow.Author.Tests.{eq-eqb, ne_eqb}
use Rattle.automaton.specs.Choice.{if}
use Rattle.automaton.specs.Rule.{Transition}
use Rattle.rule_commands.specs.Spans.{span, spans_from, row_spans, spans_of}
use Rattle.rule_commands.specs.Layers.{row_at, rows_from, rows_of, apart, apart_at, closes_at, ended_at, next_low}

-- ---- the rows of a table

-- a row where it is lent
pub row_lent : (targets : List ℕ) (k : ℕ) → take (256 * k + 256 - 256 * k) (drop (256 * k) targets) ≡ row_at targets k
unfolding row_at
row_lent targets k = let e : 256 * k + 256 - 256 * k ≡ 256 = omega arith in ap (λ (n : ℕ). take n (drop (256 * k) targets)) e

module _ (targets : List ℕ) (from : ℕ) where
  pub row-length : 256 * from + 256 ≤ length targets → length (row_at targets from) ≡ 256
  unfolding row_at
  row-length l = length-take-le 256 (drop (256 * from) targets) (simp length-drop (omega arith))

  pub row_at_lem : (b : ℕ) → b < 256 → get_or (row_at targets from) b 0 ≡ get_or targets (256 * from + b) 0
  unfolding row_at
  row_at_lem b l = rw (get_or-take 256 (drop (256 * from) targets) b 0 l, get_or-drop)

module _ (row : List ℕ) (b : ℕ) where
  -- behind the last byte a run ends
  pub apart_last : b + 1 ≡ length row → apart_at row b ≡ true
  unfolding apart
  apart_last e = rw (drop_of_length-le row {i = suc b} (omega arith))

  -- behind any other byte it ends where the next one leads elsewhere
  pub apart_inside : b + 1 < length row → apart_at row b ≡ not (eqb (get_or row b 0) (get_or row (b + 1) 0))
  unfolding apart
  apart_inside l = rw (drop-cons row (suc b) 0 (omega arith), add-one)

-- those of the states from number k on, where there are n in all
abbrev pub rows_left : List ℕ → ℕ → ℕ → List (List ℕ)
rows_left targets n k = rows_from targets k (n - k)

pub rows_start : (targets : List ℕ) (n : ℕ) → rows_of targets n ≡ rows_left targets n 0
rows_start targets n = let q : n ≡ n - 0 = omega arith in ap (rows_from targets 0) q

pub rows_next : (targets : List ℕ) (n k : ℕ) → k < n → rows_left targets n k ≡ row_at targets k ∷ rows_left targets n (k + 1)
unfolding rows_from
rows_next targets n k l = let q : n - k ≡ suc (n - (k + 1)) = omega arith in rw (q, add-one)

pub rows_end : (targets : List ℕ) (n k : ℕ) → n ≤ k → rows_left targets n k ≡ []
unfolding rows_from
rows_end targets n k l = let q : n - k ≡ 0 = omega arith in rw q

-- ---- where SPANs end

-- the SPANs of the rest of a row, from byte b on
unfoldable pub spans_in : ℕ → ℕ → ℕ → List ℕ → List Transition
spans_in from low b [] = []
spans_in from low b (t ∷ row) = spans_from from low b t row

pub spans_start : (from : ℕ) (row : List ℕ) → row_spans from row ≡ spans_in from 0 0 (drop 0 row)
unfolding row_spans spans_in
spans_start from [] = refl
spans_start from (t ∷ row) = refl

pub spans_end : (from low b : ℕ) (row : List ℕ) → length row ≤ b → spans_in from low b (drop b row) ≡ []
unfolding spans_in
spans_end from low b row l = rw (drop_of_length-le row l)

-- the SPAN that ends at a byte that leads to t, if one does, and those behind it
module _ (from low b t : ℕ) where
  abbrev here : List Transition
  here = record { from = from; low = low; high = b; to = t } ∷ []

  span_here : span from low b t ≡ if (not (eqb t 0)) here []
  unfolding span
  span_here = go (eqb t 0)
    where
      go : (z : Bool) → if z [] here ≡ if (not z) here []
      go true = refl
      go false = refl

  spans_turn : (rest : List ℕ) → spans_from from low b t rest
      ≡ if (apart t rest && not (eqb t 0)) here [] ++ spans_in from (if (apart t rest) (suc b) low) (suc b) rest
  unfolding spans_from spans_in apart
  spans_turn [] = rw (append-nil, span_here)
  spans_turn (u ∷ rest) = go (eqb t u)
    where
      go : (z : Bool) → if z (spans_from from low (suc b) u rest) (span from low b t ++ spans_from from (suc b) (suc b) u rest)
          ≡ if (not z && not (eqb t 0)) here [] ++ spans_from from (if (not z) (suc b) low) (suc b) u rest
      go true = refl
      go false = rw span_here

pub spans_next : (from low b : ℕ) (row : List ℕ) → b < length row
    → spans_in from low b (drop b row) ≡ ended_at from low b row ++ spans_in from (next_low row low b) (suc b) (drop (suc b) row)
unfolding spans_in ended_at closes_at
spans_next from low b row l = rw (drop-cons row b 0 l) (spans_turn from low b (get_or row b 0) (drop (suc b) row))

pub ended_length : (from low b : ℕ) (row : List ℕ) → length (ended_at from low b row) ≡ if (closes_at row b) 1 0
unfolding ended_at
ended_length from low b row = go (closes_at row b)
  where
    go : (z : Bool) → length (if z (here from low b (get_or row b 0)) []) ≡ if z 1 0
    go true = refl
    go false = refl

-- whether one ends
module _ (row : List ℕ) (b : ℕ) where
  pub closes_run : apart_at row b ≡ false → closes_at row b ≡ false
  unfolding closes_at
  closes_run e = rw e

  pub closes_error : get_or row b 0 ≡ 0 → closes_at row b ≡ false
  unfolding closes_at
  closes_error e = rw (eq-eqb (get_or row b 0) 0 e) (and-false (apart_at row b))

  pub closes_span : apart_at row b ≡ true → (get_or row b 0 ≡ 0 → ⊥) → closes_at row b ≡ true
  unfolding closes_at
  closes_span e n = rw (e, ne_eqb (get_or row b 0) 0 n)

-- ---- the loop over a row

pub record CountingRow (from : ℕ) (row : List ℕ) (count b : ℕ) : Type 0 where
  pub low : ℕ
  pub same : length (row_spans from row) ≡ count + length (spans_in from low b (drop b row))

pub counting_row-start : (from : ℕ) (row : List ℕ) → CountingRow from row 0 0
counting_row-start from row = record { low = 0; same = ap length (spans_start from row) ∙ omega arith }

module _ {from : ℕ} {row : List ℕ} {count b : ℕ} (w : CountingRow from row count b) where
  pub counting_row_next : b < length row → {n : ℕ} → n ≡ count + if (closes_at row b) 1 0 → CountingRow from row n (b + 1)
  counting_row_next l {n} q =
      let p : if (closes_at row b) 1 0 ≡ length (ended_at from w.low b row) = sym (ended_length from w.low b row) in
      let more = spans_in from (next_low row w.low b) (suc b) (drop (suc b) row) in
      let parts = ap length (spans_next from w.low b row l) ∙ length-append (ended_at from w.low b row) more in
      record { low = next_low row w.low b; same = rw add-one (omega (arith, w.same)) }

  pub counting_row-end : length row ≤ b → count ≡ length (row_spans from row)
  counting_row-end l = let none = ap length (spans_end from w.low b row l) in omega (arith, w.same)

-- ---- the loop over the rows

pub record Counting (targets : List ℕ) (n count k : ℕ) : Type 0 where
  pub within : k ≤ n
  pub few : count ≤ 256 * k
  pub same : length (spans_of 0 (rows_of targets n)) ≡ count + length (spans_of k (rows_left targets n k))

pub spans_rows : (targets : List ℕ) (n k : ℕ) → k < n
    → spans_of k (rows_left targets n k) ≡ row_spans k (row_at targets k) ++ spans_of (k + 1) (rows_left targets n (k + 1))
unfolding spans_of
spans_rows targets n k l = rw (rows_next targets n k l) (rw add-one)

pub spans_rows_end : (targets : List ℕ) (n k : ℕ) → n ≤ k → spans_of k (rows_left targets n k) ≡ []
unfolding spans_of
spans_rows_end targets n k l = rw (rows_end targets n k l)

module _ {targets : List ℕ} {n count k : ℕ} (w : Counting targets n count k) where
  pub counting_next : k < n → {m : ℕ} → (m ≡ length (row_spans k (row_at targets k))) × (m ≤ 256) → Counting targets n (count + m) (k + 1)
  counting_next l q =
      let more = spans_of (k + 1) (rows_left targets n (k + 1)) in
      let parts = ap length (spans_rows targets n k l) ∙ length-append (row_spans k (row_at targets k)) more in
      record { within = omega arith; few = omega (arith, w.few, q.1); same = omega (arith, w.same, q.0) }

  pub counting_end : n ≤ k → n ≤ 256 → (count ≡ length (spans_of 0 (rows_of targets n))) × (count ≤ 65536)
  counting_end l m =
      let none = ap length (spans_rows_end targets n k l) in
      (omega (arith, w.same), omega (arith, w.few, w.within))
