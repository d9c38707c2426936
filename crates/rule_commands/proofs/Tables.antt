-- The SPANs of a table rise, and they lead where its numbers do. Assumes nothing.
use mathlib.Core.Path.{◌≡◌, refl, sym, ap, subst, ◌∙◌}
use mathlib.Core.Bool.{Bool, true, false}
use mathlib.Core.List.{List, [], ◌∷◌, ◌++◌, reverse}
use Prim.Native.Nat.{ℕ, zero, suc, ◌+◌, ◌<◌, ◌≤◌}
use native.Mathlib.Omega.{arith}
use lib.Dec.{leb, eqb}
use lib.ListN.{length, get_or, get_or-eq_default}
use borrow.Author.Tests.{lt-leb, le-leb, eqb-true, eq-eqb}
use Rattle.automaton.specs.Choice.{if, All, among}
use Rattle.automaton.specs.Rule.{Rule, target, walk, matches, overlaps}
use Rattle.automaton.proofs.Tests.{and_false_right}
use Rattle.rule_commands.specs.Spans.{span, spans_from, row_spans, spans_of}
use Rattle.rule_commands.specs.Fit.{error_state, FitRow, rule_by}
use Rattle.rule_commands.specs.Table.{number_at, step_table, walk_table}
use Rattle.rule_commands.proofs.Reversed.{any-reverse}
use Rattle.rule_commands.proofs.Rising.{place, Rising, rising_append, rising_apart}
use Rattle.rule_commands.proofs.Rising.{target_below, target_above, target-append, target-reverse}

-- ---- they rise

rising_span : (from low high to end : ℕ) → low ≤ high → high < 256 → place from (suc high) ≤ end
    → Rising (place from low) end (span from low high to)
unfolding span
rising_span from low high to end l h e = go (eqb to 0)
  where
    go : (t : Bool) → Rising (place from low) end (if t [] (record { from = from; low = low; high = high; to = to } ∷ []))
    go true = omega arith
    go false = (record { above = omega arith; ordered = l; byte = h }, omega arith)

rising_from : (row : List ℕ) (from low b t end : ℕ) → low ≤ b → b + length row < 256 → place from (suc b) + length row ≤ end
    → Rising (place from low) end (spans_from from low b t row)
unfolding spans_from
rising_from [] from low b t end l h e = rising_span from low b t end l (omega arith) (omega arith)
rising_from (u ∷ row) from low b t end l h e =
    go (eqb t u) (rising_from row from low (suc b) u end (omega arith) (omega arith) (omega arith))
    (rising_from row from (suc b) (suc b) u end (omega arith) (omega arith) (omega arith))
  where
    go : (c : Bool) → Rising (place from low) end (spans_from from low (suc b) u row)
        → Rising (place from (suc b)) end (spans_from from (suc b) (suc b) u row)
        → Rising (place from low) end
        (if c (spans_from from low (suc b) u row) (span from low b t ++ spans_from from (suc b) (suc b) u row))
    go true r q = r
    go false r q =
        rising_append (place from low) (place from (suc b)) end (span from low b t) (spans_from from (suc b) (suc b) u row)
        (rising_span from low b t (place from (suc b)) l (omega arith) (omega arith)) q

rising_row : (row : List ℕ) (k : ℕ) → length row ≤ 256 → Rising (place k 0) (place (suc k) 0) (row_spans k row)
unfolding row_spans
rising_row [] k l = omega arith
rising_row (t ∷ row) k l = rising_from row k 0 0 t (place (suc k) 0) (omega arith) (omega arith) (omega arith)

rising_rows : (rows : List (List ℕ)) (k : ℕ) → All FitRow rows → Rising (place k 0) (place (k + length rows) 0) (spans_of k rows)
unfolding spans_of
rising_rows [] k h = omega arith
rising_rows (row ∷ rows) k (f, h) =
    rising_append (place k 0) (place (suc k) 0) (place (k + length (row ∷ rows)) 0) (row_spans k row) (spans_of (suc k) rows)
    (rising_row row k (omega (arith, f.size)))
    (subst (λ (n : ℕ). Rising (place (suc k) 0) (place n 0) (spans_of (suc k) rows)) (omega arith) (rising_rows rows (suc k) h))

pub spans_apart : (rows : List (List ℕ)) → All FitRow rows → overlaps (reverse (spans_of 0 rows)) ≡ false
spans_apart rows h = rising_apart (place 0 0) (place (0 + length rows) 0) (spans_of 0 rows) (rising_rows rows 0 h)

-- ---- they lead where the numbers do

-- the state of a number, or the error state
abbrev state_or : ℕ → ℕ → ℕ
state_or error n = if (eqb n 0) error n

module _ (from : ℕ) where
  span_in : (low high to b error : ℕ) → low ≤ b → b ≤ high → target (span from low high to) from b error ≡ state_or error to
  unfolding span target
  span_in low high to b error l h = go (eqb to 0)
    where
      go : (t : Bool) → target (if t [] (record { from = from; low = low; high = high; to = to } ∷ [])) from b error ≡ if t error to
      go true = refl
      go false = rw (eq-eqb from from refl, le-leb low b l, le-leb b high h)

  span_out : (low high to b error : ℕ) → high < b → target (span from low high to) from b error ≡ error
  unfolding span target
  span_out low high to b error h = go (eqb to 0)
    where
      go : (t : Bool) → target (if t [] (record { from = from; low = low; high = high; to = to } ∷ [])) from b error ≡ error
      go true = refl
      go false = rw (lt-leb b high h, and_false_right (leb low b), and_false_right (eqb from from))

  -- at the bytes passed that lead to t
  here : (row : List ℕ) (low b t c error : ℕ) → low ≤ c → c ≤ b → b + length row < 256
      → target (spans_from from low b t row) from c error ≡ state_or error t
  unfolding spans_from
  here [] low b t c error l h s = span_in low b t c error l h
  here (u ∷ row) low b t c error l h s = go (eqb t u) refl (here row low (suc b) u c error l (omega arith) (omega arith))
    where
      go : (q : Bool) → eqb t u ≡ q → target (spans_from from low (suc b) u row) from c error ≡ state_or error u
          → target (if q (spans_from from low (suc b) u row) (span from low b t ++ spans_from from (suc b) (suc b) u row)) from c error
          ≡ state_or error t
      go true q ih = ih ∙ ap (state_or error) (sym (eqb-true t u q))
      go false q ih =
          target-append (span from low b t) (spans_from from (suc b) (suc b) u row) from c error
          ∙ ap (target (span from low b t) from c)
          (target_below (place from (suc b)) (place from (suc (suc b)) + length row) (spans_from from (suc b) (suc b) u row) from c error
          (rising_from row from (suc b) (suc b) u _ (omega arith) (omega arith) (omega arith)) (omega arith))
          ∙ span_in low b t c error l h

  -- at those ahead
  ahead : (row : List ℕ) (low b t i error : ℕ) → low ≤ b → b + length row < 256
      → target (spans_from from low b t row) from (suc b + i) error ≡ state_or error (get_or row i 0)
  unfolding spans_from
  ahead [] low b t i error l s = span_out low b t (suc b + i) error (omega arith)
  ahead (u ∷ row) low b t i error l s =
      go (eqb t u) (λ first f. next first f i (λ j. ahead row first (suc b) u j error f (omega arith)))
    where
      At : ℕ → ℕ → Type 0
      At first j = target (spans_from from first (suc b) u row) from (suc b + j) error ≡ state_or error (get_or (u ∷ row) j 0)

      next : (first : ℕ) → first ≤ suc b → (i : ℕ)
          → ((j : ℕ) → target (spans_from from first (suc b) u row) from (suc (suc b) + j) error ≡ state_or error (get_or row j 0))
          → At first i
      next first f zero ih =
          let q : suc b + 0 ≡ suc b = omega arith in
          rw q (here row first (suc b) u (suc b) error f (omega arith) (omega arith))
      next first f (suc j) ih =
          let q : suc b + suc j ≡ suc (suc b) + j = omega arith in
          rw q (ih j)

      go : (q : Bool) → ((first : ℕ) → first ≤ suc b → At first i)
          → target (if q (spans_from from low (suc b) u row) (span from low b t ++ spans_from from (suc b) (suc b) u row)) from (suc b + i)
          error
          ≡ state_or error (get_or (u ∷ row) i 0)
      go true k = k low (omega arith)
      go false k =
          target-append (span from low b t) (spans_from from (suc b) (suc b) u row) from (suc b + i) error
          ∙ span_out low b t (suc b + i) (target (spans_from from (suc b) (suc b) u row) from (suc b + i) error) (omega arith)
          ∙ k (suc b) (omega arith)

  row_target : (row : List ℕ) (b error : ℕ) → length row ≤ 256 → target (row_spans from row) from b error ≡ state_or error (get_or row b 0)
  unfolding row_spans target
  row_target [] b error l = refl
  row_target (t ∷ row) zero error l = here row 0 0 t 0 error (omega arith) (omega arith) (omega arith)
  row_target (t ∷ row) (suc i) error l =
      let q : suc 0 + i ≡ suc i = omega arith in
      subst (λ (c : ℕ). target (spans_from from 0 0 t row) from c error ≡ state_or error (get_or row i 0)) q
      (ahead row 0 0 t i error (omega arith) (omega arith))

rows_target : (rows : List (List ℕ)) (k i b error : ℕ) → All FitRow rows → b < 256
    → target (spans_of k rows) (k + i) b error ≡ state_or error (number_at rows i b)
unfolding spans_of target
rows_target [] k i b error h l = refl
rows_target (row ∷ rows) k zero b error (f, h) l =
    let q : k + 0 ≡ k = omega arith in
    rw q
    (target-append (row_spans k row) (spans_of (suc k) rows) k b error
    ∙ ap (target (row_spans k row) k b)
    (target_below (place (suc k) 0) (place (suc k + length rows) 0) (spans_of (suc k) rows) k b error (rising_rows rows (suc k) h)
    (omega arith))
    ∙ row_target k row b error (omega (arith, f.size)))
rows_target (row ∷ rows) k (suc j) b error (f, h) l =
    let q : k + suc j ≡ suc k + j = omega arith in
    rw q
    (target-append (row_spans k row) (spans_of (suc k) rows) (suc k + j) b error
    ∙ target_above (place k 0) (place (suc k) 0) (row_spans k row) (suc k + j) b (target (spans_of (suc k) rows) (suc k + j) b error)
    (rising_row row k (omega (arith, f.size))) (omega arith)
    ∙ rows_target rows (suc k) j b error h l)

-- from every state, also from one that has no row
pub spans_target : (rows : List (List ℕ)) (s b : ℕ) → All FitRow rows → b < 256
    → target (reverse (spans_of 0 rows)) s b error_state ≡ step_table rows s b
spans_target rows s b h l =
    let q : 0 + s ≡ s = omega arith in
    target-reverse (place 0 0) (place (0 + length rows) 0) (spans_of 0 rows) s b error_state (rising_rows rows 0 h)
    ∙ rw q at (rows_target rows 0 s b error_state h l)

module _ (tag kind : ℕ) (finals : List ℕ) (rows : List (List ℕ)) (h : All FitRow rows) where
  abbrev rule : Rule
  rule = rule_by tag kind finals (spans_of 0 rows)

  -- the rule walks as the table does
  pub table-walk : (s : ℕ) (w : List ℕ) → All (λ (b : ℕ). b < 256) w → walk rule s w ≡ walk_table rows s w
  unfolding walk walk_table
  table-walk s [] a = refl
  table-walk s (b ∷ w) (l, a) = rw (spans_target rows s b h l) (table-walk (step_table rows s b) w a)

  pub table-matches : (w : List ℕ) → All (λ (b : ℕ). b < 256) w → matches rule w ≡ among (walk_table rows 0 w) finals
  unfolding matches
  table-matches w a = rw (table-walk 0 w a) (any-reverse (eqb (walk_table rows 0 w)) finals)

pub error_stays : (rows : List (List ℕ)) (w : List ℕ) → length rows ≤ error_state → walk_table rows error_state w ≡ error_state
unfolding walk_table
error_stays rows [] l = refl
error_stays rows (b ∷ w) l = rw (get_or-eq_default rows [] {n = error_state} l) (error_stays rows w l)
