-- The sets that `compiled` is made of are those of the expression, so the laws of Rules hold of it; how long it is. Assumes nothing.
use mathlib.Core.Path.{◌≡◌, refl, sym, ap, ◌∙◌}
use mathlib.Core.Bool.{Bool, true, false}
use mathlib.Core.Logic.{◌⊎◌, inl, inr}
use mathlib.Core.List.{List, [], ◌∷◌, ◌++◌}
use Prim.Native.Nat.{ℕ, zero, suc, ◌+◌, ◌*◌, ◌≤◌, ◌<◌}
use native.Mathlib.Nat.{eq-or-lt_of_le}
use native.Mathlib.Omega.{arith}
use lib.Bits.{bit_and}
use lib.Dec.{eqb}
use lib.ListN.{length, get_or, length-append, get_or-append}
use lib.Seq.{get_or_at}
use Rattle.automaton.specs.Choice.{if, All}
use Rattle.automaton.specs.Rule.{Transition}
use Rattle.expression.specs.Expression.{Expression}
use Rattle.positions.specs.Positions.{size, nullable, takes_at, last, follows}
use Rattle.positions.specs.Numbers.{set_of}
use Rattle.subsets.specs.States.{states, finals_below, finals_of}
use Rattle.rule_commands.specs.Spans.{span, spans_from, row_spans, spans_of}
use Rattle.rule_commands.specs.Fit.{FitRow, FitRows}
use Rattle.rule_commands.proofs.Read.{rule-length}
use Rattle.expression_rule.specs.Outcome.{tabled, firsts_of, follow_of, takers_of, many_sets, finals_for, rows_for, compiled}
use Rattle.expression_rule.specs.Layers.{Sets}
use Rattle.expression_rule.proofs.Closed.{states_few}
use Rattle.expression_rule.proofs.Fitting.{table_rows}

-- ---- the sets

pub tabled-length : (n : ℕ) (f : ℕ → ℕ) → length (tabled n f) ≡ n
unfolding tabled
tabled-length zero f = refl
tabled-length (suc n) f = omega (arith, length-append (tabled n f) (f n ∷ []), tabled-length n f)

pub tabled_at : (n : ℕ) (f : ℕ → ℕ) (k : ℕ) → k < n → get_or (tabled n f) k 0 ≡ f k
unfolding tabled
tabled_at zero f k l = absurd (omega arith)
tabled_at (suc n) f k l = go (tabled_at n f k) (eq-or-lt_of_le (omega arith))
  where
    go : (k < n → get_or (tabled n f) k 0 ≡ f k) → (k ≡ n) ⊎ (k < n) → get_or (tabled n f ++ (f n ∷ [])) k 0 ≡ f k
    go ih (inl e) = get_or_at (tabled n f) (f n) [] 0 k (tabled-length n f ∙ sym e) ∙ ap f (sym e)
    go ih (inr h) = get_or-append (tabled n f) (f n ∷ []) 0 k (omega (arith, tabled-length n f)) ∙ ih h

pub compiled_sets : (e : Expression) → size e ≤ 64 → Sets e (firsts_of e) (set_of (last e)) (nullable e) (follow_of e) (takers_of e)
compiled_sets e l = record {
  small = l;
  first-set = refl;
  last_set = refl;
  empty_matched = refl;
  follow_size = tabled-length 64 (λ p. set_of (follows e p));
  follow_set = λ p h. tabled_at 64 (λ q. set_of (follows e q)) p (omega arith);
  takers_size = tabled-length 256 (λ b. set_of (takes_at e b));
  takers_set = λ b h. tabled_at 256 (λ c. set_of (takes_at e c)) b h;
}

-- ---- the lengths

-- at most one SPAN for each byte of a row
span_few : (from low b t : ℕ) → length (span from low b t) ≤ 1
unfolding span
span_few from low b t = go (eqb t 0)
  where
    go : (q : Bool) → length {A = Transition} (if q [] (record { from = from; low = low; high = b; to = t } ∷ [])) ≤ 1
    go true = omega arith
    go false = omega arith

spans_from_few : (from low b t : ℕ) (row : List ℕ) → length (spans_from from low b t row) ≤ suc (length row)
unfolding spans_from
spans_from_few from low b t [] = span_few from low b t
spans_from_few from low b t (u ∷ row) =
    go (eqb t u) (spans_from_few from low (suc b) u row) (spans_from_few from (suc b) (suc b) u row)
  where
    go : (q : Bool) → length (spans_from from low (suc b) u row) ≤ suc (length row)
        → length (spans_from from (suc b) (suc b) u row) ≤ suc (length row)
        → length (if q (spans_from from low (suc b) u row) (span from low b t ++ spans_from from (suc b) (suc b) u row))
        ≤ suc (suc (length row))
    go true more new = omega arith
    go false more new =
        omega (arith, length-append (span from low b t) (spans_from from (suc b) (suc b) u row), span_few from low b t)

row_spans_few : (k : ℕ) (row : List ℕ) → length (row_spans k row) ≤ length row
unfolding row_spans
row_spans_few k [] = omega arith
row_spans_few k (t ∷ row) = spans_from_few k 0 0 t row

spans_few : (k : ℕ) (rows : List (List ℕ)) → All FitRow rows → length (spans_of k rows) ≤ 256 * length rows
unfolding spans_of
spans_few k [] a = omega arith
spans_few k (row ∷ rows) (f, a) =
    omega (arith, length-append (row_spans k row) (spans_of (suc k) rows), row_spans_few k row, f.size, spans_few (suc k) rows a)

finals_below_few : (lasts : ℕ) (known : List ℕ) (n : ℕ) → length (finals_below lasts known n) ≤ n
unfolding finals_below
finals_below_few lasts known zero = omega arith
finals_below_few lasts known (suc k) =
    omega (
      arith,
      length-append (finals_below lasts known k) (if (eqb (bit_and (get_or known k 0) lasts) 0) [] (suc k ∷ [])),
      finals_below_few lasts known k,
      one (eqb (bit_and (get_or known k 0) lasts) 0),
    )
  where
    one : (t : Bool) → length (if t [] (suc k ∷ [])) ≤ 1
    one true = omega arith
    one false = omega arith

finals_few : (lasts : ℕ) (empty : Bool) (known : List ℕ) → length (finals_of lasts empty known) ≤ suc (length known)
unfolding finals_of
finals_few lasts empty known =
    omega (
      arith,
      length-append (if empty (0 ∷ []) []) (finals_below lasts known (length known)),
      finals_below_few lasts known (length known),
      one empty,
    )
  where
    one : (t : Bool) → length {A = ℕ} (if t (0 ∷ []) []) ≤ 1
    one true = omega arith
    one false = omega arith

pub compiled-length : (tag kind : ℕ) (e : Expression)
    → length (compiled tag kind e) ≡ 9 + 2 * length (finals_for e) + 5 * length (spans_of 0 (rows_for e))
unfolding compiled
compiled-length tag kind e = rule-length tag kind (finals_for e) (spans_of 0 (rows_for e))

-- 255 final states, and a SPAN for each byte in each of 255 states
pub compiled_short : (tag kind : ℕ) (e : Expression) → many_sets e ≡ false → length (compiled tag kind e) ≤ 326919
compiled_short tag kind e few =
    let rows : FitRows (rows_for e) =
    table_rows (firsts_of e) (follow_of e) (takers_of e) few (tabled-length 256 (λ b. set_of (takes_at e b))) in
    omega (
      arith,
      compiled-length tag kind e,
      spans_few 0 (rows_for e) rows.each,
      rows.few,
      finals_few (set_of (last e)) (nullable e) (states (firsts_of e) (follow_of e) (takers_of e)),
      states_few (firsts_of e) (follow_of e) (takers_of e) few,
    )
