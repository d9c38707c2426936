-- Each SPAN of a table is as long as can be, so a table's commands fit. Assumes nothing.
use mathlib.Core.Path.{◌≡◌, refl, sym, ap, subst, ◌∙◌}
use mathlib.Core.Bool.{Bool, true, false}
use mathlib.Core.List.{List, [], ◌∷◌, ◌++◌}
use Prim.Native.Nat.{ℕ, suc, ◌+◌, ◌<◌, ◌≤◌}
use native.Mathlib.Numerals.{add-one}
use native.Mathlib.Omega.{arith}
use lib.Dec.{eqb}
use lib.ListN.{length, get_or, drop, length-drop, get_or-eq_default}
use lib.Seq.{drop-cons}
use borrow.Author.Tests.{eqb-true, eqb-false}
use Rattle.automaton.specs.Choice.{if, All}
use Rattle.automaton.specs.Rule.{Transition, Ranged}
use Rattle.automaton.proofs.Tests.{all_map, all_append, all_at}
use Rattle.rule_commands.specs.Spans.{span, spans_from, row_spans, spans_of}
use Rattle.rule_commands.specs.Fit.{error_state, Fit, FitRow, FitRows}
use Rattle.rule_commands.specs.Table.{Longest, SpanOf}
use Rattle.rule_commands.proofs.Tables.{spans_apart}

-- from place k on a list has x and then the rest
record Next {A : Type 0} (l : List A) (k : ℕ) (x : A) (rest : List A) : Type 0 where
  within : k < length l
  here : (d : A) → get_or l k d ≡ x
  after : drop (suc k) l ≡ rest

next : {A : Type 0} (l : List A) (k : ℕ) {x : A} {rest : List A} → drop k l ≡ x ∷ rest → Next l k x rest
next {A} l k {x} {rest} e =
    let w : k < length l = omega (arith, length-drop k l, ap length e) in
    record {
      within = w;
      here = λ d. let q = drop-cons l k d w in cc;
      after = let q = drop-cons l k x w in cc;
    }

module _ (from : ℕ) (row : List ℕ) where
  -- the bytes from low to b lead to t, the one below elsewhere, and behind b stands the rest of the row
  record Run (low b t : ℕ) (rest : List ℕ) : Type 0 where
    ordered : low ≤ b
    within : b < length row
    behind : drop (suc b) row ≡ rest
    each : (c : ℕ) → low ≤ c → c ≤ b → get_or row c 0 ≡ t
    below : (c : ℕ) → c + 1 ≡ low → get_or row c 0 ≡ t → ⊥

  abbrev Made : Transition → Type 0
  Made t = (t.from ≡ from) × Longest row t

  run_more : {low b t : ℕ} {rest : List ℕ} → Run low b t (t ∷ rest) → Run low (suc b) t rest
  run_more {low} {b} {t} {rest} r = record {
    ordered = omega (arith, r.ordered);
    within = n.within;
    behind = n.after;
    each = λ c l h. go c l h (eqb c (suc b)) refl;
    below = r.below;
  }
    where
      n : Next row (suc b) t rest
      n = next row (suc b) r.behind

      go : (c : ℕ) → low ≤ c → c ≤ suc b → (q : Bool) → eqb c (suc b) ≡ q → get_or row c 0 ≡ t
      go c l h true e = ap (λ (i : ℕ). get_or row i 0) (eqb-true c (suc b) e) ∙ n.here 0
      go c l h false e = let k = eqb-false c (suc b) e in r.each c l (omega arith)

  -- from byte b on anew, where the one below leads elsewhere
  run_new : {b u : ℕ} {rest : List ℕ} → Next row b u rest → ((c : ℕ) → c + 1 ≡ b → get_or row c 0 ≡ u → ⊥) → Run b b u rest
  run_new {b} {u} n k = record {
    ordered = omega arith;
    within = n.within;
    behind = n.after;
    each = λ c l h. let q : c ≡ b = omega arith in ap (λ (i : ℕ). get_or row i 0) q ∙ n.here 0;
    below = k;
  }

  run_span : {low b t : ℕ} {rest : List ℕ} → Run low b t rest → (0 < t → get_or row (b + 1) 0 ≡ t → ⊥) → All Made (span from low b t)
  unfolding span
  run_span {low} {b} {t} r k = go (eqb t 0) refl
    where
      go : (q : Bool) → eqb t 0 ≡ q → All Made (if q [] (record { from = from; low = low; high = b; to = t } ∷ []))
      go true e = tt
      go false e =
          let z = eqb-false t 0 e in
          let l : 0 < t = omega arith in (
            (
              refl,
              record { ordered = r.ordered; within = r.within; leads = l; each = r.each; below = r.below; above = k l },
            ),
            tt,
          )

  runs : (rest : List ℕ) (low b t : ℕ) → Run low b t rest → All Made (spans_from from low b t rest)
  unfolding spans_from
  runs [] low b t r =
      run_span r
      (λ l e. omega (arith, get_or-eq_default row 0 {n = b + 1} (omega (arith, length-drop (suc b) row, ap length r.behind))))
  runs (u ∷ rest) low b t r = go (eqb t u) refl (λ q. runs rest low (suc b) u q) (λ q. runs rest (suc b) (suc b) u q)
    where
      n : Next row (suc b) u rest
      n = next row (suc b) r.behind

      go : (q : Bool) → eqb t u ≡ q → (Run low (suc b) u rest → All Made (spans_from from low (suc b) u rest))
          → (Run (suc b) (suc b) u rest → All Made (spans_from from (suc b) (suc b) u rest))
          → All Made (if q (spans_from from low (suc b) u rest) (span from low b t ++ spans_from from (suc b) (suc b) u rest))
      go true e more new = more (run_more (subst (λ (v : ℕ). Run low b v (u ∷ rest)) (eqb-true t u e) r))
      go false e more new =
          let other = eqb-false t u e in
          all_append Made (span from low b t) (spans_from from (suc b) (suc b) u rest)
          (run_span r (λ l x. other (sym (rw add-one at x) ∙ n.here 0)))
          (new (run_new n (λ c p x. let q : c ≡ b = omega arith in
          other (sym (r.each b r.ordered (omega arith)) ∙ rw q at x))))

row_made : (k : ℕ) (row : List ℕ) → All (Made k row) (row_spans k row)
unfolding row_spans
row_made k [] = tt
row_made k (t ∷ row) =
    runs k (t ∷ row) row 0 0 t
    (run_new k (t ∷ row) (record { within = omega arith; here = λ d. refl; after = refl }) (λ c p x. omega arith))

rows_made : (whole rows : List (List ℕ)) (k : ℕ) → drop k whole ≡ rows → All (SpanOf whole) (spans_of k rows)
unfolding spans_of
rows_made whole [] k e = tt
rows_made whole (row ∷ rows) k e =
    let n : Next whole k row rows = next whole k e in
    all_append (SpanOf whole) (row_spans k row) (spans_of (suc k) rows)
    (all_map (Made k row) (SpanOf whole)
    (λ t m. record {
      state = omega (arith, n.within, m.0);
      longest = subst (λ (r : List ℕ). Longest r t) (sym (ap (λ (i : ℕ). get_or whole i []) m.0 ∙ n.here [])) m.1;
    })
    (row_spans k row) (row_made k row))
    (rows_made whole rows (suc k) n.after)

pub spans_longest : (rows : List (List ℕ)) → All (SpanOf rows) (spans_of 0 rows)
spans_longest rows = rows_made rows rows 0 refl

pub spans_ranged : (rows : List (List ℕ)) → FitRows rows → All (Ranged error_state) (spans_of 0 rows)
spans_ranged rows f = all_map (SpanOf rows) (Ranged error_state) ranged (spans_of 0 rows) (spans_longest rows)
  where
    ranged : (t : Transition) → SpanOf rows t → Ranged error_state t
    ranged t m =
        let k : FitRow (get_or rows t.from []) = all_at FitRow rows [] f.each t.from m.state in
        let g = m.longest in
        let to : get_or (get_or rows t.from []) t.low 0 < error_state =
        all_at (λ (n : ℕ). n < error_state) (get_or rows t.from []) 0 k.below t.low (omega (arith, g.ordered, g.within)) in
        record {
          from_below = omega (arith, m.state, f.few);
          to_below = omega (arith, g.each t.low (omega arith) g.ordered);
          ordered = g.ordered;
          byte = omega (arith, g.within, k.size);
        }

-- so its commands are read as its rule
pub table_fits : (tag kind : ℕ) (finals : List ℕ) (rows : List (List ℕ)) → 0 < tag → tag < 65536 → kind ≤ 1
    → All (λ (s : ℕ). s < error_state) finals → FitRows rows → Fit tag kind finals (spans_of 0 rows)
table_fits tag kind finals rows nonzero below known fb f =
    record {
      tag_some = nonzero;
      tag_below = below;
      kind_known = known;
      finals_below_lem = fb;
      ranged = spans_ranged rows f;
      apart = spans_apart rows f.each;
    }
