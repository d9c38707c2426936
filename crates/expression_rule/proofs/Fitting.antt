-- The rows of a table that has not too many states, and its final states, are those of a rule. Assumes nothing.
use mathlib.Core.Path.{◌≡◌, refl, sym, ap, ◌∙◌}
use mathlib.Core.Bool.{Bool, true, false, not, ◌||◌}
use mathlib.Core.Logic.{◌⊎◌, inl, inr}
use mathlib.Core.List.{List, [], ◌∷◌, ◌++◌}
use Prim.Native.Nat.{ℕ, zero, suc, ◌≤◌, ◌<◌}
use native.Mathlib.Nat.{eq-or-lt_of_le}
use native.Mathlib.Omega.{arith}
use lib.Bits.{bit_and}
use lib.Dec.{eqb}
use lib.ListN.{length, get_or, length-append, length-map, get_or-append}
use lib.Seq.{get_or_at}
use borrow.Author.Tests.{eq-eqb, ne_eqb}
use Rattle.automaton.specs.Choice.{if, All, any, among}
use Rattle.automaton.proofs.Tests.{or_none, all_map, all_append}
use Rattle.subsets.specs.States.{sets_ahead, ahead_of, states, are_too_many, number_of, row_of, rows_below, rows_of, finals_below, finals_of}
use Rattle.subsets.proofs.Targets.{all_mapped}
use Rattle.rule_commands.specs.Fit.{error_state, FitRow, FitRows}
use Rattle.rule_commands.proofs.Reversed.{none_of}
use Rattle.expression_rule.proofs.Closed.{Standing, states_few, closed}

any_append : {A : Type 0} (f : A → Bool) (xs ys : List A) → any f (xs ++ ys) ≡ any f xs || any f ys
any_append f [] ys = refl
any_append f (x ∷ xs) ys = go (f x) (any_append f xs ys)
  where
    go : (t : Bool) → any f (xs ++ ys) ≡ any f xs || any f ys → t || any f (xs ++ ys) ≡ (t || any f xs) || any f ys
    go true ih = refl
    go false ih = ih

-- ---- the rows

module _ (firsts : ℕ) (follow takers : List ℕ) where
  rows_length : (n : ℕ) → length (rows_below firsts follow takers n) ≡ n
  unfolding rows_below
  rows_length zero = refl
  rows_length (suc k) = omega (arith, rows_length k, length-append (rows_below firsts follow takers k) (row_of firsts follow takers k ∷ []))

  pub rows_at : (n k : ℕ) → k < n → get_or (rows_below firsts follow takers n) k [] ≡ row_of firsts follow takers k
  unfolding rows_below
  rows_at zero k l = absurd (omega arith)
  rows_at (suc n) k l = go (rows_at n k) (eq-or-lt_of_le (omega arith))
    where
      go : (k < n → get_or (rows_below firsts follow takers n) k [] ≡ row_of firsts follow takers k) → (k ≡ n) ⊎ (k < n)
          → get_or (rows_below firsts follow takers n ++ (row_of firsts follow takers n ∷ [])) k [] ≡ row_of firsts follow takers k
      go ih (inl e) =
          get_or_at (rows_below firsts follow takers n) (row_of firsts follow takers n) [] [] k (rows_length n ∙ sym e)
          ∙ ap (row_of firsts follow takers) (sym e)
      go ih (inr h) =
          get_or-append (rows_below firsts follow takers n) (row_of firsts follow takers n ∷ []) [] k (omega (arith, rows_length n))
          ∙ ih h

  abbrev known : List ℕ
  known = states firsts follow takers

  pub table-length : length (rows_of firsts follow takers) ≡ suc (length known)
  table-length = rows_length (suc (length known))

  module _ (few : are_too_many firsts follow takers ≡ false) (size : length takers ≡ 256) where
    fit_row : (k : ℕ) → k ≤ length known → FitRow (row_of firsts follow takers k)
    unfolding row_of
    fit_row k l = record {
      size = length-map (sets_ahead takers (ahead_of firsts follow known k)) (number_of known)
          ∙ length-map takers (bit_and (ahead_of firsts follow known k)) ∙ size;
      below = all_mapped (λ (n : ℕ). n < error_state) (number_of known) (sets_ahead takers (ahead_of firsts follow known k))
          (all_map (Standing known) (λ (set : ℕ). number_of known set < error_state)
          (λ set s. omega (arith, s.within, states_few firsts follow takers few)) (sets_ahead takers (ahead_of firsts follow known k))
          (closed firsts follow takers few k l));
    }

    fit_below : (n : ℕ) → n ≤ suc (length known) → All FitRow (rows_below firsts follow takers n)
    unfolding rows_below
    fit_below zero l = tt
    fit_below (suc k) l =
        all_append FitRow (rows_below firsts follow takers k) (row_of firsts follow takers k ∷ []) (fit_below k (omega arith))
        (fit_row k (omega arith), tt)

    pub table_rows : FitRows (rows_of firsts follow takers)
    table_rows = record {
      few = omega (arith, table-length, states_few firsts follow takers few);
      each = fit_below (suc (length known)) (omega arith);
    }

-- ---- the final states

module _ (lasts : ℕ) (known : List ℕ) where
  abbrev pub Between : ℕ → ℕ → Type 0
  Between n s = (0 < s) × (s ≤ n)

  pub finals_between : (n : ℕ) → All (Between n) (finals_below lasts known n)
  unfolding finals_below
  finals_between zero = tt
  finals_between (suc k) =
      all_append (Between (suc k)) (finals_below lasts known k) (if (eqb (bit_and (get_or known k 0) lasts) 0) [] (suc k ∷ []))
      (all_map (Between k) (Between (suc k)) (λ s h. (h.0, omega (arith, h.1))) (finals_below lasts known k) (finals_between k))
      (one (eqb (bit_and (get_or known k 0) lasts) 0))
    where
      one : (t : Bool) → All (Between (suc k)) (if t [] (suc k ∷ []))
      one true = tt
      one false = ((omega arith, omega arith), tt)

  finals_below_lem : (empty : Bool) (bound : ℕ) → length known < bound → All (λ (s : ℕ). s < bound) (finals_of lasts empty known)
  unfolding finals_of
  finals_below_lem empty bound l =
      all_append (λ (s : ℕ). s < bound) (if empty (0 ∷ []) []) (finals_below lasts known (length known)) (start empty)
      (all_map (Between (length known)) (λ (s : ℕ). s < bound) (λ s h. omega (arith, h.1)) (finals_below lasts known (length known))
      (finals_between (length known)))
    where
      start : (t : Bool) → All (λ (s : ℕ). s < bound) (if t (0 ∷ []) [])
      start true = (omega arith, tt)
      start false = tt

  -- the start
  pub start-final : (empty : Bool) → among 0 (finals_of lasts empty known) ≡ empty
  unfolding finals_of
  start-final empty =
      any_append (eqb 0) (if empty (0 ∷ []) []) (finals_below lasts known (length known))
      ∙ rw (none_of (Between (length known)) (eqb 0) (λ s h. ne_eqb 0 s (λ e. omega (arith, h.0))) (finals_below lasts known (length known))
      (finals_between (length known))) (go empty)
    where
      go : (t : Bool) → among 0 (if t (0 ∷ []) []) || false ≡ t
      go true = refl
      go false = refl

  -- another state: where its set has a last position
  state_below : (n k : ℕ) → k < n → among (suc k) (finals_below lasts known n) ≡ not (eqb (bit_and (get_or known k 0) lasts) 0)
  unfolding finals_below
  state_below zero k l = absurd (omega arith)
  state_below (suc n) k l =
      any_append (eqb (suc k)) (finals_below lasts known n) (if (eqb (bit_and (get_or known n 0) lasts) 0) [] (suc n ∷ []))
      ∙ go (state_below n k) (eq-or-lt_of_le (omega arith))
    where
      here : (t : Bool) → among (suc k) (if t [] (suc k ∷ [])) ≡ not t
      here true = refl
      here false = rw (eq-eqb (suc k) (suc k) refl)

      other : k < n → (t : Bool) → among (suc k) (if t [] (suc n ∷ [])) ≡ false
      other h true = refl
      other h false = rw (ne_eqb (suc k) (suc n) (λ e. omega arith))

      go : (k < n → among (suc k) (finals_below lasts known n) ≡ not (eqb (bit_and (get_or known k 0) lasts) 0)) → (k ≡ n) ⊎ (k < n)
          → among (suc k) (finals_below lasts known n) || among (suc k) (if (eqb (bit_and (get_or known n 0) lasts) 0) [] (suc n ∷ []))
          ≡ not (eqb (bit_and (get_or known k 0) lasts) 0)
      go ih (inl e) =
          rw (
            sym e,
            none_of (Between k) (eqb (suc k)) (λ s h. ne_eqb (suc k) s (λ q. omega (arith, h.1))) (finals_below lasts known k)
                (finals_between k),
          ) (here (eqb (bit_and (get_or known k 0) lasts) 0))
      go ih (inr h) = rw (ih h, other h (eqb (bit_and (get_or known n 0) lasts) 0)) (or_none (not (eqb (bit_and (get_or known k 0) lasts) 0)))

  pub state_final : (empty : Bool) (k : ℕ) → k < length known
      → among (suc k) (finals_of lasts empty known) ≡ not (eqb (bit_and (get_or known k 0) lasts) 0)
  unfolding finals_of
  state_final empty k l =
      any_append (eqb (suc k)) (if empty (0 ∷ []) []) (finals_below lasts known (length known))
      ∙ rw (go empty) (state_below (length known) k l)
    where
      go : (t : Bool) → among (suc k) (if t (0 ∷ []) []) ≡ false
      go true = rw (ne_eqb (suc k) 0 (λ e. omega arith))
      go false = refl

pub table_finals : (firsts : ℕ) (follow takers : List ℕ) (lasts : ℕ) (empty : Bool) → are_too_many firsts follow takers ≡ false
    → All (λ (s : ℕ). s < error_state) (finals_of lasts empty (states firsts follow takers))
table_finals firsts follow takers lasts empty few =
    finals_below_lem lasts (states firsts follow takers) empty error_state (omega (arith, states_few firsts follow takers few))
