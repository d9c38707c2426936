-- The SPANs of a table (document 02, wish 9): by state and byte, each as long as can be. A row has a number for each byte, the state that
-- it leads to, or 0 where it leads to the error state: no byte leads back to state 0, the start.
use Rattle.std.specs.Prelude.{List, [], ◌∷◌, ◌++◌, ℕ, suc, eqb}
use Rattle.automaton.specs.Choice.{if}
use Rattle.automaton.specs.Rule.{Transition}

-- a SPAN, where the state is not the error state
unfoldable pub span : ℕ → ℕ → ℕ → ℕ → List Transition
span from low high to = if (eqb to 0) [] (record { from = from; low = low; high = high; to = to } ∷ [])

-- Those of a row from byte b on, which leads to t and has the rest of the row behind it; the bytes from `low` on lead there too. A SPAN
-- ends where the next byte leads elsewhere, or is the last.
unfoldable pub spans_from : ℕ → ℕ → ℕ → ℕ → List ℕ → List Transition
spans_from from low b t [] = span from low b t
spans_from from low b t (u ∷ row) =
    if (eqb t u) (spans_from from low (suc b) u row) (span from low b t ++ spans_from from (suc b) (suc b) u row)

unfoldable pub row_spans : ℕ → List ℕ → List Transition
row_spans from [] = []
row_spans from (t ∷ row) = spans_from from 0 0 t row

-- of the rows of states k, k + 1 and so on
unfoldable pub spans_of : ℕ → List (List ℕ) → List Transition
spans_of k [] = []
spans_of k (row ∷ rows) = row_spans k row ++ spans_of (suc k) rows
