-- A walk by a table's own numbers, and what its SPANs say of them. A row has a number for each byte, the state that it leads to, or 0 where
-- it leads to the error state.
use Rattle.std.specs.Prelude.{◌≡◌, List, [], ◌∷◌, ℕ, ◌+◌, ◌<◌, ◌≤◌, eqb, length, get_or}
use Rattle.automaton.specs.Choice.{if}
use Rattle.automaton.specs.Rule.{Transition}
use Rattle.rule_commands.specs.Fit.{error_state}

-- a row's number for byte b, in the row of state s; 0 where there is no such row
abbrev pub number_at : List (List ℕ) → ℕ → ℕ → ℕ
number_at rows s b = get_or (get_or rows s []) b 0

-- where it leads
abbrev pub step_table : List (List ℕ) → ℕ → ℕ → ℕ
step_table rows s b = if (eqb (number_at rows s b) 0) error_state (number_at rows s b)

-- Where there are few enough rows, the error state has none, so that a walk stays there.
unfoldable pub walk_table : List (List ℕ) → ℕ → List ℕ → ℕ
walk_table rows s [] = s
walk_table rows s (b ∷ w) = walk_table rows (step_table rows s b) w

-- t is a SPAN of this row and as long as can be: its bytes all lead to its state, those next to it elsewhere; behind the last byte stands
-- no state
pub record Longest (row : List ℕ) (t : Transition) : Type 0 where
  pub ordered : t.low ≤ t.high
  pub within : t.high < length row
  pub leads : 0 < t.to
  pub each : (b : ℕ) → t.low ≤ b → b ≤ t.high → get_or row b 0 ≡ t.to
  pub below : (b : ℕ) → b + 1 ≡ t.low → get_or row b 0 ≡ t.to → ⊥
  pub above : get_or row (t.high + 1) 0 ≡ t.to → ⊥

-- of the row of the state that it leaves
pub record SpanOf (rows : List (List ℕ)) (t : Transition) : Type 0 where
  pub state : t.from < length rows
  pub longest : Longest (get_or rows t.from []) t
