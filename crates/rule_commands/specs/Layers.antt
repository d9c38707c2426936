-- A table's rows, which `write_rule` cites, and what the layers of the code ask and answer between themselves.
use Rattle.std.specs.Prelude.{◌≡◌, Bool, true, not, ◌&&◌, ℕ, zero, suc, ◌+◌, ◌*◌, eqb, length, get_or, take, drop}
use mathlib.Core.List.{List, [], ◌∷◌, map, flatten}
use Rattle.std.proofs.Math.Seq.{paste}
use Rattle.automaton.specs.Choice.{if, All}
use Rattle.automaton.specs.Rule.{Transition}
use Rattle.rule_commands.specs.Bytes.{span_bytes}

-- ---- the rows of a table that has 256 targets for each state

unfoldable pub row_at : List ℕ → ℕ → List ℕ
row_at targets i = take 256 (drop (256 * i) targets)

-- of n states from number i on
unfoldable pub rows_from : List ℕ → ℕ → ℕ → List (List ℕ)
rows_from targets i zero = []
rows_from targets i (suc n) = row_at targets i ∷ rows_from targets (suc i) n

abbrev pub rows_of : List ℕ → ℕ → List (List ℕ)
rows_of targets n = rows_from targets 0 n

-- the table begins with these n rows
pub record Tabled (rows : List (List ℕ)) (targets : List ℕ) (n : ℕ) : Type 0 where
  pub count : length rows ≡ n
  pub wide : All (λ (row : List ℕ). length row ≡ 256) rows
  pub laid : flatten rows ≡ take (256 * n) targets

-- ---- where a SPAN ends

-- a run of bytes that lead to t ends in front of these targets
unfoldable pub apart : ℕ → List ℕ → Bool
apart t [] = true
apart t (u ∷ rest) = not (eqb t u)

-- a run ends at byte b of a row
abbrev pub apart_at : List ℕ → ℕ → Bool
apart_at row b = apart (get_or row b 0) (drop (suc b) row)

-- and it is a SPAN
unfoldable pub closes_at : List ℕ → ℕ → Bool
closes_at row b = apart_at row b && not (eqb (get_or row b 0) 0)

-- the SPAN that ends there and began at `low`, if one ends there
unfoldable pub ended_at : ℕ → ℕ → ℕ → List ℕ → List Transition
ended_at from low b row = if (closes_at row b) (record { from = from; low = low; high = b; to = get_or row b 0 } ∷ []) []

-- where the run that goes on behind byte b began
abbrev pub next_low : List ℕ → ℕ → ℕ → ℕ
next_low row low b = if (apart_at row b) (suc b) low

-- ---- bytes that are written

abbrev pub bytes_of : List Transition → List ℕ
bytes_of spans = flatten (map span_bytes spans)

-- the bytes stand from `to` on, the next place is past them, and the other bytes are as they were
pub record Put (bytes : List ℕ) (to : ℕ) (entry : List ℕ) (next : ℕ) (exit : List ℕ) : Type 0 where
  pub past : next ≡ to + length bytes
  pub laid : exit ≡ paste entry to bytes (length bytes)
