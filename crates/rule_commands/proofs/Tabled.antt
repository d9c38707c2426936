-- The rows of a table are those that it begins with. Assumes nothing.
use mathlib.Core.Path.{◌≡◌, refl, sym, ap, ◌∙◌}
use mathlib.Core.List.{List, [], ◌∷◌, ◌++◌, append_cancel_left, flatten}
use Prim.Native.Nat.{ℕ, zero, suc, ◌+◌, ◌*◌, ◌≤◌}
use native.Mathlib.Omega.{arith}
use lib.ListN.{length, take, drop, length-drop}
use lib.Seq.{take-add, take_at, take-take, drop-drop, length-take-le}
use Rattle.automaton.specs.Choice.{All}
use Rattle.rule_commands.specs.Layers.{row_at, rows_from, rows_of, Tabled}

abbrev Wide : List (List ℕ) → Type 0
Wide rows = All (λ (row : List ℕ). length row ≡ 256) rows

-- a row's targets, and those of the rows behind it
rows_split : (targets : List ℕ) (i n : ℕ)
    → take (256 * suc n) (drop (256 * i) targets) ≡ row_at targets i ++ take (256 * n) (drop (256 * suc i) targets)
unfolding row_at
rows_split targets i n =
    let e : 256 * suc n ≡ 256 + 256 * n = omega arith in
    let f : 256 * i + 256 ≡ 256 * suc i = omega arith in
    rw (e, take-add, drop-drop, f)

row_first : (row rest targets : List ℕ) (i n : ℕ) → length row ≡ 256
    → row ++ rest ≡ take (256 * suc n) (drop (256 * i) targets) → row ≡ row_at targets i
unfolding row_at
row_first row rest targets i n w e =
    sym (take_at row rest 256 w) ∙ ap (take 256) e ∙ take-take 256 (256 * suc n) (drop (256 * i) targets) (omega arith)

rows_from_lem : (rows : List (List ℕ)) (targets : List ℕ) (i : ℕ) → Wide rows
    → flatten rows ≡ take (256 * length rows) (drop (256 * i) targets) → rows ≡ rows_from targets i (length rows)
unfolding flatten rows_from
rows_from_lem [] targets i h e = refl
rows_from_lem (row ∷ rows) targets i (w, h) e =
    let q = row_first row (flatten rows) targets i (length rows) w e in
    let rest = append_cancel_left (row_at targets i) _ _
    (ap (λ (x : List ℕ). x ++ flatten rows) (sym q) ∙ e ∙ rows_split targets i (length rows)) in
    rw (← q, ← (rows_from_lem rows targets (suc i) h rest))

pub tabled_rows : {rows : List (List ℕ)} {targets : List ℕ} {n : ℕ} → Tabled rows targets n → rows ≡ rows_of targets n
tabled_rows {rows} {targets} {n} t =
    let e : flatten rows ≡ take (256 * length rows) (drop (256 * 0) targets) = t.laid ∙ rw t.count in
    rows_from_lem rows targets 0 t.wide e ∙ rw t.count

-- and they are such rows
rows_wide : (targets : List ℕ) (i n : ℕ) → 256 * (i + n) ≤ length targets → Wide (rows_from targets i n)
unfolding rows_from row_at
rows_wide targets i zero l = tt
rows_wide targets i (suc n) l =
    (length-take-le 256 (drop (256 * i) targets) (simp length-drop (omega arith)), rows_wide targets (suc i) n (omega arith))

rows_laid : (targets : List ℕ) (i n : ℕ) → flatten (rows_from targets i n) ≡ take (256 * n) (drop (256 * i) targets)
unfolding flatten rows_from
rows_laid targets i zero = refl
rows_laid targets i (suc n) = rw (rows_laid targets (suc i) n) (sym (rows_split targets i n))

rows_count : (targets : List ℕ) (i n : ℕ) → length (rows_from targets i n) ≡ n
unfolding rows_from
rows_count targets i zero = refl
rows_count targets i (suc n) = ap suc (rows_count targets (suc i) n)

pub rows_tabled : (targets : List ℕ) (n : ℕ) → 256 * n ≤ length targets → Tabled (rows_of targets n) targets n
rows_tabled targets n l =
    record { count = rows_count targets 0 n; wide = rows_wide targets 0 n (omega arith); laid = rows_laid targets 0 n }
