-- What holds at the head of the loop, and how a turn keeps it. Assumes nothing.
use mathlib.Core.Path.{◌≡◌, ap, ◌∙◌}
use mathlib.Core.List.{List}
use Prim.Native.Nat.{ℕ, ◌+◌, ◌<◌, ◌≤◌}
use native.Mathlib.Omega.{arith}
use native.Mathlib.Numerals.{add-one}
use lib.ListN.{length, get_or, drop, set, length-drop}
use lib.Seq.{paste, paste-zero, paste-suc, length-paste, get_or-drop}

pub copying_start : (from to : List ℕ) (place at : ℕ) → to ≡ paste to at (drop place from) 0
copying_start from to place at = paste-zero to at (drop place from)

pub copying_next : (from entry to : List ℕ) (place at len i : ℕ) → place + len ≤ length from → at + len ≤ length entry → i < len
    → to ≡ paste entry at (drop place from) i → set to (at + i) (get_or from (place + i) 0) ≡ paste entry at (drop place from) (i + 1)
copying_next from entry to place at len i a b l e =
    rw (e, ← get_or-drop place from i 0, add-one) (paste-suc entry at (drop place from) i 0 (omega arith) (simp length-drop (omega arith)))

pub copying_length : (from entry to : List ℕ) (place at len i : ℕ) → place + len ≤ length from → at + len ≤ length entry → i ≤ len
    → to ≡ paste entry at (drop place from) i → length to ≡ length entry
copying_length from entry to place at len i a b l e =
    ap length e ∙ length-paste entry at (drop place from) i (omega arith) (simp length-drop (omega arith))
