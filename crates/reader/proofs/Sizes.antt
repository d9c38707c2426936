-- A table of zeros of a size that suits a book may be lent for it. Assumes nothing.
use Prim.Native.Nat.{ℕ, ◌+◌, ◌/◌, ◌≤◌, ◌<◌}
use native.Mathlib.Omega.{arith}
use lib.ListN.{replicate, length-replicate, get_or-replicate}
use Rattle.automaton.specs.Layers.{edge_start}
use Rattle.book.specs.Limits.{max_bytes}
use Rattle.book.specs.Layers.{edge_limit}
use Rattle.reader.specs.Layers.{Lent, Suits}

pub zeros_lent : (n m : ℕ) → edge_start ≤ m → (n ≤ max_bytes → edge_start + n / 4 < m) → Lent n (replicate m 0)
zeros_lent n m l r =
    let q = length-replicate {A = ℕ} m 0 in
    record { head = rw q l; room = λ h. rw q (r h); empty = get_or-replicate {A = ℕ} m 0 0 0 (omega arith) }

pub suits_lent : {n words : ℕ} → Suits n words → Lent n (replicate words 0)
suits_lent {n} {words} s = zeros_lent n words s.head s.room

-- one for any book
pub lent_large : (n : ℕ) → Lent n (replicate edge_limit 0)
lent_large n = zeros_lent n edge_limit (omega arith) (λ h. omega arith)
