-- `mark_range`: the marks from `low` to before `b` are set.
use mathlib.Core.Bool.{true}
use Prim.Native.Nat.{ℕ, ◌+◌, ◌-◌, ◌≤◌}
use Rattle.byte_set.proofs.Marking.{Filling}
use Rattle.byte_set.proofs.mark_range.Given as goal

abbrev pub invariant-loop-b : goal.invariant-loop-b
invariant-loop-b l = record { marked : Filling (λ (x : ℕ). true) l.low l.b l.fn.marks l.marks; near : l.b ≤ l.low + (l.high + 1 - l.low) }
