-- `release`: how far the queue has been gone through since the first `let_go`.
use mathlib.Core.List.{List, []}
use Prim.Native.Nat.{ℕ, ◌-◌}
use Rattle.automaton.specs.Rule.{Transition, state_count}
use Rattle.automaton.specs.Layers.{edge_start}
use Rattle.table_builder.specs.Layers.{Built}
use Rattle.used_bytes.specs.Layers.{queued, Worklist}
use Rattle.used_bytes.proofs.Waiting.{Releasing}
use Rattle.used_bytes.proofs.releasing.release.Given as goal

abbrev pub invariant-loop-next : goal.invariant-loop-next
invariant-loop-next l = (bound : ℕ) (base : List ℕ) → Worklist bound l.initial.good l.stamp l.initial.queue l.initial.n base
    → (end : ℕ) (us : List Transition) → Built l.waiting l.rows l.stamp edge_start end [] us
    → Releasing bound us l.stamp base (queued l.initial.queue l.initial.n base) l.initial.set l.good l.queue l.set l.n l.next

abbrev pub decreases-loop-next : goal.decreases-loop-next
decreases-loop-next l = state_count - l.next
