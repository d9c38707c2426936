-- `reach`: the states whose transitions have been followed.
use mathlib.Core.Path.{◌≡◌}
use Prim.Native.Nat.{ℕ, ◌-◌}
use lib.ListN.{length}
use Rattle.automaton.specs.Rule.{Rule, state_count}
use Rattle.automaton.specs.Layers.{Table}
use Rattle.used_bytes.proofs.Reached.{Reaching}
use Rattle.used_bytes.proofs.reaching.reach.Given as goal

abbrev pub invariant-loop-next : goal.invariant-loop-next
invariant-loop-next l = (bound : ℕ) → length l.initial.marks ≡ bound → (m : Rule) → Table l.table l.rule m
    → Reaching bound l.table l.rule m l.stamp l.marks l.queue l.n l.next

abbrev pub decreases-loop-next : goal.decreases-loop-next
decreases-loop-next l = state_count - l.next
