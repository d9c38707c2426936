-- `note_chain`: what is left of the chain and what is noted.
use mathlib.Core.List.{List}
use Prim.Native.Nat.{ℕ}
use Rattle.automaton.specs.Rule.{Transition}
use Rattle.automaton.specs.Layers.{Chain}
use Rattle.used_bytes.specs.Layers.{Worklist}
use Rattle.used_bytes.proofs.Queues.{Following}
use Rattle.used_bytes.proofs.reaching.note_chain.Given as goal

abbrev pub invariant-loop-h : goal.invariant-loop-h
invariant-loop-h l = (bound : ℕ) (base : List ℕ) → Worklist bound l.initial.marks l.stamp l.initial.queue l.count base
    → (first : ℕ) (ts : List Transition) → Chain l.table first l.head ts
    → Following bound l.table first l.head ts l.stamp base l.initial.queue l.count l.marks l.queue l.h l.n

abbrev pub decreases-loop-h : goal.decreases-loop-h
decreases-loop-h l = l.h
