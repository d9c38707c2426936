-- `sweep_chain`: what is left of the chain, and what is marked and waits.
use mathlib.Core.Path.{◌≡◌}
use mathlib.Core.List.{List}
use Prim.Native.Nat.{ℕ}
use lib.Dec.{eqb}
use lib.ListN.{get_or}
use Rattle.automaton.specs.Choice.{All, among}
use Rattle.automaton.specs.Rule.{Transition}
use Rattle.automaton.specs.Layers.{Chain}
use Rattle.used_bytes.specs.Layers.{Waiting}
use Rattle.used_bytes.proofs.Swept.{Going}
use Rattle.used_bytes.proofs.sweeping.sweep_chain.Given as goal

abbrev pub invariant-loop-h : goal.invariant-loop-h
invariant-loop-h l = (bound first : ℕ) (ts us : List Transition) (gs : List ℕ) → Chain l.table first l.head ts
    → All (λ (t : Transition). t.from ≡ l.from) ts → Waiting bound l.initial.waiting l.initial.rows l.stamp l.fn.end us
    → ((x : ℕ) → eqb (get_or l.good x 0) l.stamp ≡ among x gs)
    → Going bound l.table first l.from l.stamp gs ts us l.fn.end l.initial.set l.waiting l.rows l.set l.h l.at l.leads

abbrev pub decreases-loop-h : goal.decreases-loop-h
decreases-loop-h l = l.h
