-- `mark_chain`: what is left of the chain and what is marked.
use mathlib.Core.List.{List}
use Prim.Native.Nat.{ℕ}
use Rattle.automaton.specs.Rule.{Transition}
use Rattle.automaton.specs.Layers.{Chain}
use Rattle.used_bytes.proofs.Waiting.{Bytes}
use Rattle.used_bytes.proofs.releasing.mark_chain.Given as goal

abbrev pub invariant-loop-h : goal.invariant-loop-h
invariant-loop-h l = (first : ℕ) (ts : List Transition) → Chain l.words first l.head ts → Bytes l.words first ts l.initial.set l.h l.set

abbrev pub decreases-loop-h : goal.decreases-loop-h
decreases-loop-h l = l.h
