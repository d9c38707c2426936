-- `read_back`: the first tokens are alone and not read on, for any rules that the table holds and any pool.
use mathlib.Core.List.{List}
use Prim.Native.Nat.{ℕ}
use Rattle.automaton.specs.Rule.{Rule}
use Rattle.automaton.specs.Layers.{Holds}
use Rattle.token_list.specs.Layers.{Spread}
use Rattle.token_list.proofs.Settling.{Retracing}
use Rattle.token_list.proofs.readback.read_back.Given as goal

abbrev pub invariant-loop-k : goal.invariant-loop-k
invariant-loop-k l =
    (rs : List Rule) (pool : List ℕ) → Holds l.table rs → Spread l.records pool l.text
    → Retracing rs l.records pool l.text l.at l.k
