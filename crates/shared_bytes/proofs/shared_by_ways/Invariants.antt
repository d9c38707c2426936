-- `shared_by_ways`: the first `k` rules are narrow.
use mathlib.Core.List.{List}
use Rattle.automaton.specs.Rule.{Rule}
use Rattle.automaton.specs.Layers.{Holds}
use Rattle.shared_bytes.specs.Layers.{FirstFit, narrow_states, narrow_edges}
use Rattle.shared_bytes.proofs.shared_by_ways.Given as goal

abbrev pub invariant-loop-k : goal.invariant-loop-k
invariant-loop-k l = (rs : List Rule) → Holds l.table rs → FirstFit narrow_states narrow_edges rs l.k
