-- `covered_by_kind`: the first `k` rules.
use mathlib.Core.List.{List}
use Rattle.automaton.specs.Rule.{Rule}
use Rattle.automaton.specs.Layers.{Holds}
use Rattle.shared_bytes.specs.Layers.{Covers}
use Rattle.shared_bytes.proofs.covered_by_kind.Given as goal

abbrev pub invariant-loop-k : goal.invariant-loop-k
invariant-loop-k l = (rs : List Rule) → Holds l.table rs → Covers rs l.kind l.k l.set.marks
