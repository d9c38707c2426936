-- `shared_in`: the bytes of the first `k` rules, and room for the next.
use mathlib.Core.List.{List}
use Prim.Native.Nat.{ℕ, ◌+◌}
use Rattle.automaton.specs.Rule.{Rule}
use Rattle.automaton.specs.Layers.{Holds}
use Rattle.used_bytes.specs.Layers.{RoomIn}
use Rattle.shared_bytes.specs.Kinds.{plain_kind, separator_kind}
use Rattle.shared_bytes.proofs.Gathering.{Kinds}
use Rattle.shared_bytes.proofs.shared_in.Given as goal

abbrev pub invariant-loop-k : goal.invariant-loop-k
invariant-loop-k g l = record {
  room : (bound edges : ℕ) → RoomIn bound edges 1 l.initial.space → RoomIn bound edges (l.k + 1) l.space;
  plain : (rs : List Rule) → Holds l.table rs → Kinds rs plain_kind l.k l.plain.marks;
  separators : (rs : List Rule) → Holds l.table rs → Kinds rs separator_kind l.k l.separators.marks;
}
