-- `joined`: the marks below `b` are those of both sets.
use mathlib.Core.Bool.{◌||◌}
use Prim.Native.Nat.{ℕ}
use Rattle.byte_set.specs.Layers.{mark}
use Rattle.byte_set.proofs.Marking.{Filling}
use Rattle.byte_set.proofs.ByteSet.joined.Given as goal

abbrev pub invariant-loop-b : goal.invariant-loop-b
invariant-loop-b l = Filling (λ (x : ℕ). mark l.fn.self x || mark l.other x) 0 l.b l.fn.self.marks l.self.marks
