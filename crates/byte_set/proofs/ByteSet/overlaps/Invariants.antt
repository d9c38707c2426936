-- `overlaps`: whether there was one below `b`.
use mathlib.Core.Path.{◌≡◌}
use mathlib.Core.Bool.{◌&&◌}
use Prim.Native.Nat.{ℕ}
use Rattle.byte_set.specs.Layers.{mark, some_below}
use Rattle.byte_set.proofs.ByteSet.overlaps.Given as goal

abbrev pub invariant-loop-b : goal.invariant-loop-b
invariant-loop-b l = l.common ≡ some_below (λ (x : ℕ). mark l.self x && mark l.other x) l.b
