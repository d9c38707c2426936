-- The lowest byte of which something holds.
use Rattle.std.specs.Prelude.{Bool, ℕ, zero, suc}
use Rattle.std.proofs.Math.Option.{Option, none, some}
use Rattle.automaton.specs.Choice.{if}

-- the lowest of the n bytes from b on of which f holds
unfoldable pub lowest_from : (ℕ → Bool) → ℕ → ℕ → Option ℕ
lowest_from f b zero = none
lowest_from f b (suc n) = if (f b) (some b) (lowest_from f (suc b) n)
