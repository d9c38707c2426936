-- What the layers of the code ask and answer between themselves. Nobody needs to believe it: the operations' contracts do not rest on it.
use Rattle.std.specs.Prelude.{◌≡◌, Bool, false, ◌&&◌, ◌||◌, List, ℕ, zero, suc, leb, length, get_or}
use Rattle.std.proofs.Math.Option.{Option, none, some}
use Rattle.byte_set.specs.declared.ByteSet.{ByteSet}
use Rattle.std.specs.Prelude as std

-- the byte is marked
abbrev pub mark : ByteSet → ℕ → Bool
mark s b = get_or s.marks b false

-- low to high, both included
abbrev pub between : ℕ → ℕ → ℕ → Bool
between low high b = leb low b && leb b high

-- the marks that were there, and those from low to high
pub record Ranged (low high : ℕ) (before after : List Bool) : Type 0 where
  pub size : length after ≡ 256
  pub marks : (b : ℕ) → get_or after b false ≡ between low high b || get_or before b false

-- f holds of a number below n
unfoldable pub some_below : (ℕ → Bool) → ℕ → Bool
some_below f zero = false
some_below f (suc n) = some_below f n || f n

-- the same as the code writes it
abbrev pub lowest_of : Option ℕ → std.Option ℕ
lowest_of none = std.None
lowest_of (some b) = std.Some b
