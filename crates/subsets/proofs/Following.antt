-- The loop of `after`. Assumes nothing.
use mathlib.Core.Path.{◌≡◌}
use mathlib.Core.List.{List}
use Prim.Native.Nat.{ℕ, ◌+◌, ◌^◌, ◌/◌, ◌%◌}
use native.Mathlib.Numerals.{add-one}
use lib.Bits.{bit_or, or_zero_r}
use borrow.Author.Tests.{eq-eqb, ne_eqb}
use lib.ListN.{get_or}
use Rattle.subsets.specs.States.{after_below}

-- one more position is gone through
module _ (follow : List ℕ) (set p : ℕ) {all : ℕ} (w : all ≡ after_below p follow set) where
  pub after_some : set / 2 ^ p % 2 ≡ 1 → bit_or all (get_or follow p 0) ≡ after_below (p + 1) follow set
  unfolding after_below
  after_some e = rw (add-one, w, eq-eqb _ _ e)

  pub after_none : (set / 2 ^ p % 2 ≡ 1 → ⊥) → all ≡ after_below (p + 1) follow set
  unfolding after_below
  after_none e = rw (add-one, w, ne_eqb _ _ e, or_zero_r)
