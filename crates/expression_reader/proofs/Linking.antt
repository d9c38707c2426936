-- Links that are added up to a position.
use mathlib.Core.Path.{◌≡◌, refl, ap, ◌∙◌, sym}
use mathlib.Core.Bool.{Bool, true, false, ◌&&◌}
use mathlib.Core.List.{List}
use Prim.Native.Nat.{ℕ, ◌≤◌, ◌<◌, min}
use native.Mathlib.Omega.{arith}
use borrow.Author.Tests.{ltb-true, ltb-false, leb-true, lt-ltb, le-ltb}
use lib.Bits.{bit_or}
use lib.Dec.{leb, ltb}
use lib.ListN.{get_or}
use Rattle.automaton.specs.Choice.{if}
use Rattle.positions.specs.Numbers.{member}
use Rattle.expression_reader.specs.Layers.{Linked}

-- two orders that hold together
pub ltb_both : (a b c d : ℕ) → (a < b → c < d) → (c < d → a < b) → ltb a b ≡ ltb c d
ltb_both a b c d f g = go (ltb a b) refl
  where
    go : (t : Bool) → ltb a b ≡ t → ltb a b ≡ ltb c d
    go true e = e ∙ sym (lt-ltb c d (f (ltb-true a b e)))
    go false e = e ∙ sym (le-ltb c d (no (ltb c d) refl))
      where
        no : (u : Bool) → ltb c d ≡ u → d ≤ c
        no true k = absurd (omega (arith, g (ltb-true c d k), ltb-false a b e))
        no false k = ltb-false c d k

-- and under another test
and_both : (a b : ℕ) (x y m : Bool) → (a ≤ b → x ≡ y) → leb a b && (x && m) ≡ leb a b && (y && m)
and_both a b x y m f = go (leb a b) refl
  where
    go : (t : Bool) → leb a b ≡ t → leb a b && (x && m) ≡ leb a b && (y && m)
    go true e = rw (e, f (leb-true a b e))
    go false e = rw e

module _ {last first : ℕ} where
  -- all
  pub link_all : {from to p : ℕ} {f g : List ℕ} → (to < p → p ≡ from) → min to 64 ≤ p → Linked from p last first f g
      → Linked from to last first f g
  link_all {from} {to} {p} {f} {g} way done l =
      record {
        linked = λ q k. l.linked q k ∙ ap (λ t. if t (bit_or (get_or f q 0) first) (get_or f q 0))
            (and_both from q (ltb q p) (ltb q to) (member q last) (λ le. ltb_both q p q to (below q le) (λ x. omega arith)));
      }
    where
      below : (q : ℕ) → from ≤ q → q < p → q < to
      below q le x = go (ltb to p) refl
        where
          go : (t : Bool) → ltb to p ≡ t → q < to
          go true e = absurd (omega (arith, way (ltb-true to p e)))
          go false e = omega (arith, ltb-false to p e)
