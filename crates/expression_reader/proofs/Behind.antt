-- What stands behind a place of a text.
use mathlib.Core.Path.{◌≡◌, refl, ◌∙◌, sym}
use mathlib.Core.Bool.{Bool, true, false, ◌||◌, true≢false}
use mathlib.Core.List.{List, []}
use Prim.Native.Nat.{ℕ, ◌≤◌, ◌<◌}
use borrow.Author.Tests.{ltb-true, ltb-false}
use lib.Dec.{eqb, ltb}
use lib.ListN.{length, get_or, drop, drop_of_length-le}
use lib.Seq.{drop-cons}
use Rattle.position_reader.specs.Layers.{starts_with}
use Rattle.expression_reader.specs.Layers.{ends_sequence, loops}

-- nothing, at the text's end
pub drop-end : (t : List ℕ) (at : ℕ) → length t ≤ at → drop at t ≡ []
drop-end t at h = drop_of_length-le t h

module _ (t : List ℕ) (at : ℕ) (h : at < length t) where
  pub starts_there : (c : ℕ) → starts_with c (drop at t) ≡ eqb (get_or t at 0) c
  unfolding starts_with
  starts_there c = rw (drop-cons t at 0 h)

  pub ends_there : ends_sequence (drop at t) ≡ eqb (get_or t at 0) 124 || eqb (get_or t at 0) 41
  unfolding ends_sequence
  ends_there = rw (drop-cons t at 0 h)

  pub loops_there : loops (drop at t) ≡ eqb (get_or t at 0) 42 || eqb (get_or t at 0) 43
  unfolding loops
  loops_there = rw (drop-cons t at 0 h)

module _ (t : List ℕ) (at : ℕ) (h : length t ≤ at) where
  pub loops_end : loops (drop at t) ≡ false
  unfolding loops
  loops_end = rw (drop-end t at h)

  pub starts_end : (c : ℕ) → starts_with c (drop at t) ≡ false
  unfolding starts_with
  starts_end c = rw (drop-end t at h)

  pub ends_end : ends_sequence (drop at t) ≡ true
  unfolding ends_sequence
  ends_end = rw (drop-end t at h)

-- a byte that stands there is in the text
pub starts_inside : (t : List ℕ) (at c : ℕ) → starts_with c (drop at t) ≡ true → at < length t
starts_inside t at c h = go (ltb at (length t)) refl
  where
    go : (u : Bool) → ltb at (length t) ≡ u → at < length t
    go true e = ltb-true at (length t) e
    go false e =
        let z : ◌≡◌ {A = Bool} true false = sym h ∙ starts_end t at (ltb-false at (length t) e) c in
        absurd (true≢false z)
