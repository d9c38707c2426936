-- What stands at a place of a text, and what reading an item makes of it. Assumes nothing.
use mathlib.Core.Path.{◌≡◌, ◌∙◌}
use mathlib.Core.Bool.{true, false, ◌&&◌}
use mathlib.Core.List.{List, [], ◌∷◌}
use Prim.Native.Nat.{ℕ, ◌+◌, ◌≤◌, ◌<◌}
use native.Mathlib.Numerals.{add-one}
use native.Mathlib.Omega.{arith}
use borrow.Author.Tests.{ne_eqb, le-leb}
use lib.Dec.{leb}
use lib.ListN.{length, get_or, drop}
use lib.Seq.{drop-length, drop-cons}
use Rattle.expression.specs.Spelling.{is_listed}
use Rattle.expression.specs.Reading.{Item, high_end, low_end, item_at}
use Rattle.std.specs.Prelude.{◌≢◌, Result, Ok, Err}
use Rattle.position_reader.specs.Steps.{ItemFound, ItemFault, ItemReads}
use Rattle.position_reader.specs.declared.Item.{Item as ReadItem}

pub at_end : (text : List ℕ) (at : ℕ) → at ≡ length text → drop at text ≡ []
at_end text at e = rw e (drop-length text)

pub at_byte : (text : List ℕ) (at : ℕ) → at < length text → drop at text ≡ get_or text at 0 ∷ drop (at + 1) text
at_byte text at l = rw add-one (drop-cons text at 0 l)

-- what is read behind a place is read from there
pub item_later : (out out' : Item) (text : List ℕ) (from from' : ℕ) (r : Result ReadItem ℕ) → out ≡ out' → from ≤ from'
    → ItemReads out' text from' r → ItemReads out text from r
item_later out out' text from from' (Ok i) e l h = record { found = e ∙ h.found; behind = omega (arith, h.behind); inside = h.inside }
item_later out out' text from from' (Err place) e l h = record { fault = e ∙ h.fault; inside = h.inside }

-- ---- an item, by what stands there: `b` is the byte

module _ (text : List ℕ) (at : ℕ) where
  pub high_none : (low : ℕ) → length text ≤ at → at ≤ length text → ItemFault (high_end low (drop at text)) text at
  unfolding high_end
  high_none low k l = record { fault = rw (at_end text at (omega arith)); inside = l }

  pub high_wrong : (low b : ℕ) → at < length text → b ≡ get_or text at 0 → is_listed b && leb low b ≡ false
      → ItemFault (high_end low (drop at text)) text at
  unfolding high_end
  high_wrong low b l e t = record { fault = rw (at_byte text at l, ← e, t); inside = omega arith }

  pub high_right : (low b : ℕ) → at < length text → b ≡ get_or text at 0 → is_listed b ≡ true → low ≤ b
      → ItemFound (high_end low (drop at text)) text at low b (at + 1)
  unfolding high_end
  high_right low b l e t o =
      record { found = rw (at_byte text at l, ← e, t, le-leb low b o); behind = omega arith; inside = omega arith }

  pub low_none : (low : ℕ) → length text ≤ at → at ≤ length text → ItemFound (low_end low (drop at text)) text at low low at
  unfolding low_end
  low_none low k l = record { found = rw (at_end text at (omega arith)); behind = omega arith; inside = l }

  pub low_alone : (low b : ℕ) → at < length text → b ≡ get_or text at 0 → b ≢ 45 → ItemFound (low_end low (drop at text)) text at low low at
  unfolding low_end
  low_alone low b l e n = record { found = rw (at_byte text at l, ← e, ne_eqb b 45 n); behind = omega arith; inside = omega arith }

  pub low_range : (low b : ℕ) (r : Result ReadItem ℕ) → at < length text → b ≡ get_or text at 0 → b ≡ 45
      → ItemReads (high_end low (drop (at + 1) text)) text (at + 1) r → ItemReads (low_end low (drop at text)) text at r
  unfolding low_end
  low_range low b r l e q h = item_later _ _ text at (at + 1) r (rw (at_byte text at l, ← e, q)) (omega arith) h

  pub item_none : length text ≤ at → at ≤ length text → ItemFault (item_at (drop at text)) text at
  unfolding item_at
  item_none k l = record { fault = rw (at_end text at (omega arith)); inside = l }

  pub item_wrong : (b : ℕ) → at < length text → b ≡ get_or text at 0 → is_listed b ≡ false → ItemFault (item_at (drop at text)) text at
  unfolding item_at
  item_wrong b l e t = record { fault = rw (at_byte text at l, ← e, t); inside = omega arith }

  pub item_right : (b : ℕ) (r : Result ReadItem ℕ) → at < length text → b ≡ get_or text at 0 → is_listed b ≡ true
      → ItemReads (low_end b (drop (at + 1) text)) text (at + 1) r → ItemReads (item_at (drop at text)) text (at + 1) r
  unfolding item_at
  item_right b r l e t h = item_later _ _ text (at + 1) (at + 1) r (rw (at_byte text at l, ← e, t)) (omega arith) h
