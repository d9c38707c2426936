-- Reading a list item by item. Assumes nothing.
use mathlib.Core.Path.{◌≡◌, sym, ap, ◌∙◌, subst}
use mathlib.Core.Bool.{false}
use mathlib.Core.List.{List, [], ◌∷◌}
use Prim.Native.Nat.{ℕ, ◌+◌, ◌≤◌, ◌<◌}
use native.Mathlib.Omega.{arith}
use lib.Dec.{eqb}
use lib.ListN.{length, get_or, drop, length-drop}
use Rattle.std.specs.Prelude.{Result, Ok, Err}
use Rattle.automaton.specs.Choice.{if}
use Rattle.automaton.proofs.Tests.{or_none}
use Rattle.expression.specs.Expression.{Range, in_range}
use Rattle.expression.specs.Reading.{item, range_of, item_at, items, no_items, in_front, after_item, items_in}
use Rattle.expression.proofs.Unfolding.{items_unfold, items_shorter}
use Rattle.position_reader.specs.Steps.{Marked, ItemFound, ItemFault, ListFound, ListFault, ListReads, ListSteps, Behind}
use Rattle.position_reader.specs.declared.ListStep.{ListStep}
use Rattle.position_reader.specs.declared.ListStep.TheVariants.{More, Closed}
use Rattle.position_reader.proofs.Marks.{marked_same, marked_or}
use Rattle.position_reader.proofs.Places.{at_end, at_byte}

-- ---- behind an item

module _ (text : List ℕ) (at next : ℕ) (r : Range) (found : item_at (drop at text) ≡ item r (drop next text)) where
  behind : items_in (drop at text) ≡ after_item items_in (item r (drop next text))
  behind = items_unfold (drop at text) ∙ ap (after_item items_in) found

  none_behind : next ≡ length text → items_in (drop at text) ≡ no_items (drop next text)
  unfolding after_item
  none_behind e = behind ∙ rw (at_end text next e)

  byte-behind : next < length text
      → items_in (drop at text)
      ≡ if (eqb (get_or text next 0) 93) (items (r ∷ []) (drop (next + 1) text)) (in_front r (items_in (drop next text)))
  unfolding after_item
  byte-behind l = behind ∙ go (drop next text) (at_byte text next l)
    where
      go : (x : List ℕ) → x ≡ get_or text next 0 ∷ drop (next + 1) text
          → after_item items_in (item r x)
          ≡ if (eqb (get_or text next 0) 93) (items (r ∷ []) (drop (next + 1) text)) (in_front r (items_in x))
      go x e = rw e

-- ---- a step

module _ (text : List ℕ) (at low high next s : ℕ) (t t' : List ℕ)
    (f : ItemFound (item_at (drop at text)) text (at + 1) low high next) (m : Marked (λ b. in_range b (range_of low high)) s t t')
  where
    on : next < length text → eqb (get_or text next 0) 93 ≡ false → (r : Result ℕ ℕ) (end : List ℕ) → ListReads text next s t' end r
        → ListReads text at s t end r
    on l q (Ok place) end h =
        record {
          ranges = range_of low high ∷ h.ranges;
          found = byte-behind text at next (range_of low high) f.found l ∙ rw (q, h.found);
          inside = h.inside;
          marked = marked_or m h.marked;
        }
    on l q (Err place) end h =
        record {
          fault = byte-behind text at next (range_of low high) f.found l ∙ rw (q, h.fault);
          inside = h.inside;
        }

    pub list_step : (r : Result ListStep ℕ) → Behind text next r → ListSteps text at s t t' r
    list_step (Ok (More place)) (e, l, q) =
        record {
          behind = omega (arith, f.behind);
          inside = omega arith;
          answer =
              subst (λ (n : ℕ). (r : Result ℕ ℕ) (end : List ℕ) → ListReads text n s t' end r → ListReads text at s t end r) (sym e) (on l q);
        }
    list_step (Ok (Closed place)) (e, l, q) =
        record {
          ranges = range_of low high ∷ [];
          found = byte-behind text at next (range_of low high) f.found l ∙ rw (q, e);
          inside = omega arith;
          marked = marked_same m (λ b h. sym (or_none (in_range b (range_of low high))));
        }
    list_step (Err place) (e, l) =
        record {
          fault = rw e (none_behind text at next (range_of low high) f.found l);
          inside = omega arith;
        }

pub list_fault : (text : List ℕ) (at place : ℕ) → ItemFault (item_at (drop at text)) text place → ListFault text at place
unfolding after_item
list_fault text at place f = record { fault = items_unfold (drop at text) ∙ ap (after_item items_in) f.fault; inside = f.inside }

-- ---- the loop

-- what reading from `at` on answers is the answer
pub record Listing (text : List ℕ) (start s : ℕ) (t t' : List ℕ) (at : ℕ) : Type 0 where
  pub inside : at ≤ length text
  pub answer : (r : Result ℕ ℕ) (end : List ℕ) → ListReads text at s t' end r → ListReads text start s t end r

pub listing_closed : {text : List ℕ} {start s at next : ℕ} {t t' end : List ℕ} → Listing text start s t t' at
    → ListFound text at s next t' end → ListFound text start s next t end
listing_closed {next} {end} w f = w.answer (Ok next) end f

pub listing_fault : {text : List ℕ} {start s at place : ℕ} {t t' : List ℕ} → Listing text start s t t' at → ListFault text at place
    → ListFault text start place
listing_fault {place} {t'} w f = w.answer (Err place) t' f

-- it takes a byte
pub list_behind : {text : List ℕ} {at s next : ℕ} {t t' : List ℕ} → ListFound text at s next t t' → at ≤ length text → at < next
list_behind {text} {at} {s} {next} f l =
    let h : length (drop next text) < length (drop at text) = items_shorter (drop at text) f.found in
    omega (arith, h, length-drop next text, length-drop at text, f.inside)
