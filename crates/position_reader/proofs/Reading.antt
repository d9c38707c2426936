-- What stands at a place, as a position. Assumes nothing.
use mathlib.Core.Path.{◌≡◌, refl, ap, subst, sym, ◌∙◌}
use mathlib.Core.Bool.{true, false}
use mathlib.Core.List.{List}
use Prim.Native.Nat.{ℕ, ◌+◌, ◌≤◌, ◌<◌}
use native.Mathlib.Omega.{arith}
use borrow.Author.Tests.{ne_eqb}
use lib.Dec.{eqb}
use lib.ListN.{length, get_or, drop}
use Rattle.std.specs.Prelude.{◌≢◌, Result, Ok, Err}
use Rattle.automaton.specs.Choice.{if, any}
use Rattle.expression.specs.Expression.{in_range, byte, period, list, position, takes}
use Rattle.expression.specs.Spelling.{is_special, is_ordinary}
use Rattle.expression.specs.Reading.{items_in, Parsed, parsed, faulty, list_of, escaped_at, atom_at}
use Rattle.position_reader.specs.Layers.{starts_with, Reads}
use Rattle.position_reader.specs.Steps.{only, ListFound, ListFault, Positioned, ReadPosition}
use Rattle.position_reader.specs.declared.Part.{Part}
use Rattle.position_reader.proofs.Places.{at_end, at_byte}
use Rattle.position_reader.proofs.Parts.{position_read, place_of_lem, fault_read, reads_of}

-- ---- behind a backslash, by what stands there: `b` is the byte

pub escape_none : (text : List ℕ) (at base : ℕ) (t t' f f' : List ℕ) → length text ≤ at → at ≤ length text
    → Reads text base (escaped_at (drop at text)) (Err at) t t' f f'
unfolding escaped_at
escape_none text at base t t' f f' k l = fault_read text base at _ t t' f f' (rw (at_end text at (omega arith))) l

module _ (b : ℕ) (text : List ℕ) (at base : ℕ) (t t' f f' : List ℕ) (l : at < length text) (e : b ≡ get_or text at 0) where
  pub escape_wrong : is_special b ≡ false → Reads text base (escaped_at (drop at text)) (Err at) t t' f f'
  unfolding escaped_at
  escape_wrong q = fault_read text base at _ t t' f f' (rw (at_byte text at l, ← e, q)) (omega arith)

  pub escape_right : (r : Part) → is_special b ≡ true → ReadPosition (byte b) (at + 1) base r t t' f f'
      → Reads text base (escaped_at (drop at text)) (Ok r) t t' f f'
  unfolding escaped_at
  escape_right r q h =
      reads_of (rw (at_byte text at l, ← e, q)) (h text (drop (at + 1) text) (place_of_lem text (at + 1) (omega arith)))

-- ---- an atom that is no group

pub atom_none : (text : List ℕ) (at base : ℕ) (t t' f f' : List ℕ) (next : List ℕ → Parsed) → length text ≤ at → at ≤ length text
    → Reads text base (atom_at next (drop at text)) (Err at) t t' f f'
unfolding atom_at
atom_none text at base t t' f f' next k l = fault_read text base at _ t t' f f' (rw (at_end text at (omega arith))) l

module _ (b : ℕ) (text : List ℕ) (at base : ℕ) (t t' f f' : List ℕ) (next : List ℕ → Parsed)
    (l : at < length text) (e : b ≡ get_or text at 0) (s : starts_with 40 (drop at text) ≡ false)
  where
    no_group : eqb b 40 ≡ false
    unfolding starts_with
    no_group = subst (λ (x : ℕ). eqb x 40 ≡ false) (sym e) (subst (λ (x : List ℕ). starts_with 40 x ≡ false) (at_byte text at l) s)

    atom_here : atom_at next (drop at text)
        ≡ if (eqb b 91) (list_of (items_in (drop (at + 1) text)))
        (if (eqb b 46) (parsed (position period) (drop (at + 1) text))
        (if (eqb b 92) (escaped_at (drop (at + 1) text))
        (if (is_ordinary b) (parsed (position (byte b)) (drop (at + 1) text)) (faulty (drop at text)))))
    unfolding atom_at
    atom_here = rw (at_byte text at l, ← e, no_group)

    pub atom_list : (r : Result Part ℕ) → b ≡ 91 → Reads text base (list_of (items_in (drop (at + 1) text))) r t t' f f'
        → Reads text base (atom_at next (drop at text)) r t t' f f'
    atom_list r q h = reads_of (atom_here ∙ rw q) h

    pub atom_period : (r : Part) → b ≡ 46 → ReadPosition period (at + 1) base r t t' f f'
        → Reads text base (atom_at next (drop at text)) (Ok r) t t' f f'
    atom_period r q h =
        reads_of (atom_here ∙ rw q) (h text (drop (at + 1) text) (place_of_lem text (at + 1) (omega arith)))

    pub atom_escape : (r : Result Part ℕ) → b ≡ 92 → Reads text base (escaped_at (drop (at + 1) text)) r t t' f f'
        → Reads text base (atom_at next (drop at text)) r t t' f f'
    atom_escape r q h = reads_of (atom_here ∙ rw q) h

    module _ (x : b ≢ 91) (y : b ≢ 46) (z : b ≢ 92) where
      pub atom_byte : (r : Part) → is_ordinary b ≡ true → ReadPosition (byte b) (at + 1) base r t t' f f'
          → Reads text base (atom_at next (drop at text)) (Ok r) t t' f f'
      atom_byte r q h =
          reads_of (atom_here ∙ rw (ne_eqb b 91 x, ne_eqb b 46 y, ne_eqb b 92 z, q))
          (h text (drop (at + 1) text) (place_of_lem text (at + 1) (omega arith)))

      pub atom_wrong : is_ordinary b ≡ false → Reads text base (atom_at next (drop at text)) (Err at) t t' f f'
      atom_wrong q =
          fault_read text base at _ t t' f f' (atom_here ∙ rw (ne_eqb b 91 x, ne_eqb b 46 y, ne_eqb b 92 z, q)) (omega arith)

-- ---- a list

pub bracket_found : (text : List ℕ) (at next base s : ℕ) (p : Part) (t t' f f' : List ℕ) → s ≡ only base → ListFound text at s next t t'
    → Positioned next base p f f' → Reads text base (list_of (items_in (drop at text))) (Ok p) t t' f f'
unfolding list_of takes
bracket_found text at next base s p t t' f f' e h q =
    reads_of (ap list_of h.found)
    (position_read (list h.ranges) next base p s f f' t t' (λ b. any (in_range b) h.ranges) e q h.marked (λ b l. refl)
    text (drop next text) (place_of_lem text next h.inside))

pub bracket_fault : (text : List ℕ) (at place base : ℕ) (t t' f : List ℕ) → ListFault text at place
    → Reads text base (list_of (items_in (drop at text))) (Err place) t t' f f
unfolding list_of
bracket_fault text at place base t t' f h =
    fault_read text base place _ t t' f f (ap list_of h.fault) h.inside
