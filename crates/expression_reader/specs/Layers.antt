-- What reading a text answers, and what it notes of the positions of the expression.
use Rattle.std.specs.Prelude.{◌≡◌, Bool, true, false, ◌&&◌, ◌||◌, List, [], ◌∷◌, ℕ, ◌+◌, ◌<◌, ◌≤◌, eqb, leb, ltb, length, get_or, drop}
use Rattle.std.specs.Prelude.{Result, Ok, Err}
use Rattle.std.specs.Int.Bits.{bit_or}
use Rattle.automaton.specs.Choice.{if}
use Rattle.expression.specs.Expression.{Expression}
use Rattle.expression.specs.Spelling.{Level}
use Rattle.expression.specs.Reading.{read_as, Reading, right, wrong, read_expression}
use Rattle.positions.specs.Positions.{larger}
use Rattle.positions.specs.Numbers.{member}
use Rattle.position_reader.specs.declared.Part.{Part}
use Rattle.position_reader.specs.Layers.{place_of, part_of, Noted, Reads}

-- ---- what stands behind what has been read

unfoldable pub ends_sequence : List ℕ → Bool
ends_sequence [] = true
ends_sequence (b ∷ t) = eqb b 124 || eqb b 41

-- what is left of a text from some place on
pub record Tail (text rest : List ℕ) : Type 0 where
  pub short : length rest ≤ length text
  pub same : drop (place_of text rest) text ≡ rest

-- ---- what is noted

-- to each position from `from` up to `to` that is in `last` the set `first` is added
pub record Linked (from to last first : ℕ) (follow follow' : List ℕ) : Type 0 where
  pub linked : (p : ℕ) → p < 64
      → get_or follow' p 0 ≡ if (leb from p && (ltb p to && member p last)) (bit_or (get_or follow p 0) first) (get_or follow p 0)

-- ---- what is read

-- of what stands at a place
pub record ReadsAt (level : Level) (text : List ℕ) (at base : ℕ) (r : Result Part ℕ) (takers takers' follow follow' : List ℕ) : Type 0 where
  pub reads : Reads text base (read_as level (drop at text)) r takers takers' follow follow'

-- a whole text
unfoldable pub whole_read : List ℕ → Reading → Result Part ℕ
whole_read text (right e) = Ok (part_of text 0 e [])
whole_read text (wrong place) = Err place

pub record ReadsWhole (text : List ℕ) (r : Result Part ℕ) (takers takers' follow follow' : List ℕ) : Type 0 where
  pub answer : r ≡ whole_read text (read_expression text)
  pub noted : (e : Expression) → read_expression text ≡ right e → Noted 0 e takers takers' follow follow'

-- ---- parts made of parts

abbrev pub widened : Bool → ℕ → ℕ → ℕ
widened flag set other = if flag (bit_or set other) set

-- one behind the other
abbrev pub joined_part : Part → Part → Part
joined_part l r =
    record {
      at = r.at;
      end = r.end;
      depth = larger l.depth r.depth;
      empty = l.empty && r.empty;
      first = widened l.empty l.first r.first;
      last = widened r.empty r.last l.last;
    }

-- one or the other
abbrev pub united_part : Part → Part → Part
united_part l r =
    record {
      at = r.at;
      end = r.end;
      depth = larger l.depth r.depth;
      empty = l.empty || r.empty;
      first = bit_or l.first r.first;
      last = bit_or l.last r.last;
    }

-- with the next place behind it, and this depth and emptiness
abbrev pub made_part : Part → ℕ → Bool → Part
made_part p deep empty =
    record { at = p.at + 1; end = p.end; depth = deep; empty = empty; first = p.first; last = p.last }

-- in parentheses, where this is left of the text
unfoldable pub closed_part : Part → List ℕ → Result Part ℕ
closed_part p [] = Err p.at
closed_part p (b ∷ t) = if (eqb b 41) (Ok (made_part p (p.depth + 1) p.empty)) (Err p.at)

-- with what it carries, where this is left of the text
unfoldable pub carried_part : Part → List ℕ → Part
carried_part p [] = p
carried_part p (b ∷ t) =
    if (eqb b 42) (made_part p p.depth true)
    (if (eqb b 43) (made_part p p.depth p.empty)
    (if (eqb b 63) (made_part p p.depth true) p))

-- a * or a + stands there
unfoldable pub loops : List ℕ → Bool
loops [] = false
loops (b ∷ t) = eqb b 42 || eqb b 43

-- of an atom p that was read: what it carries, and the links of that
pub record Carries (text : List ℕ) (base : ℕ) (p r : Part) (follow follow' : List ℕ) : Type 0 where
  pub answer : r ≡ carried_part p (drop p.at text)
  pub looped : loops (drop p.at text) ≡ true → Linked base p.end p.last p.first follow follow'
  pub kept : loops (drop p.at text) ≡ false → follow' ≡ follow

-- of the part p that was read behind l
pub record Joins (base : ℕ) (l p r : Part) (follow follow' : List ℕ) : Type 0 where
  pub answer : r ≡ joined_part l p
  pub linked : Linked base l.end l.last p.first follow follow'
