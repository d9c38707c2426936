-- What reading answers, and what it notes of the positions that it reads. Positions are numbered from `base` on; those from 64 on are
-- counted and not noted.
use Rattle.std.specs.Prelude.{◌≡◌, Bool, false, ◌&&◌, List, [], ◌∷◌, ℕ, ◌+◌, ◌-◌, ◌<◌, ◌≤◌, eqb, leb, ltb, length, get_or}
use Rattle.std.specs.Prelude.{Result, Ok, Err}
use Rattle.std.specs.Int.Bits.{bit_or}
use Rattle.automaton.specs.Choice.{if}
use Rattle.expression.specs.Expression.{Expression}
use Rattle.expression.specs.Reading.{Parsed, parsed, faulty}
use Rattle.positions.specs.Positions.{size, depth, nullable, takes_at, first, last, follows}
use Rattle.positions.specs.Numbers.{set_of}
use Rattle.position_reader.specs.declared.Part.{Part}

-- ---- positions from base on

-- position q from base on, by its number in the expression
abbrev pub from : ℕ → (ℕ → Bool) → ℕ → Bool
from base test q = leb base q && test (q - base)

-- position p is one of the n from base on
abbrev pub within : ℕ → ℕ → ℕ → Bool
within base n p = leb base p && ltb p (base + n)

-- ---- what stands at a place

-- the place in a text of which this is left
abbrev pub place_of : List ℕ → List ℕ → ℕ
place_of text rest = length text - length rest

unfoldable pub starts_with : ℕ → List ℕ → Bool
starts_with c [] = false
starts_with c (b ∷ t) = eqb b c

-- ---- the answer: a part, or the place of the fault

abbrev pub part_of : List ℕ → ℕ → Expression → List ℕ → Part
part_of text base e rest =
    record {
      at = place_of text rest;
      end = base + size e;
      depth = depth e;
      empty = nullable e;
      first = set_of (from base (first e));
      last = set_of (from base (last e));
    }

unfoldable pub read_of : List ℕ → ℕ → Parsed → Result Part ℕ
read_of text base (parsed e rest) = Ok (part_of text base e rest)
read_of text base (faulty rest) = Err (place_of text rest)

-- ---- what is noted

-- to each byte the positions that take it are added
pub record Taken (base : ℕ) (e : Expression) (takers takers' : List ℕ) : Type 0 where
  pub taken : (b : ℕ) → b < 256 → get_or takers' b 0 ≡ bit_or (get_or takers b 0) (set_of (from base (takes_at e b)))

-- to each position of the expression, below 64, the set that can match the byte after its own
pub record Followed (base : ℕ) (e : Expression) (follow follow' : List ℕ) : Type 0 where
  pub followed : (p : ℕ) → p < 64
      → get_or follow' p 0 ≡ if (within base (size e) p) (set_of (from base (follows e (p - base)))) (get_or follow p 0)

pub record Noted (base : ℕ) (e : Expression) (takers takers' follow follow' : List ℕ) : Type 0 where
  pub taken : Taken base e takers takers'
  pub followed : Followed base e follow follow'

-- what reading comes to, and notes where there is no fault
pub record Reads (text : List ℕ) (base : ℕ) (out : Parsed) (r : Result Part ℕ) (takers takers' follow follow' : List ℕ) : Type 0 where
  pub answer : r ≡ read_of text base out
  pub noted : (e : Expression) (rest : List ℕ) → out ≡ parsed e rest → Noted base e takers takers' follow follow'

-- before it: the place is in the text, and no more positions than bytes have been read
pub record Ready (text : List ℕ) (at base : ℕ) : Type 0 where
  pub inside : at ≤ length text
  pub counted : base ≤ at
