-- What reading a position answers at each step, and what it notes. A place in the text stands for what is left from there on.
use Rattle.std.specs.Prelude.{◌≡◌, Bool, true, false, List, ℕ, ◌+◌, ◌<◌, ◌≤◌, eqb, length, get_or, drop}
use Rattle.std.specs.Prelude.{Result, Ok, Err, MatchResult}
use Rattle.std.specs.Int.Bits.{bit_or}
use Rattle.automaton.specs.Choice.{if, any}
use Rattle.expression.specs.Expression.{Range, in_range, Position, position}
use Rattle.expression.specs.Reading.{Item, item, no_item, range_of, items, no_items, items_in, parsed}
use Rattle.positions.specs.Numbers.{set_of}
use Rattle.position_reader.specs.Layers.{place_of, part_of, Followed, Reads}
use Rattle.position_reader.specs.declared.Part.{Part}
use Rattle.position_reader.specs.declared.Item.{Item as ReadItem}
use Rattle.position_reader.specs.declared.ListStep.{ListStep}
use Rattle.position_reader.specs.declared.ListStep.TheVariants.{More, Closed}

-- the set of one position
abbrev pub only : ℕ → ℕ
only n = set_of (λ (p : ℕ). eqb p n)

-- to each byte that passes the test the set is added
pub record Marked (test : ℕ → Bool) (set : ℕ) (takers takers' : List ℕ) : Type 0 where
  pub marked : (b : ℕ) → b < 256 → get_or takers' b 0 ≡ if (test b) (bit_or (get_or takers b 0) set) (get_or takers b 0)

-- ---- a bracket list

-- an item, and the place behind it, which is not before `from`
pub record ItemFound (out : Item) (text : List ℕ) (from low high next : ℕ) : Type 0 where
  pub found : out ≡ item (range_of low high) (drop next text)
  pub behind : from ≤ next
  pub inside : next ≤ length text

-- no item, and the place of the fault
pub record ItemFault (out : Item) (text : List ℕ) (place : ℕ) : Type 0 where
  pub fault : out ≡ no_item (drop place text)
  pub inside : place ≤ length text

abbrev pub ItemReads : Item → List ℕ → ℕ → Result ReadItem ℕ → Type 0
ItemReads out text from r = MatchResult r (λ i. ItemFound out text from i.low i.high i.next) (λ place. ItemFault out text place)

-- a list's items, and the place behind its ]
pub record ListFound (text : List ℕ) (at set next : ℕ) (takers takers' : List ℕ) : Type 0 where
  pub ranges : List Range
  pub found : items_in (drop at text) ≡ items ranges (drop next text)
  pub inside : next ≤ length text
  pub marked : Marked (λ b. any (in_range b) ranges) set takers takers'

pub record ListFault (text : List ℕ) (at place : ℕ) : Type 0 where
  pub fault : items_in (drop at text) ≡ no_items (drop place text)
  pub inside : place ≤ length text

abbrev pub ListReads : List ℕ → ℕ → ℕ → List ℕ → List ℕ → Result ℕ ℕ → Type 0
ListReads text at set takers takers' r = MatchResult r (λ next. ListFound text at set next takers takers') (λ place. ListFault text at place)

-- an item has been read, and what reading from `next` on answers is the answer
pub record ListOn (text : List ℕ) (at set next : ℕ) (takers takers' : List ℕ) : Type 0 where
  pub behind : at < next
  pub inside : next ≤ length text
  pub answer : (r : Result ℕ ℕ) (last : List ℕ) → ListReads text next set takers' last r → ListReads text at set takers last r

abbrev pub ListGoes : List ℕ → ℕ → ℕ → List ℕ → List ℕ → ListStep → Type 0
ListGoes text at set takers takers' (More next) = ListOn text at set next takers takers'
ListGoes text at set takers takers' (Closed next) = ListFound text at set next takers takers'

abbrev pub ListSteps : List ℕ → ℕ → ℕ → List ℕ → List ℕ → Result ListStep ℕ → Type 0
ListSteps text at set takers takers' r = MatchResult r (ListGoes text at set takers takers') (λ place. ListFault text at place)

-- what stands behind an item
abbrev pub Behind : List ℕ → ℕ → Result ListStep ℕ → Type 0
Behind text at (Ok (More next)) = (next ≡ at) × (at < length text) × (eqb (get_or text at 0) 93 ≡ false)
Behind text at (Ok (Closed next)) = (next ≡ at + 1) × (at < length text) × (eqb (get_or text at 0) 93 ≡ true)
Behind text at (Err place) = (place ≡ at) × (at ≡ length text)

-- ---- a position

-- the part that is one position, up to `at`; what it takes is noted elsewhere
pub record Positioned (at base : ℕ) (r : Part) (follow follow' : List ℕ) : Type 0 where
  pub part : (text rest : List ℕ) (c : Position) → place_of text rest ≡ at → r ≡ part_of text base (position c) rest
  pub followed : (c : Position) → Followed base (position c) follow follow'

-- position c has been read, up to `at`
abbrev pub ReadPosition : Position → ℕ → ℕ → Part → List ℕ → List ℕ → List ℕ → List ℕ → Type 0
ReadPosition c at base r takers takers' follow follow' =
    (text rest : List ℕ) → place_of text rest ≡ at → Reads text base (parsed (position c) rest) (Ok r) takers takers' follow follow'
