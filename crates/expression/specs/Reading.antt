-- From a text to the expression that it spells, or to its first fault: the first byte that no right expression has after what stands before
-- it, or the text's end.
use Rattle.std.specs.Prelude.{◌&&◌, ◌||◌, List, [], ◌∷◌, ℕ, zero, suc, ◌+◌, ◌*◌, ◌-◌, eqb, leb, length}
use Rattle.automaton.specs.Choice.{if}
use Rattle.expression.specs.Expression.{Range, byte, period, list}
use Rattle.expression.specs.Expression.{Expression, position, group, union, concat, star, plus, optional}
use Rattle.expression.specs.Spelling.{is_special, is_ordinary, is_listed, Level, alternatives, sequence, piece, atom}

-- ---- a bracket list, behind its [

pub data Item : Type 0 where
  item : Range → List ℕ → Item  -- and what stands behind it
  no_item : List ℕ → Item  -- what is left from the fault on

abbrev pub range_of : ℕ → ℕ → Range
range_of low high = record { low = low; high = high }

-- behind the - of a range
unfoldable pub high_end : ℕ → List ℕ → Item
high_end low [] = no_item []
high_end low (b ∷ t) = if (is_listed b && leb low b) (item (range_of low b) t) (no_item (b ∷ t))

-- behind a byte of a list, which is the low end of a range where a - follows
unfoldable pub low_end : ℕ → List ℕ → Item
low_end low [] = item (range_of low low) []
low_end low (b ∷ t) = if (eqb b 45) (high_end low t) (item (range_of low low) (b ∷ t))

unfoldable pub item_at : List ℕ → Item
item_at [] = no_item []
item_at (b ∷ t) = if (is_listed b) (low_end b t) (no_item (b ∷ t))

pub data Items : Type 0 where
  items : List Range → List ℕ → Items
  no_items : List ℕ → Items

abbrev pub in_front : Range → Items → Items
in_front r (items rs t) = items (r ∷ rs) t
in_front r (no_items t) = no_items t

-- behind an item: the list's end, or another item
unfoldable pub after_item : (List ℕ → Items) → Item → Items
after_item next (no_item t) = no_items t
after_item next (item r []) = no_items []
after_item next (item r (b ∷ t)) = if (eqb b 93) (items (r ∷ []) t) (in_front r (next (b ∷ t)))

-- every item takes a byte, so one step more than there are bytes is enough
unfoldable pub items_from : ℕ → List ℕ → Items
items_from zero t = no_items t
items_from (suc n) t = after_item (items_from n) (item_at t)

abbrev pub items_in : List ℕ → Items
items_in t = items_from (suc (length t)) t

-- ---- an expression

pub data Parsed : Type 0 where
  parsed : Expression → List ℕ → Parsed  -- and what stands behind it
  faulty : List ℕ → Parsed  -- what is left from the fault on

unfoldable pub and_then : Parsed → (Expression → List ℕ → Parsed) → Parsed
and_then (parsed e t) next = next e t
and_then (faulty t) next = faulty t

unfoldable pub list_of : Items → Parsed
list_of (items rs t) = parsed (position (list rs)) t
list_of (no_items t) = faulty t

-- behind a backslash
unfoldable pub escaped_at : List ℕ → Parsed
escaped_at [] = faulty []
escaped_at (b ∷ t) = if (is_special b) (parsed (position (byte b)) t) (faulty (b ∷ t))

-- behind alternatives in parentheses
unfoldable pub closed : Expression → List ℕ → Parsed
closed e [] = faulty []
closed e (b ∷ t) = if (eqb b 41) (parsed (group e) t) (faulty (b ∷ t))

-- an atom; `next` reads alternatives
unfoldable pub atom_at : (List ℕ → Parsed) → List ℕ → Parsed
atom_at next [] = faulty []
atom_at next (b ∷ t) =
    if (eqb b 40) (and_then (next t) closed)
    (if (eqb b 91) (list_of (items_in t))
    (if (eqb b 46) (parsed (position period) t)
    (if (eqb b 92) (escaped_at t)
    (if (is_ordinary b) (parsed (position (byte b)) t)
    (faulty (b ∷ t))))))

-- behind an atom: what it may carry
unfoldable pub repeated : Expression → List ℕ → Parsed
repeated e [] = parsed e []
repeated e (b ∷ t) =
    if (eqb b 42) (parsed (star e) t) (if (eqb b 43) (parsed (plus e) t) (if (eqb b 63) (parsed (optional e) t) (parsed e (b ∷ t))))

-- behind a piece: the sequence's end, or another piece; `next` reads a sequence
unfoldable pub after_piece : (List ℕ → Parsed) → Expression → List ℕ → Parsed
after_piece next e [] = parsed e []
after_piece next e (b ∷ t) =
    if (eqb b 124 || eqb b 41) (parsed e (b ∷ t)) (and_then (next (b ∷ t)) (λ f rest. parsed (concat e f) rest))

-- behind a sequence: another alternative, where a | stands there; `next` reads alternatives
unfoldable pub after_sequence : (List ℕ → Parsed) → Expression → List ℕ → Parsed
after_sequence next e [] = parsed e []
after_sequence next e (b ∷ t) = if (eqb b 124) (and_then (next t) (λ f rest. parsed (union e f) rest)) (parsed e (b ∷ t))

-- in so many steps
unfoldable pub read_from : ℕ → Level → List ℕ → Parsed
read_from zero level t = faulty t
read_from (suc n) alternatives t = and_then (read_from n sequence t) (after_sequence (read_from n alternatives))
read_from (suc n) sequence t = and_then (read_from n piece t) (after_piece (read_from n sequence))
read_from (suc n) piece t = and_then (read_from n atom t) repeated
read_from (suc n) atom t = atom_at (read_from n alternatives) t

-- which are enough: from alternatives to an atom it is four, and an atom takes a byte
abbrev pub rank : Level → ℕ
rank atom = 1
rank piece = 2
rank sequence = 3
rank alternatives = 4

unfoldable pub read_as : Level → List ℕ → Parsed
read_as level t = read_from (4 * length t + rank level) level t

-- ---- a whole text

pub data Reading : Type 0 where
  right : Expression → Reading
  wrong : ℕ → Reading  -- the place of the first fault

unfoldable pub whole : ℕ → Parsed → Reading
whole len (parsed e []) = right e
whole len (parsed e (b ∷ t)) = wrong (len - length (b ∷ t))
whole len (faulty t) = wrong (len - length t)

unfoldable pub read_expression : List ℕ → Reading
read_expression text = whole (length text) (read_as alternatives text)
