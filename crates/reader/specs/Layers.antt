-- What the layers of the code ask and answer between themselves. Nobody needs to believe it: the operations' contracts do not rest on it.
use Rattle.answer.specs.declared.Refusal.{Refusal}
use Rattle.std.specs.Prelude.{Result, Ok, Err}
use Rattle.std.specs.Prelude.{◌≡◌, Bool, false, List, ℕ, ◌+◌, ◌*◌, ◌/◌, ◌<◌, ◌≤◌, length, get_or}
use Rattle.automaton.specs.Rule.{Rule, state_count}
use Rattle.automaton.specs.Layers.{edge_start, count_at, Holds}
use Rattle.book.specs.declared.Book.{Book}
use Rattle.book.specs.Limits.{max_bytes}
use Rattle.book.specs.Draft.{Draft}
use Rattle.book.specs.Layers.{Represents, edge_limit}
use Rattle.reader.specs.declared.Stop.{Stop}
use Rattle.reader.specs.declared.Stop.TheVariants.{Accepted, Narrow}
use Rattle.reader.specs.Reading.{accepted, read_from, read_by, answer}

-- a table as it is lent for a book of so many bytes: with room for what an accepted book needs, and no rule in it
pub record Lent (n : ℕ) (tb : List ℕ) : Type 0 where
  pub head : edge_start ≤ length tb
  pub room : n ≤ max_bytes → edge_start + n / 4 < length tb
  pub empty : count_at tb ≡ 0

-- a table of so many words has room for the rules of a book of n bytes: a word for four of its bytes, and those in front of them; and is no
-- larger than one for any book
pub record Suits (n words : ℕ) : Type 0 where
  pub head : edge_start ≤ words
  pub room : n ≤ max_bytes → edge_start + n / 4 < words
  pub most : words ≤ edge_limit

-- What reading a book leaves: the answer that is defined, and a table that holds the rules of an accepted book. Of the table of a
-- refused book nothing is said.
pub record LoadedBy (strict : Bool) (bytes : List ℕ) (r : Result ℕ Refusal) (tb : List ℕ) : Type 0 where
  pub answered : r ≡ answer (read_by strict bytes)
  pub holds : (rules : List Rule) → read_by strict bytes ≡ accepted rules → Holds tb rules

-- by the ordinary reading
abbrev pub Loaded : List ℕ → Result ℕ Refusal → List ℕ → Type 0
Loaded bytes r tb = LoadedBy false bytes r tb

-- the book's bytes up to `at` have made the draft that the state, the table and the cells hold, and reading from there on decides
pub record Going (strict : Bool) (bytes tb rows : List ℕ) (at : ℕ) (b : Book) : Type 0 where
  pub draft : Draft
  pub steps : ℕ
  pub holds : Represents b tb rows draft
  pub enough : length bytes ≤ at + steps
  pub same : read_by strict bytes ≡ read_from strict steps bytes at draft
  pub few : 4 * b.edges ≤ 4 * edge_start + at
  pub short : length bytes ≤ max_bytes
  pub room : edge_start + length bytes / 4 < length tb

-- why reading stops: the book is answered, or cells are too few for the command at the cursor
abbrev pub Stops : Bool → List ℕ → List ℕ → List ℕ → Result Stop Refusal → Type 0
Stops strict bytes tb rows (Ok (Accepted n)) = LoadedBy strict bytes (Ok n) tb
Stops strict bytes tb rows (Err f) = LoadedBy strict bytes (Err f) tb
Stops strict bytes tb rows (Ok (Narrow cursor b)) = Going strict bytes tb rows cursor.at b × (length rows < state_count)

-- the first n cells are those of `from`
pub record Copied (from to to₁ : List ℕ) (n : ℕ) : Type 0 where
  pub size : length to₁ ≡ length to
  pub copied : (i : ℕ) → i < n → get_or to₁ i 0 ≡ get_or from i 0
  pub kept : (i : ℕ) → n ≤ i → get_or to₁ i 0 ≡ get_or to i 0
