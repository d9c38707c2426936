-- What the layers of the code ask and answer between themselves. Nobody needs to believe it: the operations' contracts do not rest on it.
-- One automaton for all five rules: what its states stand for, and its tables. The number of a state is the place of its row in
-- `next_table`, so that a step adds only the class; a row has an entry for each class and seven that are not used.
use Rattle.std.specs.Prelude.{◌≡◌, List, [], ◌∷◌, ℕ, ◌+◌, ◌/◌, ◌%◌, ◌<◌, ◌≤◌, length, get_or, take}
use Rattle.std.proofs.Math.Option.{some as found}
use Rattle.longest_match.specs.Lexer.{choose}
use Rattle.longest_match.specs.Masks.{agreeing}
use Rattle.longest_match.specs.Layers.{front}
use Rattle.builtin.specs.Book.{builtin_rules}
use Rattle.builtin.specs.Classes.{class_at}

-- the place of a row
pub record State (s : ℕ) : Type 0 where
  pub below : s < 256
  pub row : s % 16 ≡ 0

-- no byte leads from `dead` to a match, in `start` nothing is read, and from `accepting` on some rule matches what is read
abbrev pub dead : ℕ
dead = 0

abbrev pub start : ℕ
start = 16

abbrev pub accepting : ℕ
accepting = 160

-- the state of each rule, in book order, where the automaton is in this one
unfoldable pub state_table : List (List ℕ)
state_table =
    -- dead
    (11 ∷ 2 ∷ 2 ∷ 2 ∷ 2 ∷ []) ∷
    -- start
    (0 ∷ 0 ∷ 0 ∷ 0 ∷ 0 ∷ []) ∷
    -- "[d"
    (2 ∷ 2 ∷ 2 ∷ 2 ∷ 2 ∷ []) ∷
    -- "[dd"
    (3 ∷ 2 ∷ 2 ∷ 2 ∷ 2 ∷ []) ∷
    -- "[dd:"
    (4 ∷ 2 ∷ 2 ∷ 2 ∷ 2 ∷ []) ∷
    -- "[dd:d"
    (5 ∷ 2 ∷ 2 ∷ 2 ∷ 2 ∷ []) ∷
    -- "[dd:dd"
    (6 ∷ 2 ∷ 2 ∷ 2 ∷ 2 ∷ []) ∷
    -- "[dd:dd."
    (7 ∷ 2 ∷ 2 ∷ 2 ∷ 2 ∷ []) ∷
    -- "[dd:dd.d"
    (8 ∷ 2 ∷ 2 ∷ 2 ∷ 2 ∷ []) ∷
    -- "[dd:dd.dd"
    (9 ∷ 2 ∷ 2 ∷ 2 ∷ 2 ∷ []) ∷
    -- "["
    (1 ∷ 2 ∷ 2 ∷ 2 ∷ 1 ∷ []) ∷
    -- "]"
    (11 ∷ 2 ∷ 2 ∷ 2 ∷ 1 ∷ []) ∷
    -- a word
    (11 ∷ 1 ∷ 2 ∷ 2 ∷ 2 ∷ []) ∷
    -- blanks
    (11 ∷ 2 ∷ 1 ∷ 2 ∷ 2 ∷ []) ∷
    -- a newline
    (11 ∷ 2 ∷ 2 ∷ 1 ∷ 2 ∷ []) ∷
    -- a timestamp
    (10 ∷ 2 ∷ 2 ∷ 2 ∷ 2 ∷ []) ∷ []

abbrev pub states_of : ℕ → List ℕ
states_of s = get_or state_table (s / 16) []

unfoldable pub next_table : List ℕ
next_table =
    0 ∷ 0 ∷ 0 ∷ 0 ∷ 0 ∷ 0 ∷ 0 ∷ 0 ∷ 0 ∷ 0 ∷ 0 ∷ 0 ∷ 0 ∷ 0 ∷ 0 ∷ 0 ∷
    0 ∷ 208 ∷ 224 ∷ 192 ∷ 160 ∷ 176 ∷ 192 ∷ 192 ∷ 192 ∷ 0 ∷ 0 ∷ 0 ∷ 0 ∷ 0 ∷ 0 ∷ 0 ∷
    0 ∷ 0 ∷ 0 ∷ 48 ∷ 0 ∷ 0 ∷ 0 ∷ 0 ∷ 0 ∷ 0 ∷ 0 ∷ 0 ∷ 0 ∷ 0 ∷ 0 ∷ 0 ∷
    0 ∷ 0 ∷ 0 ∷ 0 ∷ 0 ∷ 0 ∷ 64 ∷ 0 ∷ 0 ∷ 0 ∷ 0 ∷ 0 ∷ 0 ∷ 0 ∷ 0 ∷ 0 ∷
    0 ∷ 0 ∷ 0 ∷ 80 ∷ 0 ∷ 0 ∷ 0 ∷ 0 ∷ 0 ∷ 0 ∷ 0 ∷ 0 ∷ 0 ∷ 0 ∷ 0 ∷ 0 ∷
    0 ∷ 0 ∷ 0 ∷ 96 ∷ 0 ∷ 0 ∷ 0 ∷ 0 ∷ 0 ∷ 0 ∷ 0 ∷ 0 ∷ 0 ∷ 0 ∷ 0 ∷ 0 ∷
    0 ∷ 0 ∷ 0 ∷ 0 ∷ 0 ∷ 0 ∷ 0 ∷ 112 ∷ 0 ∷ 0 ∷ 0 ∷ 0 ∷ 0 ∷ 0 ∷ 0 ∷ 0 ∷
    0 ∷ 0 ∷ 0 ∷ 128 ∷ 0 ∷ 0 ∷ 0 ∷ 0 ∷ 0 ∷ 0 ∷ 0 ∷ 0 ∷ 0 ∷ 0 ∷ 0 ∷ 0 ∷
    0 ∷ 0 ∷ 0 ∷ 144 ∷ 0 ∷ 0 ∷ 0 ∷ 0 ∷ 0 ∷ 0 ∷ 0 ∷ 0 ∷ 0 ∷ 0 ∷ 0 ∷ 0 ∷
    0 ∷ 0 ∷ 0 ∷ 0 ∷ 0 ∷ 240 ∷ 0 ∷ 0 ∷ 0 ∷ 0 ∷ 0 ∷ 0 ∷ 0 ∷ 0 ∷ 0 ∷ 0 ∷
    0 ∷ 0 ∷ 0 ∷ 32 ∷ 0 ∷ 0 ∷ 0 ∷ 0 ∷ 0 ∷ 0 ∷ 0 ∷ 0 ∷ 0 ∷ 0 ∷ 0 ∷ 0 ∷
    0 ∷ 0 ∷ 0 ∷ 0 ∷ 0 ∷ 0 ∷ 0 ∷ 0 ∷ 0 ∷ 0 ∷ 0 ∷ 0 ∷ 0 ∷ 0 ∷ 0 ∷ 0 ∷
    0 ∷ 0 ∷ 0 ∷ 192 ∷ 0 ∷ 0 ∷ 192 ∷ 192 ∷ 192 ∷ 0 ∷ 0 ∷ 0 ∷ 0 ∷ 0 ∷ 0 ∷ 0 ∷
    0 ∷ 208 ∷ 0 ∷ 0 ∷ 0 ∷ 0 ∷ 0 ∷ 0 ∷ 0 ∷ 0 ∷ 0 ∷ 0 ∷ 0 ∷ 0 ∷ 0 ∷ 0 ∷
    0 ∷ 0 ∷ 0 ∷ 0 ∷ 0 ∷ 0 ∷ 0 ∷ 0 ∷ 0 ∷ 0 ∷ 0 ∷ 0 ∷ 0 ∷ 0 ∷ 0 ∷ 0 ∷
    0 ∷ 0 ∷ 0 ∷ 0 ∷ 0 ∷ 0 ∷ 0 ∷ 0 ∷ 0 ∷ 0 ∷ 0 ∷ 0 ∷ 0 ∷ 0 ∷ 0 ∷ 0 ∷ []

-- where a byte leads
abbrev pub next_state : ℕ → ℕ → ℕ
next_state s b = get_or next_table (s + class_at b) 0

-- the tag of the earliest rule that matches what is read, 0 for none
unfoldable pub tag_table : List ℕ
tag_table = 0 ∷ 0 ∷ 0 ∷ 0 ∷ 0 ∷ 0 ∷ 0 ∷ 0 ∷ 0 ∷ 0 ∷ 5 ∷ 5 ∷ 2 ∷ 3 ∷ 4 ∷ 1 ∷ []

abbrev pub tag_at : ℕ → ℕ
tag_at s = get_or tag_table (s / 16) 0

-- the mask of the rules that match what is read; no two of them ever do
unfoldable pub mask_table : List ℕ
mask_table = 0 ∷ 0 ∷ 0 ∷ 0 ∷ 0 ∷ 0 ∷ 0 ∷ 0 ∷ 0 ∷ 0 ∷ 16 ∷ 16 ∷ 2 ∷ 4 ∷ 8 ∷ 1 ∷ []

abbrev pub mask_of_state : ℕ → ℕ
mask_of_state s = get_or mask_table (s / 16) 0

-- each byte of a text from one place up to another leads from s back to s
pub record Stays (s : ℕ) (text : List ℕ) (from to : ℕ) : Type 0 where
  pub further : from ≤ to
  pub within : to ≤ length text
  pub same : (k : ℕ) → from ≤ k → k < to → next_state s (get_or text k 0) ≡ s

-- The longest token at the front of a text has so many bytes, one at least, and s is the state behind them, which has its tag and its mask.
pub record Scanned (text : List ℕ) (s len : ℕ) : Type 0 where
  pub known : State s
  pub some : 0 < len
  pub within : len ≤ length text
  pub chosen : choose builtin_rules text ≡ found (front (tag_at s) len text)
  pub agreed : mask_of_state s ≡ agreeing builtin_rules (take len text)
