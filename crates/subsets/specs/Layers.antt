-- What the functions ask and answer: `Explores` for the sets that are reached.
use Rattle.std.specs.Prelude.{◌≡◌, Bool, true, false, Option, Some, None, ℕ, ◌+◌, ◌*◌, ◌≤◌, ◌<◌, length, take, MatchOption}
use mathlib.Core.List.{List, [], ◌∷◌, ◌++◌, map, flatten}
use Rattle.automaton.specs.Choice.{if}
use Rattle.subsets.specs.States.{discover, number_of, max_states, states, are_too_many, rows_of}
use Rattle.subsets.specs.declared.Latest.{Latest}

-- ---- numbering

-- the list starts with these
pub record Begins (front list : List ℕ) : Type 0 where
  pub rest : List ℕ
  pub whole : list ≡ front ++ rest

-- the set that was met last has its number, which is that of a known set or 0
pub record Numbered (sets : List ℕ) (l : Latest) : Type 0 where
  pub within : l.number ≤ l.count
  pub number : l.number ≡ number_of (take l.count sets) l.set

-- a set is met
pub record Learns (entry : List ℕ) (l : Latest) (set : ℕ) (r : Latest) (exit : List ℕ) : Type 0 where
  pub few : r.count ≤ 255
  pub met : r.set ≡ set
  pub latest : Numbered exit r
  pub known : take r.count exit ≡ discover (take l.count entry) (set ∷ [])

-- a row of sets is met, and their numbers, which no set that is found later changes, are the targets
pub record Filled (row entry : List ℕ) (count r : ℕ) (exit targets : List ℕ) : Type 0 where
  pub few : r ≤ max_states
  pub known : take r exit ≡ discover (take count entry) row
  pub written : (all : List ℕ) → Begins (take r exit) all → targets ≡ map (number_of all) row

-- or there are too many
abbrev pub Fills : List ℕ → List ℕ → ℕ → Option ℕ → List ℕ → List ℕ → Type 0
Fills row entry count r exit targets =
    MatchOption r (max_states < length (discover (take count entry) row)) (λ n. Filled row entry count n exit targets)

-- ---- the states

-- all sets are found, and a row of targets for each state
pub record Found (first : ℕ) (follow takers : List ℕ) (n : ℕ) (sets targets : List ℕ) : Type 0 where
  pub enough : are_too_many first follow takers ≡ false
  pub count : n ≡ length (states first follow takers)
  pub known : take n sets ≡ states first follow takers
  pub rows : take (256 * (n + 1)) targets ≡ flatten (rows_of first follow takers)

-- or there are too many
pub record Explores (first : ℕ) (follow takers : List ℕ) (r : Option ℕ) (sets targets : List ℕ) : Type 0 where
  pub found : (n : ℕ) → r ≡ Some n → Found first follow takers n sets targets
  pub many : r ≡ None → are_too_many first follow takers ≡ true

-- ---- the final states

-- where the test holds, the number stands behind the first n
pub record Puts (test : Bool) (number n : ℕ) (entry : List ℕ) (r : ℕ) (exit : List ℕ) : Type 0 where
  pub same : length exit ≡ length entry
  pub few : r ≤ n + 1
  pub front : take r exit ≡ take n entry ++ if test (number ∷ []) []
