-- The states of a rule that is made of an expression (document 02, wish 9). A set of positions is a number, its bit p for position p. Of
-- the positions these numbers are known: the set that can match the first byte, for each position the set that can match the byte after its
-- own (`follow`), and for each byte the set of positions that take it (`takers`).
use Rattle.std.specs.Prelude.{Bool, ◌||◌, List, [], ◌∷◌, ◌++◌, map, ℕ, zero, suc, ◌^◌, ◌/◌, ◌%◌, eqb, leb, ltb, length, get_or}
use Rattle.std.specs.Int.Bits.{bit_and, bit_or}
use Rattle.automaton.specs.Choice.{if, among}

abbrev pub member : ℕ → ℕ → Bool
member p set = eqb (set / 2 ^ p % 2) 1

-- the positions that can match the byte after that of a position of the set which is below n
unfoldable pub after_below : ℕ → List ℕ → ℕ → ℕ
after_below zero follow set = 0
after_below (suc p) follow set = bit_or (after_below p follow set) (if (member p set) (get_or follow p 0) 0)

abbrev pub after : List ℕ → ℕ → ℕ
after follow set = after_below 64 follow set

-- the set that each byte leads to, where the positions of `ahead` can match it
abbrev pub sets_ahead : List ℕ → ℕ → List ℕ
sets_ahead takers ahead = map (bit_and ahead) takers

-- the known sets, and behind them those of a row that are new and not empty, in the row's order
unfoldable pub discover : List ℕ → List ℕ → List ℕ
discover known [] = known
discover known (set ∷ row) = discover (if (eqb set 0 || among set known) known (known ++ (set ∷ []))) row

-- what can match the next byte in state k: state 0 is the start, state k + 1 the known set of that number from 0
abbrev pub ahead_of : ℕ → List ℕ → List ℕ → ℕ → ℕ
ahead_of first follow known zero = first
ahead_of first follow known (suc k) = after follow (get_or known k 0)

-- the sets known once the first k states have been gone through; a state that is not there leads nowhere
unfoldable pub states_after : ℕ → List ℕ → List ℕ → ℕ → List ℕ
states_after first follow takers zero = []
states_after first follow takers (suc k) =
    if (leb k (length (states_after first follow takers k)))
    (discover (states_after first follow takers k) (sets_ahead takers (ahead_of first follow (states_after first follow takers k) k)))
    (states_after first follow takers k)

-- the greatest number of a state; one more is the error state
abbrev pub max_states : ℕ
max_states = 254

-- all sets, where there are not more than that; else too many of them
abbrev pub states : ℕ → List ℕ → List ℕ → List ℕ
states first follow takers = states_after first follow takers (suc max_states)

abbrev pub are_too_many : ℕ → List ℕ → List ℕ → Bool
are_too_many first follow takers = ltb max_states (length (states first follow takers))

-- the number of a state, from 1 on; 0 for the empty set, which leads to no state
unfoldable pub place : ℕ → List ℕ → ℕ
place set [] = 0
place set (x ∷ known) = if (eqb set x) 0 (suc (place set known))

unfoldable pub number_of : List ℕ → ℕ → ℕ
number_of known set = if (eqb set 0) 0 (suc (place set known))

-- where state k leads at each byte
unfoldable pub row_of : ℕ → List ℕ → List ℕ → ℕ → List ℕ
row_of first follow takers k =
    map (number_of (states first follow takers)) (sets_ahead takers (ahead_of first follow (states first follow takers) k))

-- the rows of states below n
unfoldable pub rows_below : ℕ → List ℕ → List ℕ → ℕ → List (List ℕ)
rows_below first follow takers zero = []
rows_below first follow takers (suc k) = rows_below first follow takers k ++ (row_of first follow takers k ∷ [])

abbrev pub rows_of : ℕ → List ℕ → List ℕ → List (List ℕ)
rows_of first follow takers = rows_below first follow takers (suc (length (states first follow takers)))

-- the numbers of the states among the first n sets that have a position in common with `last`
unfoldable pub finals_below : ℕ → List ℕ → ℕ → List ℕ
finals_below last known zero = []
finals_below last known (suc k) = finals_below last known k ++ if (eqb (bit_and (get_or known k 0) last) 0) [] (suc k ∷ [])

-- the final states, rising; the start is one where the expression matches the empty text
unfoldable pub finals_of : ℕ → Bool → List ℕ → List ℕ
finals_of last empty known = if empty (0 ∷ []) [] ++ finals_below last known (length known)
