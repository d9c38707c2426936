-- What the table and the cells hold while a rule is open. Nobody needs to believe it: the operations' contracts do not rest on it.
use Rattle.std.specs.Prelude.{◌≡◌, Bool, ◌&&◌, ◌⊎◌, List, ℕ, ◌+◌, ◌*◌, ◌/◌, ◌%◌, ◌<◌, ◌≤◌, leb, eqb, length, get_or}
use Rattle.automaton.specs.Choice.{if, among}
use Rattle.automaton.specs.Rule.{Transition, state_count}
use Rattle.automaton.specs.Layers.{edge_start, edge_word, low_of, high_of, next_of, to_of, edge_at, Listed, Chain, leaving}

-- t shares a byte with low to high
abbrev pub shares : ℕ → ℕ → Transition → Bool
shares low high t = leb low t.high && leb t.low high

-- `rows` has cells of states, from state 0 on: the stamp of the rule for which it was written, the head of the state's chain and whether
-- it is final. A cell with another stamp counts as empty, so that a new rule needs no cell cleared, and so does one that is not there.

abbrev pub row_word : ℕ → ℕ → ℕ → ℕ
row_word stamp head final = stamp * 131072 + head * 2 + final

abbrev pub stamp_at : List ℕ → ℕ → ℕ
stamp_at rows s = get_or rows s 0 / 131072

-- the cell of state s in the rule with this stamp: twice the head, plus 1 where the state is final
abbrev pub cell_at : List ℕ → ℕ → ℕ → ℕ
cell_at rows stamp s = if (eqb (stamp_at rows s) stamp) (get_or rows s 0 % 131072) 0

abbrev pub head_in : List ℕ → ℕ → ℕ → ℕ
head_in rows stamp s = cell_at rows stamp s / 2

abbrev pub final_in : List ℕ → ℕ → ℕ → Bool
final_in rows stamp s = eqb (cell_at rows stamp s % 2) 1

-- what the words from first to before end and the cells hold of an open rule
pub record Built (tb rows : List ℕ) (stamp first end : ℕ) (fs : List ℕ) (ts : List Transition) : Type 0 where
  pub start : edge_start ≤ first
  pub room : end ≤ length tb
  pub short : end < 65536
  pub listed : Listed tb first end ts
  pub chains : (s : ℕ) → s < state_count → Chain tb first (head_in rows stamp s) (leaving s ts)
  pub tops : (s : ℕ) → s < state_count → head_in rows stamp s < end
  pub finals : (s : ℕ) → s < state_count → final_in rows stamp s ≡ among s fs

-- the spot of state s in the rule with this stamp
abbrev pub spot_at : List ℕ → ℕ → ℕ → ℕ
spot_at rows stamp s = head_in rows stamp s * 65536 + s * 2 + cell_at rows stamp s % 2

-- a transition's word with the spot of the state to which it leads
abbrev pub settled : List ℕ → ℕ → ℕ → ℕ
settled rows stamp e = edge_word (low_of e) (high_of e) (next_of e) (spot_at rows stamp (to_of e))

-- the words from first to before end are settled, and no other word has changed
pub record Settles (rows : List ℕ) (stamp first end : ℕ) (tb tb₁ : List ℕ) : Type 0 where
  pub same_length : length tb₁ ≡ length tb
  pub inside : (i : ℕ) → first ≤ i → i < end → edge_at tb₁ i ≡ settled rows stamp (edge_at tb i)
  pub outside : (i : ℕ) → (i < first) ⊎ (end ≤ i) → edge_at tb₁ i ≡ edge_at tb i
