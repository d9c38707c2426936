-- The customer's words for the numbers of the sets (document 02, wish 9): the sets that strings lead to are numbered by the shortest, then
-- lowest, string that leads to them; and what it means that there are too many.
use Rattle.std.specs.Prelude.{◌≡◌, true, List, [], ◌∷◌, ℕ, suc, ◌<◌, length, get_or}
use Rattle.std.specs.Int.Bits.{bit_and}
use Rattle.automaton.specs.Choice.{All, among}
use Rattle.subsets.specs.States.{after, states, max_states, number_of}

-- the set that a string leads to, where the positions of `ahead` can match its first byte; no byte, no set
unfoldable pub set_from : ℕ → List ℕ → List ℕ → List ℕ → ℕ
set_from ahead follow takers [] = 0
set_from ahead follow takers (b ∷ []) = bit_and ahead (get_or takers b 0)
set_from ahead follow takers (b ∷ c ∷ w) = set_from (after follow (bit_and ahead (get_or takers b 0))) follow takers (c ∷ w)

abbrev pub Bytes : List ℕ → Type 0
Bytes w = All (λ (b : ℕ). b < 256) w

-- lower in byte order at the first difference
pub data Lower : List ℕ → List ℕ → Type 0 where
  here : {b c : ℕ} {v w : List ℕ} → b < c → Lower (b ∷ v) (c ∷ w)
  there : {b : ℕ} {v w : List ℕ} → Lower v w → Lower (b ∷ v) (b ∷ w)

-- shorter, or as long and lower
pub data Before (v w : List ℕ) : Type 0 where
  shorter : length v < length w → Before v w
  lower : length v ≡ length w → Lower v w → Before v w

-- each of the sets is one that a string leads to, the strings in their order; no two sets are equal, none is empty
pub record LedTo (first : ℕ) (follow takers : List ℕ) (word : ℕ → List ℕ) : Type 0 where
  pub bytes : (k : ℕ) → k < length (states first follow takers) → Bytes (word k)
  pub leads : (k : ℕ) → k < length (states first follow takers)
      → set_from first follow takers (word k) ≡ get_or (states first follow takers) k 0
  pub rising : (i j : ℕ) → i < j → j < length (states first follow takers) → Before (word i) (word j)
  pub different : (i j : ℕ) → i < j → j < length (states first follow takers)
      → get_or (states first follow takers) i 0 ≡ get_or (states first follow takers) j 0 → ⊥
  pub filled : (k : ℕ) → k < length (states first follow takers) → get_or (states first follow takers) k 0 ≡ 0 → ⊥

-- they are all such sets, and the set of number k + 1 is that of string `word k`, before which no string leads to it
pub record NumberedByStrings (first : ℕ) (follow takers : List ℕ) : Type 0 where
  pub word : ℕ → List ℕ
  pub led : LedTo first follow takers word
  pub number : (k : ℕ) → k < length (states first follow takers)
      → number_of (states first follow takers) (set_from first follow takers (word k)) ≡ suc k
  pub least : (k : ℕ) → k < length (states first follow takers) → (v : List ℕ) → Bytes v
      → set_from first follow takers v ≡ set_from first follow takers (word k) → Before v (word k) → ⊥
  pub all : (v : List ℕ) → Bytes v → (set_from first follow takers v ≡ 0 → ⊥)
      → among (set_from first follow takers v) (states first follow takers) ≡ true

-- strings lead to more different sets that are not empty than there may be states
pub record ManySets (first : ℕ) (follow takers : List ℕ) : Type 0 where
  pub word : ℕ → List ℕ
  pub led : LedTo first follow takers word
  pub many : max_states < length (states first follow takers)
