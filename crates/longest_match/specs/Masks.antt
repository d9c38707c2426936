-- The rules that agree on a token (document 02, wish 11), as the bits of a number: bit k, worth 2 to the k, stands for the book's rule
-- number k, from 0.
use Rattle.std.specs.Prelude.{Bool, true, false, List, [], ◌∷◌, map, ℕ, ◌+◌, ◌*◌, ◌^◌, ◌/◌, ◌%◌, eqb}
use Rattle.automaton.specs.Rule.{Rule, matches}
use Rattle.longest_match.specs.Lexer.{Token}

-- a bit that is set where the test holds
abbrev pub bit : Bool → ℕ
bit false = 0
bit true = 1

-- bit number k of a mask
abbrev pub bit_at : ℕ → ℕ → ℕ
bit_at mask k = mask / 2 ^ k % 2

-- The mask of the rules that match the whole of w; `agreeing-bit` (proofs/Agreeing) is the law that bit k is set just where rule number k
-- does.
unfoldable pub agreeing : List Rule → List ℕ → ℕ
agreeing [] w = 0
agreeing (r ∷ rs) w = bit (matches r w) + 2 * agreeing rs w

-- the masks of tokens
abbrev pub masks_of : List Rule → List Token → List ℕ
masks_of rules ts = map (λ (t : Token). agreeing rules t.bytes) ts

-- The same from the lengths of the rules' longest prefixes (Steps): bit k is set where length number k is n.
unfoldable pub mask_of : ℕ → List ℕ → ℕ
mask_of n [] = 0
mask_of n (m ∷ ms) = bit (eqb m n) + 2 * mask_of n ms
