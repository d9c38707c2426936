-- The choice of a token in three steps, in the order of section 8.4 of document 004: each rule's longest prefix, the longest of them, the
-- earliest rule that has it. `choose` (Lexer) is what a cut means; `choose-by-steps` (proofs/Picking) is the law that these steps give it.
use Rattle.std.proofs.Math.Option.{Option, none, some}
use Rattle.std.specs.Prelude.{List, [], ◌∷◌, map, ℕ, zero, suc, max, eqb, get_or, take, drop}
use Rattle.automaton.specs.Choice.{if}
use Rattle.automaton.specs.Rule.{Rule, longest}
use Rattle.longest_match.specs.Lexer.{Found, found}

-- Step 1 (8.4, last but one paragraph): the length of the longest prefix that each rule matches, in the order of the book; 0 for none.
abbrev pub prefixes : List Rule → List ℕ → List ℕ
prefixes rules text = map (λ (r : Rule). longest r text) rules

-- Step 2 (8.4, the maximal munch principle): the greatest of them; 0 for none.
unfoldable pub greatest : List ℕ → ℕ
greatest [] = 0
greatest (n ∷ ns) = max n (greatest ns)

-- Step 3 (8.4, the smallest index): the first place at which n stands; how many there are where it stands nowhere.
unfoldable pub first_with : ℕ → List ℕ → ℕ
first_with n [] = 0
first_with n (m ∷ ms) = if (eqb m n) 0 (suc (first_with n ms))

-- the tag of rule number k
abbrev pub tag_at : List Rule → ℕ → ℕ
tag_at rules k = get_or (map (λ (r : Rule). r.tag) rules) k 0

-- the first len bytes as a token of rule number k; none where len is 0
abbrev pub token_of : List Rule → List ℕ → ℕ → ℕ → Option Found
token_of rules text k zero = none
token_of rules text k (suc n) = found (some (tag_at rules k)) (take (suc n) text) (drop (suc n) text)

-- the three steps joined, from the lengths on
abbrev pub pick : List Rule → List ℕ → List ℕ → Option Found
pick rules text ns = token_of rules text (first_with (greatest ns) ns) (greatest ns)

unfoldable pub choose_by_steps : List Rule → List ℕ → Option Found
choose_by_steps rules text = pick rules text (prefixes rules text)
