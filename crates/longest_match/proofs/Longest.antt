-- `choose` by lengths, which is the definition, and by growing a byte at a time, which proofs use, are one. Assumes nothing.
use mathlib.Core.Path.{◌≡◌, refl, sym, ◌∙◌}
use mathlib.Core.Option.{Option, none}
use mathlib.Core.List.{List, [], ◌∷◌, ◌++◌, append_assoc}
use Prim.Native.Nat.{ℕ, zero, suc}
use lib.ListN.{length, take, drop}
use Rattle.automaton.specs.Rule.{Rule}
use Rattle.longest_match.specs.Lexer.{Found, or, found, first_match, choose_within, choose}
use Rattle.longest_match.proofs.First.{or_none, or_assoc}

-- w with the most bytes of `after`, at least one, that some rule matches
unfoldable pub grow : List Rule → List ℕ → List ℕ → Option Found
grow rules w [] = none
grow rules w (b ∷ after) =
    or (grow rules (w ++ (b ∷ [])) after) (found (first_match rules (w ++ (b ∷ []))) (w ++ (b ∷ [])) after)

-- `choose_within` behind bytes that are read already
abbrev from : List Rule → List ℕ → ℕ → List ℕ → Option Found
from rules w zero after = none
from rules w (suc n) after = or (found (first_match rules (w ++ take (suc n) after)) (w ++ take (suc n) after) (drop (suc n) after))
    (from rules w n after)

from_cons : (rules : List Rule) (w : List ℕ) (b : ℕ) (after : List ℕ) (n : ℕ)
    → from rules w (suc n) (b ∷ after) ≡ or (from rules (w ++ (b ∷ [])) n after)
    (found (first_match rules (w ++ (b ∷ []))) (w ++ (b ∷ [])) after)
from_cons rules w b after zero = rw or_none
from_cons rules w b after (suc n) = rw (from_cons rules w b after n, or_assoc, append_assoc)

grow-from : (rules : List Rule) (w after : List ℕ) → grow rules w after ≡ from rules w (length after) after
unfolding grow
grow-from rules w [] = refl
grow-from rules w (b ∷ after) = rw (from_cons rules w b after (length after), grow-from rules (w ++ (b ∷ [])) after)

from-within : (rules : List Rule) (n : ℕ) (text : List ℕ) → from rules [] n text ≡ choose_within rules text n
unfolding choose_within
from-within rules zero text = refl
from-within rules (suc n) text = rw (from-within rules n text)

pub choose-grow : (rules : List Rule) (text : List ℕ) → choose rules text ≡ grow rules [] text
unfolding choose
choose-grow rules text = sym (grow-from rules [] text ∙ from-within rules (length text) text)
