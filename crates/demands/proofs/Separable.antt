-- The words of demand 3 and lexer's `Printable` are one. Assumes nothing.
use mathlib.Core.Path.{◌≡◌, refl, ap, ◌∙◌}
use mathlib.Core.Bool.{Bool, true, false}
use mathlib.Core.Option.{none}
use mathlib.Core.List.{List, [], ◌∷◌, ◌++◌}
use Prim.Native.Nat.{ℕ, ◌+◌, ◌<◌, ◌≤◌}
use native.Mathlib.Omega.{arith}
use lib.ListN.{length, take, length-append}
use lib.Seq.{take-append_seam}
use Rattle.automaton.specs.Rule.{Rule}
use Rattle.automaton.proofs.Tests.{clash}
use Rattle.book.specs.Valid.{Distinct}
use Rattle.longest_match.specs.Lexer.{Token, first_match, extends, join, Printable}
use Rattle.longest_match.proofs.First.{unmatched}
use Rattle.longest_match.proofs.Choosing.{Longer, extends_false, extends_true}
use Rattle.token_list.proofs.Alone.{alone_first, first_alone}
use Rattle.demands.specs.Words.{Unmatched, Separable}
use Rattle.demands.proofs.LongestMatch.{unmatched_none}

-- some beginning behind w is matched, so that it is not so that none is
unmatched_longer : (rules : List Rule) (w after : List ℕ) → Longer rules w after
    → ((n : ℕ) → 0 < n → n ≤ length after → Unmatched rules (w ++ take n after)) → ⊥
unmatched_longer rules w after l h =
    let p = l.first ∷ l.more in
    let s : length after ≡ length p + length l.behind = ap length l.splits ∙ length-append p l.behind in
    let t : take (length p) after ≡ p = ap (take (length p)) l.splits ∙ take-append_seam p l.behind in
    let u = unmatched_none rules (w ++ take (length p) after) (h (length p) (omega arith) (omega arith)) in
    let m : first_match rules (w ++ p) ≡ none = rw t at u in
    clash l.matched (rw m)

unextended : (rules : List Rule) (w after : List ℕ) → ((n : ℕ) → 0 < n → n ≤ length after → Unmatched rules (w ++ take n after))
    → extends rules w after ≡ false
unextended rules w after h = go (extends rules w after) refl
  where
    go : (b : Bool) → extends rules w after ≡ b → b ≡ false
    go false e = refl
    go true e = absurd (unmatched_longer rules w after (extends_true rules w after e) h)

pub separable_printable : (rules : List Rule) (ts : List Token) → Separable rules ts → Printable rules ts
separable_printable rules [] h = tt
separable_printable rules (t ∷ ts) (a, x, h) =
    (alone_first rules t.tag t.bytes a, unextended rules t.bytes (join ts) x, separable_printable rules ts h)

pub printable_separable : (rules : List Rule) (ts : List Token) → Distinct rules → Printable rules ts → Separable rules ts
printable_separable rules [] d h = tt
printable_separable rules (t ∷ ts) d (a, x, h) = (
  first_alone rules t.tag t.bytes d a,
  λ n p l. unmatched rules (t.bytes ++ take n (join ts)) (extends_false rules t.bytes (join ts) x n p l),
  printable_separable rules ts d h,
)
