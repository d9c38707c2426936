-- `alone_in` is lexer's `Alone`, of rules with distinct tags. Assumes nothing.
use mathlib.Core.Path.{◌≡◌, refl, sym, ap, ◌∙◌}
use mathlib.Core.Bool.{Bool, true, false}
use mathlib.Core.Option.{some}
use mathlib.Core.List.{List, [], ◌∷◌}
use Prim.Native.Nat.{ℕ}
use lib.Dec.{eqb}
use borrow.Author.Tests.{eqb-true, eqb-false}
use Rattle.automaton.specs.Choice.{if, All}
use Rattle.automaton.specs.Rule.{Rule, matches}
use Rattle.automaton.proofs.Tests.{clash}
use Rattle.book.specs.Valid.{Distinct}
use Rattle.longest_match.specs.Lexer.{first_match}
use Rattle.longest_match.proofs.First.{nothing}
use Rattle.token_list.specs.Faults.{alone_in}

-- a token that is alone is found by its tag
pub alone_first : (rules : List Rule) (tag : ℕ) (w : List ℕ) → alone_in rules tag w ≡ true → first_match rules w ≡ some tag
unfolding alone_in first_match
alone_first [] tag w e = clash e refl
alone_first (r ∷ rs) tag w e = go (eqb r.tag tag) refl (matches r w) (alone_first rs tag w) e
  where
    go : (t : Bool) → eqb r.tag tag ≡ t → (m : Bool) → (alone_in rs tag w ≡ true → first_match rs w ≡ some tag)
        → if t m (if m false (alone_in rs tag w)) ≡ true → if m (some r.tag) (first_match rs w) ≡ some tag
    go true q true ih z = ap some (eqb-true r.tag tag q)
    go true q false ih z = clash z refl
    go false q true ih z = clash z refl
    go false q false ih z = ih z

-- no rule behind has this tag
unfound : (rs : List Rule) (tag other : ℕ) (w : List ℕ) → All (λ (q : Rule). eqb q.tag other ≡ false) rs → other ≡ tag → first_match rs w
    ≡ some tag → ⊥
unfolding first_match
unfound [] tag other w h e z = nothing refl z
unfound (r ∷ rs) tag other w (n, h) e z = go (matches r w) (unfound rs tag other w h e) z
  where
    go : (m : Bool) → (first_match rs w ≡ some tag → ⊥) → if m (some r.tag) (first_match rs w) ≡ some tag → ⊥
    go true ih y = let q : r.tag ≡ tag = cc in eqb-false r.tag other n (q ∙ sym e)
    go false ih y = ih y

-- of distinct tags, what is found by its tag is alone
pub first_alone : (rules : List Rule) (tag : ℕ) (w : List ℕ) → Distinct rules → first_match rules w ≡ some tag → alone_in rules tag w ≡ true
unfolding alone_in first_match
first_alone [] tag w d e = nothing refl e
first_alone (r ∷ rs) tag w (h, d) e = go (eqb r.tag tag) refl (matches r w) (first_alone rs tag w d) e
  where
    go : (t : Bool) → eqb r.tag tag ≡ t → (m : Bool) → (first_match rs w ≡ some tag → alone_in rs tag w ≡ true)
        → if m (some r.tag) (first_match rs w) ≡ some tag → if t m (if m false (alone_in rs tag w)) ≡ true
    go true q true ih z = refl
    go true q false ih z = absurd (unfound rs tag r.tag w h (eqb-true r.tag tag q) z)
    go false q true ih z = let y : r.tag ≡ tag = cc in absurd (eqb-false r.tag tag q y)
    go false q false ih z = ih z
