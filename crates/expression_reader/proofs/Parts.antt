-- What a part becomes by the byte that stands behind it.
use mathlib.Core.Path.{◌≡◌, refl, sym}
use mathlib.Core.Bool.{Bool, true, false, ◌||◌, true≢false}
use mathlib.Core.List.{List, [], ◌∷◌}
use Prim.Native.Nat.{ℕ, ◌+◌}
use borrow.Author.Tests.{eqb-true}
use lib.Dec.{eqb}
use Rattle.position_reader.specs.declared.Part.{Part}
use Rattle.std.specs.Prelude.{Ok, Err}
use Rattle.position_reader.specs.Layers.{starts_with}
use Rattle.expression_reader.specs.Layers.{closed_part, carried_part, made_part, loops}

pub closed_yes : (p : Part) (rest : List ℕ) → starts_with 41 rest ≡ true
    → closed_part p rest ≡ Ok (made_part p (p.depth + 1) p.empty)
unfolding starts_with closed_part
closed_yes p [] h = absurd (true≢false (sym h))
closed_yes p (b ∷ t) h = rw h

pub closed_no : (p : Part) (rest : List ℕ) → starts_with 41 rest ≡ false → closed_part p rest ≡ Err p.at
unfolding starts_with closed_part
closed_no p [] h = refl
closed_no p (b ∷ t) h = rw h

pub carried_question : (p : Part) (rest : List ℕ) → starts_with 63 rest ≡ true → carried_part p rest ≡ made_part p p.depth true
unfolding starts_with carried_part
carried_question p [] h = absurd (true≢false (sym h))
carried_question p (b ∷ t) h = rw (eqb-true b 63 h)

pub question_ends : (rest : List ℕ) → starts_with 63 rest ≡ true → loops rest ≡ false
unfolding starts_with loops
question_ends [] h = absurd (true≢false (sym h))
question_ends (b ∷ t) h = rw (eqb-true b 63 h)

pub carried_loop : (p : Part) (rest : List ℕ) (star : Bool) → loops rest ≡ true → star ≡ starts_with 42 rest
    → carried_part p rest ≡ made_part p p.depth (star || p.empty)
unfolding starts_with carried_part loops
carried_loop p [] star h e = absurd (true≢false (sym h))
carried_loop p (b ∷ t) star h e = go star e
  where
    go : (star : Bool) → star ≡ eqb b 42
        → carried_part p (b ∷ t) ≡ made_part p p.depth (star || p.empty)
    go true e = rw (sym e)
    go false e = let i : eqb b 43 ≡ true = rw (sym e) at h in rw (sym e, i)

pub carried_none : (p : Part) (rest : List ℕ) → starts_with 63 rest ≡ false → loops rest ≡ false → carried_part p rest ≡ p
unfolding starts_with carried_part loops
carried_none p [] h i = refl
carried_none p (b ∷ t) h i = go (eqb b 42) refl (eqb b 43) refl
  where
    go : (s : Bool) → eqb b 42 ≡ s → (u : Bool) → eqb b 43 ≡ u → carried_part p (b ∷ t) ≡ p
    go true e u f = absurd (true≢false (rw e at i))
    go false e true f = absurd (true≢false (rw (e, f) at i))
    go false e false f = rw (e, f, h)
