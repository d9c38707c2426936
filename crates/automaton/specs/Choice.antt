-- Choices that compute, and what holds of every element of a list.
use Rattle.std.specs.Prelude.{Bool, true, false, ◌||◌, List, [], ◌∷◌, ℕ, eqb}

abbrev pub if : {A : Type 0} → Bool → A → A → A
if true a b = a
if false a b = b

abbrev pub All : {A : Type 0} → (A → Type 0) → List A → Type 0
All P [] = Unit {0}
All P (x ∷ xs) = P x × All P xs

abbrev pub any : {A : Type 0} → (A → Bool) → List A → Bool
any f [] = false
any f (x ∷ xs) = f x || any f xs

abbrev pub among : ℕ → List ℕ → Bool
among x ys = any (eqb x) ys
