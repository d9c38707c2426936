-- What holds of the elements of a list holds of them in the other order. Assumes nothing.
use mathlib.Core.Path.{◌≡◌, refl, ◌∙◌}
use mathlib.Core.Bool.{Bool, true, false, ◌||◌}
use mathlib.Core.List.{List, [], ◌∷◌, reverse, reverse_aux}
use Rattle.automaton.specs.Choice.{All, any}
use Rattle.automaton.proofs.Tests.{or_true, or_none}

all_aux : {A : Type 0} (P : A → Type 0) (xs ys : List A) → All P xs → All P ys → All P (reverse_aux xs ys)
all_aux P [] ys h k = k
all_aux P (x ∷ xs) ys (p, h) k = all_aux P xs (x ∷ ys) h (p, k)

pub all-reverse : {A : Type 0} (P : A → Type 0) (xs : List A) → All P xs → All P (reverse xs)
all-reverse P xs h = all_aux P xs [] h tt

swap : (a b c : Bool) → b || (a || c) ≡ (a || b) || c
swap true b c = or_true b
swap false b c = refl

any_aux : {A : Type 0} (f : A → Bool) (xs ys : List A) → any f (reverse_aux xs ys) ≡ any f xs || any f ys
any_aux f [] ys = refl
any_aux f (x ∷ xs) ys = any_aux f xs (x ∷ ys) ∙ swap (f x) (any f xs) (any f ys)

pub any-reverse : {A : Type 0} (f : A → Bool) (xs : List A) → any f (reverse xs) ≡ any f xs
any-reverse f xs = any_aux f xs [] ∙ or_none (any f xs)

pub none_of : {A : Type 0} (P : A → Type 0) (f : A → Bool) → ((x : A) → P x → f x ≡ false) → (xs : List A) → All P xs → any f xs ≡ false
none_of P f h [] a = refl
none_of P f h (x ∷ xs) (p, a) = rw (h x p) (none_of P f h xs a)
