-- Tests that are computed over a list, and what they show of each element. Assumes nothing.
use mathlib.Core.Path.{◌≡◌, sym, ◌∙◌, subst}
use mathlib.Core.Bool.{Bool, true, ◌&&◌}
use mathlib.Core.List.{List, [], ◌∷◌}
use Prim.Native.Nat.{ℕ, zero, suc, ◌+◌, ◌<◌}
use native.Mathlib.Nat.{add-zero, zero-add, add-suc, suc-add}
use native.Mathlib.Omega.{arith}
use lib.ListN.{length, get_or}
use Rattle.automaton.specs.Choice.{All}
use Rattle.automaton.proofs.Tests.{and_true}

abbrev pub every : {A : Type 0} → (A → Bool) → List A → Bool
every f [] = true
every f (x ∷ xs) = f x && every f xs

pub every-all : {A : Type 0} (f : A → Bool) (xs : List A) → every f xs ≡ true → All (λ (x : A). f x ≡ true) xs
every-all f [] e = tt
every-all f (x ∷ xs) e = let p = and_true (f x) (every f xs) e in (p.0, every-all f xs p.1)

-- what each byte shows of all elements, each element shows of all bytes
pub all_each : {A : Type 0} (P : ℕ → A → Type 0) (xs : List A) → ((b : ℕ) → b < 256 → All (P b) xs)
    → All (λ (x : A). (b : ℕ) → b < 256 → P b x) xs
all_each P [] h = tt
all_each P (x ∷ xs) h = (λ b l. (h b l).0, all_each P xs (λ b l. (h b l).1))

-- the test passes at each entry of a table and its place, the first place being i
abbrev pub entries : {A : Type 0} → (ℕ → A → Bool) → ℕ → List A → Bool
entries f i [] = true
entries f i (x ∷ xs) = f i x && entries f (suc i) xs

module _ {A : Type 0} (f : ℕ → A → Bool) (d : A) where
  entry_from : (xs : List A) (i : ℕ) → entries f i xs ≡ true → (k : ℕ) → k < length xs → f (i + k) (get_or xs k d) ≡ true
  entry_from [] i e k l = absurd (omega arith)
  entry_from (x ∷ xs) i e zero l = rw add-zero (and_true (f i x) (entries f (suc i) xs) e).0
  entry_from (x ∷ xs) i e (suc k) l =
      let p : f (suc i + k) (get_or xs k d) ≡ true = entry_from xs (suc i) (and_true (f i x) (entries f (suc i) xs) e).1 k (omega arith) in
      subst (λ (m : ℕ). f m (get_or xs k d) ≡ true) (suc-add i k ∙ sym (add-suc i k)) p

  pub entry : (xs : List A) → entries f 0 xs ≡ true → (k : ℕ) → k < length xs → f k (get_or xs k d) ≡ true
  entry xs e k l = rw zero-add at (entry_from xs 0 e k l)
