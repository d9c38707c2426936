-- The steps of a choice on a list of lengths: the greatest of them, and the first place at which a number stands. Assumes nothing.
use mathlib.Core.Path.{◌≡◌, refl, sym, ◌∙◌}
use mathlib.Core.Bool.{Bool, true, false, cond}
use mathlib.Core.List.{List, [], ◌∷◌}
use Prim.Native.Nat.{ℕ, zero, suc, ◌+◌, ◌<◌, ◌≤◌, max}
use native.Mathlib.Numerals.{add-one}
use native.Mathlib.Omega.{arith, max_cases}
use lib.Dec.{eqb}
use lib.ListN.{length, get_or, drop, drop_of_length-le}
use lib.Seq.{drop-cons}
use Rattle.std.specs.List.{position_or_len}
use Rattle.std.proofs.lemmas.List.Recursion.{is_position_or_len}
use borrow.Author.Tests.{eqb-true, eqb-false, eq-eqb, ne_eqb}
use Rattle.automaton.specs.Choice.{if}
use Rattle.longest_match.specs.Steps.{greatest, first_with}

-- ---- the greatest

-- of those from place i on: the one at i, or one behind it
pub greatest_next : (ns : List ℕ) (i : ℕ) → i < length ns → greatest (drop i ns) ≡ max (get_or ns i 0) (greatest (drop (i + 1) ns))
unfolding greatest
greatest_next ns i l = rw (drop-cons ns i 0 l, add-one)

pub greatest-end : (ns : List ℕ) (i : ℕ) → length ns ≤ i → greatest (drop i ns) ≡ 0
unfolding greatest
greatest-end ns i l = rw (drop_of_length-le ns l)

pub greatest_most : (ns : List ℕ) (k : ℕ) → k < length ns → get_or ns k 0 ≤ greatest ns
unfolding greatest
greatest_most [] k l = absurd (omega arith)
greatest_most (n ∷ ns) zero l = omega arith
greatest_most (n ∷ ns) (suc k) l = omega (arith, greatest_most ns k (omega arith))

pub greatest_least : (ns : List ℕ) (m : ℕ) → ((k : ℕ) → k < length ns → get_or ns k 0 ≤ m) → greatest ns ≤ m
unfolding greatest
greatest_least [] m h = omega arith
greatest_least (n ∷ ns) m h = omega (arith, h 0 (omega arith), greatest_least ns m (λ k l. h (suc k) (omega arith)))

-- it stands somewhere, unless it is 0
pub greatest_stands : (ns : List ℕ) → 0 < greatest ns → (k : ℕ) × (k < length ns) × (get_or ns k 0 ≡ greatest ns)
unfolding greatest
greatest_stands [] p = absurd (omega arith)
greatest_stands (n ∷ ns) p = max_cases n (greatest ns) _
    (λ l e. let s = greatest_stands ns (omega arith) in (suc s.0, omega (arith, s.1), s.2 ∙ sym e))
    (λ l e. (0, omega arith, sym e))

-- ---- the first place

-- of those from place k on
module _ (n : ℕ) (ns : List ℕ) (k : ℕ) where
  pub first_here : k < length ns → get_or ns k 0 ≡ n → first_with n (drop k ns) ≡ 0
  unfolding first_with
  first_here l e = rw (drop-cons ns k 0 l, eq-eqb _ _ e)

  pub first_next : k < length ns → (get_or ns k 0 ≡ n → ⊥) → first_with n (drop k ns) ≡ first_with n (drop (k + 1) ns) + 1
  unfolding first_with
  first_next l e = rw (drop-cons ns k 0 l, ne_eqb _ _ e, add-one k) (sym (add-one _))

  pub first_end : length ns ≤ k → first_with n (drop k ns) ≡ 0
  unfolding first_with
  first_end l = rw (drop_of_length-le ns l)

-- n stands at k, and nowhere before
pub record First (n : ℕ) (ns : List ℕ) (k : ℕ) : Type 0 where
  pub known : k < length ns
  pub here : get_or ns k 0 ≡ n
  pub earlier : (j : ℕ) → j < k → get_or ns j 0 ≡ n → ⊥

-- where n stands somewhere, `first_with` is its first place
pub first_is : (n : ℕ) (ns : List ℕ) (k : ℕ) → k < length ns → get_or ns k 0 ≡ n → First n ns (first_with n ns)
unfolding first_with
first_is n [] k l e = absurd (omega arith)
first_is n (m ∷ ms) k l e = go (eqb m n) refl k l e (first_is n ms)
  where
    go : (b : Bool) → eqb m n ≡ b → (k : ℕ) → k < length (m ∷ ms) → get_or (m ∷ ms) k 0 ≡ n
        → ((k : ℕ) → k < length ms → get_or ms k 0 ≡ n → First n ms (first_with n ms)) → First n (m ∷ ms) (if b 0 (suc (first_with n ms)))
    go true t k l e ih = record { known = omega arith; here = eqb-true m n t; earlier = λ j q. absurd (omega arith) }
    go false t zero l e ih = absurd (eqb-false m n t e)
    go false t (suc k) l e ih =
        let f = ih k (omega arith) e in
        record { known = omega (arith, f.known); here = f.here; earlier = before f }
      where
        before : First n ms (first_with n ms) → (j : ℕ) → j < suc (first_with n ms) → get_or (m ∷ ms) j 0 ≡ n → ⊥
        before f zero q z = eqb-false m n t z
        before f (suc j) q z = f.earlier j (omega arith) z

-- so it is where a search for n ends
pub first_searched : (n : ℕ) (ns : List ℕ) → first_with n ns ≡ position_or_len (λ m. eqb m n) ns
unfolding first_with
first_searched n ns = is_position_or_len (first_with n) (λ m. eqb m n) refl (λ m ms. go (eqb m n) (first_with n ms)) ns
  where
    go : (b : Bool) (k : ℕ) → if b 0 (suc k) ≡ cond b 0 (1 + k)
    go true k = refl
    go false k = omega arith

pub first_within : (n : ℕ) (ns : List ℕ) → first_with n ns ≤ length ns
unfolding first_with
first_within n [] = omega arith
first_within n (m ∷ ms) = go (eqb m n) (first_within n ms)
  where
    go : (b : Bool) → first_with n ms ≤ length ms → if b 0 (suc (first_with n ms)) ≤ suc (length ms)
    go true l = omega arith
    go false l = omega arith

-- the first place of the greatest
pub first-greatest : (ns : List ℕ) → 0 < greatest ns → First (greatest ns) ns (first_with (greatest ns) ns)
first-greatest ns p = let s = greatest_stands ns p in first_is (greatest ns) ns s.0 s.1 s.2

-- where nothing is greater than 0, it is the start
pub first_zero : (ns : List ℕ) → greatest ns ≡ 0 → first_with 0 ns ≡ 0
unfolding greatest first_with
first_zero [] e = refl
first_zero (n ∷ ns) e = let z : n ≡ 0 = omega arith in rw (eq-eqb n 0 z)
