-- Each target is the number of a state. Assumes nothing.
use mathlib.Core.Path.{◌≡◌, refl, sym, ap, subst}
use mathlib.Core.Bool.{Bool, true, false}
use mathlib.Core.List.{List, [], ◌∷◌, map}
use Prim.Native.Nat.{ℕ, suc, ◌≤◌, ◌<◌}
use native.Mathlib.Omega.{arith}
use lib.Dec.{leb}
use lib.ListN.{length, length-append}
use borrow.Author.Tests.{leb-true, leb-false}
use Rattle.automaton.specs.Choice.{All}
use Rattle.automaton.proofs.Tests.{all_map}
use Rattle.subsets.specs.States.{sets_ahead, ahead_of, discover, states_after, states, number_of, row_of}
use Rattle.subsets.specs.Layers.{Begins}
use Rattle.subsets.proofs.Reaching.{begins_length, number_more, discover_begins, discover_known, discover_new}
use Rattle.subsets.proofs.Reaching.{states_next, states-all, states-done, ahead_same}

pub all_mapped : {A B : Type 0} (P : B → Type 0) (f : A → B) (xs : List A) → All (λ (x : A). P (f x)) xs → All P (map f xs)
all_mapped P f [] h = tt
all_mapped P f (x ∷ xs) (p, h) = (p, all_mapped P f xs h)

-- the set has the number of a known one, or 0
abbrev pub Known : List ℕ → ℕ → Type 0
Known known set = number_of known set ≤ length known

pub known_more : {known all : List ℕ} → Begins known all → (set : ℕ) → Known known set → Known all set
known_more a set l = omega (arith, number_more a set l, begins_length a)

meets : (known : List ℕ) (set : ℕ) → Known (discover known (set ∷ [])) set
meets known set = go (leb (number_of known set) (length known)) refl
  where
    go : (t : Bool) → leb (number_of known set) (length known) ≡ t
        → number_of (discover known (set ∷ [])) set ≤ length (discover known (set ∷ []))
    go true e =
        let l = leb-true (number_of known set) (length known) e in
        rw (discover_known known set l) l
    go false e =
        let a = discover_new known set (leb-false (number_of known set) (length known) e) in
        rw a.adds (omega (arith, a.numbered, length-append known (set ∷ [])))

-- each set of a row is known once it is gone through
pub row_known : (known row : List ℕ) → All (Known (discover known row)) row
unfolding discover
row_known known [] = tt
row_known known (set ∷ row) =
    let next = discover known (set ∷ []) in
    (known_more (discover_begins next row) set (meets known set), row_known next row)

module _ (first : ℕ) (follow takers : List ℕ) (few : length (states first follow takers) ≤ 254) where
  -- a state that is there is gone through
  pub there : (k : ℕ) → k ≤ length (states first follow takers) → k ≤ length (states_after first follow takers k)
  there k l = go (leb k (length (states_after first follow takers k))) refl
    where
      go : (t : Bool) → leb k (length (states_after first follow takers k)) ≡ t → k ≤ length (states_after first follow takers k)
      go true e = leb-true k (length (states_after first follow takers k)) e
      go false e =
          let m : length (states_after first follow takers k) < k = leb-false k (length (states_after first follow takers k)) e in
          absurd (omega (arith, ap length (states-done first follow takers k (omega arith) m)))

  pub targets_within : (k : ℕ) → k ≤ length (states first follow takers)
      → All (λ (t : ℕ). t ≤ length (states first follow takers)) (row_of first follow takers k)
  unfolding row_of
  targets_within k l =
      let all = states first follow takers in
      let known = states_after first follow takers k in
      let front = states-all first follow takers k (omega arith) in
      let more = states-all first follow takers (suc k) (omega arith) in
      let next = states_next first follow takers k (there k l) in
      let same = ahead_same first follow front k (there k l) in
      let row = sets_ahead takers (ahead_of first follow known k) in
      let met : All (Known (states_after first follow takers (suc k))) row =
      subst (λ (x : List ℕ). All (Known x) row) (sym next) (row_known known row) in
      subst (λ (a : ℕ). All (λ (t : ℕ). t ≤ length all) (map (number_of all) (sets_ahead takers a))) (sym same)
      (all_mapped (λ (t : ℕ). t ≤ length all) (number_of all) row
      (all_map (Known (states_after first follow takers (suc k))) (Known all) (known_more more) row met))
