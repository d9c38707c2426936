-- Where there are not too many states, every set that one of them leads to is known. Assumes nothing.
use mathlib.Core.Path.{◌≡◌, refl, sym, ap, subst, ◌∙◌}
use mathlib.Core.Bool.{Bool, true, false}
use mathlib.Core.List.{List, [], ◌∷◌}
use Prim.Native.Nat.{ℕ, suc, ◌≤◌, ◌<◌}
use native.Mathlib.Omega.{arith}
use lib.Dec.{eqb}
use lib.ListN.{length, get_or}
use borrow.Author.Tests.{ltb-false, eqb-true}
use Rattle.automaton.specs.Choice.{if, All}
use Rattle.automaton.proofs.Tests.{all_map}
use Rattle.subsets.specs.States.{sets_ahead, ahead_of, discover, states_after, max_states, states, are_too_many, place, number_of}
use Rattle.subsets.specs.Layers.{Begins}
use Rattle.subsets.proofs.Reaching.{number_none, number_some, states_next, states-all, ahead_same}
use Rattle.subsets.proofs.Targets.{Known, known_more, row_known, there}

-- ---- a set that has its number

place_at : (set : ℕ) (known : List ℕ) → place set known < length known → get_or known (place set known) 0 ≡ set
unfolding place
place_at set [] l = absurd (omega arith)
place_at set (x ∷ known) l = go (eqb set x) refl l (place_at set known)
  where
    go : (t : Bool) → eqb set x ≡ t → if t 0 (suc (place set known)) < length (x ∷ known)
        → (place set known < length known → get_or known (place set known) 0 ≡ set)
        → get_or (x ∷ known) (if t 0 (suc (place set known))) 0 ≡ set
    go true e l ih = sym (eqb-true set x e)
    go false e l ih = ih (omega arith)

-- it is empty and has number 0, or it stands in the list before the place of its number
pub record Standing (known : List ℕ) (set : ℕ) : Type 0 where
  pub within : number_of known set ≤ length known
  pub none : number_of known set ≡ 0 → set ≡ 0
  pub stands : (n : ℕ) → number_of known set ≡ suc n → get_or known n 0 ≡ set

pub standing : (known : List ℕ) (set : ℕ) → number_of known set ≤ length known → Standing known set
standing known set l = go (eqb set 0) refl
  where
    go : (t : Bool) → eqb set 0 ≡ t → Standing known set
    go true e =
        let z : set ≡ 0 = eqb-true set 0 e in
        let n : number_of known set ≡ 0 = ap (number_of known) z ∙ number_none known in
        record { within = l; none = λ _. z; stands = λ m q. absurd (omega arith) }
    go false e =
        let n : number_of known set ≡ suc (place set known) = number_some known set e in
        record {
          within = l;
          none = λ q. absurd (omega arith);
          stands = λ m q. let p : m ≡ place set known = omega arith in ap (λ (i : ℕ). get_or known i 0) p ∙ place_at set known (omega arith);
        }

-- ---- all states

module _ (firsts : ℕ) (follow takers : List ℕ) (few : are_too_many firsts follow takers ≡ false) where
  abbrev known : List ℕ
  known = states firsts follow takers

  -- those known once the first k states are gone through
  abbrev by : ℕ → List ℕ
  by k = states_after firsts follow takers k

  -- the sets that state k leads to
  abbrev row : ℕ → List ℕ
  row k = sets_ahead takers (ahead_of firsts follow known k)

  pub states_few : length known ≤ max_states
  states_few = ltb-false max_states (length known) few

  pub closed : (k : ℕ) → k ≤ length known → All (Standing known) (row k)
  closed k l =
      let here : k ≤ length (by k) = there firsts follow takers (omega (arith, states_few)) k l in
      let all : Begins (by k) known = states-all firsts follow takers k (omega (arith, states_few)) in
      let next : discover (by k) (row k) ≡ by (suc k) =
      ap (λ (a : ℕ). discover (by k) (sets_ahead takers a)) (ahead_same firsts follow all k here)
      ∙ sym (states_next firsts follow takers k here) in
      all_map (Known (by (suc k))) (Standing known)
      (λ set h. standing known set (known_more (states-all firsts follow takers (suc k) (omega (arith, states_few))) set h)) (row k)
      (subst (λ (x : List ℕ). All (Known x) (row k)) next (row_known (by k) (row k)))
