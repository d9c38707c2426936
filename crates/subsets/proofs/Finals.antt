-- The loop of `list_finals`, and that the final states are states. Assumes nothing.
use mathlib.Core.Path.{◌≡◌, refl, sym, ap, ◌∙◌}
use mathlib.Core.Bool.{Bool, true, false, not}
use mathlib.Core.List.{List, [], ◌∷◌, ◌++◌, append_assoc, append-nil}
use Prim.Native.Nat.{ℕ, zero, suc, ◌+◌, ◌≤◌, ◌<◌}
use native.Mathlib.Nat.{le_refl}
use native.Mathlib.Numerals.{add-one}
use native.Mathlib.Omega.{arith}
use lib.Bits.{bit_and}
use lib.Dec.{eqb}
use lib.ListN.{length, get_or, take, set, length-set}
use lib.Seq.{take-suc-set}
use Rattle.automaton.specs.Choice.{if, All}
use Rattle.automaton.proofs.Tests.{all_append}
use Rattle.subsets.specs.Layers.{Puts}
use Rattle.subsets.specs.States.{finals_below, finals_of}

pub puts_one : (test : Bool) (number n : ℕ) (entry : List ℕ) → n < length entry → test ≡ true
    → Puts test number n entry (n + 1) (set entry n number)
puts_one test number n entry l e =
    record { same = length-set entry n number; few = omega arith; front = rw (e, add-one) (take-suc-set entry n number l) }

pub puts_none : (test : Bool) (number n : ℕ) (entry : List ℕ) → test ≡ false → Puts test number n entry n entry
puts_none test number n entry e = record { same = refl; few = omega arith; front = rw (e, append-nil (take n entry)) }

-- the first k sets are gone through, and the finals of them stand at the front
pub record Listing (last : ℕ) (empty : Bool) (sets finals : List ℕ) (n k : ℕ) : Type 0 where
  pub few : n ≤ k + 1
  pub front : take n finals ≡ if empty (0 ∷ []) [] ++ finals_below last sets k

pub listing_start : (last : ℕ) (empty : Bool) (sets : List ℕ) {entry finals : List ℕ} {n : ℕ}
    → Puts empty 0 0 entry n finals → Listing last empty sets finals n 0
unfolding finals_below
listing_start last empty sets p = record { few = p.few; front = p.front ∙ sym (append-nil (if empty (0 ∷ []) [])) }

if_not : {A : Type 0} (t : Bool) (a b : A) → if (not t) a b ≡ if t b a
if_not true a b = refl
if_not false a b = refl

module _ {last : ℕ} {empty : Bool} {sets finals : List ℕ} {n k : ℕ} (w : Listing last empty sets finals n k) where
  pub listing_next : {next : List ℕ} {m : ℕ} → Puts (not (eqb (bit_and (get_or sets k 0) last) 0)) (k + 1) n finals m next
      → Listing last empty sets next m (k + 1)
  unfolding finals_below
  listing_next p = record { few = omega (arith, w.few, p.few); front = p.front ∙ rw (w.front, if_not, add-one, append_assoc) }

  pub listing-end : k ≡ length sets → take n finals ≡ finals_of last empty sets
  unfolding finals_of
  listing-end e = w.front ∙ ap (λ (j : ℕ). if empty (0 ∷ []) [] ++ finals_below last sets j) e

-- ---- each final state is a state

pub finals_within : (last : ℕ) (empty : Bool) (known : List ℕ) → All (λ (f : ℕ). f ≤ length known) (finals_of last empty known)
unfolding finals_of finals_below
finals_within last empty known =
    all_append (λ (f : ℕ). f ≤ length known) (if empty (0 ∷ []) []) (finals_below last known (length known)) (start empty)
    (below (length known) (le_refl (length known)))
  where
    start : (t : Bool) → All (λ (f : ℕ). f ≤ length known) (if t (0 ∷ []) [])
    start true = (omega arith, tt)
    start false = tt

    one : (t : Bool) (k : ℕ) → k < length known → All (λ (f : ℕ). f ≤ length known) (if t [] (suc k ∷ []))
    one true k l = tt
    one false k l = (omega arith, tt)

    below : (k : ℕ) → k ≤ length known → All (λ (f : ℕ). f ≤ length known) (finals_below last known k)
    below zero l = tt
    below (suc k) l =
        all_append (λ (f : ℕ). f ≤ length known) (finals_below last known k) _ (below k (omega arith))
        (one (eqb (bit_and (get_or known k 0) last) 0) k (omega arith))
