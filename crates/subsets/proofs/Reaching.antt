-- Laws of the sets that are reached: they are only added to, and the number of one that is known stays. Assumes nothing.
use mathlib.Core.Path.{◌≡◌, refl, sym, ap, ◌∙◌}
use mathlib.Core.Bool.{Bool, true, false, ◌||◌}
use mathlib.Core.List.{List, [], ◌∷◌, ◌++◌, append_assoc, append-nil}
use Prim.Native.Nat.{ℕ, zero, suc, ◌+◌, ◌-◌, ◌≤◌, ◌<◌}
use native.Mathlib.Numerals.{unary_clauses}
use native.Mathlib.Omega.{arith}
use lib.Dec.{eqb, leb}
use lib.ListN.{length, get_or, take, drop, length-append, take-append-drop, get_or-append}
use borrow.Author.Tests.{eqb-true, eq-eqb, le-leb, lt-leb}
use Rattle.automaton.specs.Choice.{if, among}
use Rattle.subsets.specs.States.{after, sets_ahead, ahead_of, discover, states_after, states, place, number_of}
use Rattle.subsets.specs.Layers.{Begins}

-- ---- beginnings

pub begins_same : (xs : List ℕ) → Begins xs xs
begins_same xs = record { rest = []; whole = sym (append-nil xs) }

pub begins_to : {xs ys zs : List ℕ} → Begins xs ys → ys ≡ zs → Begins xs zs
begins_to a e = record { rest = a.rest; whole = sym e ∙ a.whole }

pub begins_trans : {xs ys zs : List ℕ} → Begins xs ys → Begins ys zs → Begins xs zs
begins_trans {xs} a b = record {
  rest = a.rest ++ b.rest;
  whole = b.whole ∙ ap (λ (l : List ℕ). l ++ b.rest) a.whole ∙ append_assoc xs a.rest b.rest;
}

pub begins_length : {xs ys : List ℕ} → Begins xs ys → length xs ≤ length ys
begins_length {xs} {ys} a = omega (arith, ap length a.whole, length-append xs a.rest)

pub begins_take : (n : ℕ) (xs : List ℕ) → Begins (take n xs) xs
begins_take n xs = record { rest = drop n xs; whole = sym (take-append-drop n xs) }

-- ---- the number of a set

place_here : (set x : ℕ) (known : List ℕ) → eqb set x ≡ true → place set (x ∷ known) ≡ 0
unfolding place
place_here set x known e = rw e

place_there : (set x : ℕ) (known : List ℕ) → eqb set x ≡ false → place set (x ∷ known) ≡ suc (place set known)
unfolding place
place_there set x known e = rw e

place_nothing : (set : ℕ) → place set [] ≡ 0
unfolding place
place_nothing set = refl

-- a set that stands among the known ones, or does not
record Placed (set : ℕ) (known : List ℕ) : Type 0 where
  within : place set known ≤ length known
  found : place set known < length known → among set known ≡ true
  stays : place set known < length known → (more : List ℕ) → place set (known ++ more) ≡ place set known
  missed : length known ≤ place set known → among set known ≡ false
  added : length known ≤ place set known → place set (known ++ (set ∷ [])) ≡ length known

placed : (set : ℕ) (known : List ℕ) → Placed set known
placed set [] = record {
  within = rw (place_nothing set) (omega arith);
  found = λ l. absurd (omega arith);
  stays = λ l more. absurd (omega arith);
  missed = λ l. refl;
  added = λ l. place_here set set [] (eq-eqb set set refl);
}
placed set (x ∷ known) = go (eqb set x) refl (placed set known)
  where
    go : (t : Bool) → eqb set x ≡ t → Placed set known → Placed set (x ∷ known)
    go true e ih =
        let p : place set (x ∷ known) ≡ 0 = place_here set x known e in
        record {
          within = omega arith;
          found = λ l. rw e;
          stays = λ l more. place_here set x (known ++ more) e ∙ sym p;
          missed = λ l. absurd (omega arith);
          added = λ l. absurd (omega arith);
        }
    go false e ih =
        let p : place set (x ∷ known) ≡ suc (place set known) = place_there set x known e in
        record {
          within = omega (arith, ih.within);
          found = λ l. rw e (ih.found (omega arith));
          stays = λ l more. place_there set x (known ++ more) e ∙ ap suc (ih.stays (omega arith) more) ∙ sym p;
          missed = λ l. rw e (ih.missed (omega arith));
          added = λ l. place_there set x (known ++ (set ∷ [])) e ∙ ap suc (ih.added (omega arith));
        }

pub place-within : (set : ℕ) (known : List ℕ) → place set known ≤ length known
place-within set known = (placed set known).within

pub number_none : (known : List ℕ) → number_of known 0 ≡ 0
unfolding number_of
number_none known = refl

pub number_some : (known : List ℕ) (set : ℕ) → eqb set 0 ≡ false → number_of known set ≡ suc (place set known)
unfolding number_of
number_some known set e = rw e

-- a set that is known, or is empty, keeps its number
pub number_more : {known final : List ℕ} → Begins known final → (set : ℕ) → number_of known set ≤ length known
    → number_of final set ≡ number_of known set
number_more {known} {final} a set l = go (eqb set 0) refl
  where
    go : (t : Bool) → eqb set 0 ≡ t → number_of final set ≡ number_of known set
    go true e = rw (eqb-true set 0 e, number_none final, number_none known)
    go false e =
        let n : number_of known set ≡ suc (place set known) = number_some known set e in
        number_some final set e ∙ ap (λ (l : List ℕ). suc (place set l)) a.whole
        ∙ ap suc ((placed set known).stays (omega arith) a.rest) ∙ sym n

-- ---- discovering

pub discover-append : (known row more : List ℕ) → discover known (row ++ more) ≡ discover (discover known row) more
unfolding discover
discover-append known [] more = refl
discover-append known (set ∷ row) more =
    discover-append (if (eqb set 0 || among set known) known (known ++ (set ∷ []))) row more

pub discover_begins : (known row : List ℕ) → Begins known (discover known row)
unfolding discover
discover_begins known [] = begins_same known
discover_begins known (set ∷ row) = go (eqb set 0 || among set known) (λ more. discover_begins more row)
  where
    go : (t : Bool) → ((more : List ℕ) → Begins more (discover more row)) → Begins known (discover (if t known (known ++ (set ∷ []))) row)
    go true ih = ih known
    go false ih = begins_trans (record { rest = set ∷ []; whole = refl }) (ih (known ++ (set ∷ [])))

-- a set whose number is among those of the known ones adds nothing
pub discover_known : (known : List ℕ) (set : ℕ) → number_of known set ≤ length known → discover known (set ∷ []) ≡ known
unfolding discover
discover_known known set l = go (eqb set 0) refl
  where
    go : (t : Bool) → eqb set 0 ≡ t → discover known (set ∷ []) ≡ known
    go true e = rw e
    go false e =
        let m : among set known ≡ true = (placed set known).found (omega (arith, number_some known set e)) in
        rw (e, m)

-- another is added, and has the next number
pub record Added (known : List ℕ) (set : ℕ) : Type 0 where
  pub next : number_of known set ≡ length known + 1
  pub adds : discover known (set ∷ []) ≡ known ++ (set ∷ [])
  pub numbered : number_of (known ++ (set ∷ [])) set ≡ length known + 1

pub discover_new : (known : List ℕ) (set : ℕ) → length known < number_of known set → Added known set
unfolding discover
discover_new known set l = go (eqb set 0) refl
  where
    go : (t : Bool) → eqb set 0 ≡ t → Added known set
    go true e =
        let n : number_of known set ≡ 0 = rw (eqb-true set 0 e) (number_none known) in
        absurd (omega arith)
    go false e =
        let n : number_of known set ≡ suc (place set known) = number_some known set e in
        let p = placed set known in
        let m : among set known ≡ false = p.missed (omega arith) in
        record {
          next = omega (arith, p.within);
          adds = rw (e, m);
          numbered = omega (arith, number_some (known ++ (set ∷ [])) set e, p.added (omega arith));
        }

-- ---- the sets known after so many states

module _ (first : ℕ) (follow takers : List ℕ) where
  pub states_next : (k : ℕ) → k ≤ length (states_after first follow takers k)
      → states_after first follow takers (suc k)
      ≡ discover (states_after first follow takers k) (sets_ahead takers (ahead_of first follow (states_after first follow takers k) k))
  unfolding states_after
  states_next k l = rw (le-leb k (length (states_after first follow takers k)) l)

  pub states-end : (k : ℕ) → length (states_after first follow takers k) < k
      → states_after first follow takers (suc k) ≡ states_after first follow takers k
  unfolding states_after
  states-end k l = rw (lt-leb k (length (states_after first follow takers k)) l)

  states_begin : (k : ℕ) → Begins (states_after first follow takers k) (states_after first follow takers (suc k))
  unfolding states_after
  states_begin k = go (leb k (length (states_after first follow takers k)))
    where
      go : (t : Bool)
          → Begins (states_after first follow takers k)
          (if t
          (discover (states_after first follow takers k) (sets_ahead takers (ahead_of first follow (states_after first follow takers k) k)))
          (states_after first follow takers k))
      go true = discover_begins _ _
      go false = begins_same _

  states_more : (j k : ℕ) → Begins (states_after first follow takers k) (states_after first follow takers (k + j))
  states_more zero k = simp unary_clauses (begins_same _)
  states_more (suc j) k = simp unary_clauses (begins_trans (states_more j k) (states_begin (k + j)))

  states_stay : (j k : ℕ) → length (states_after first follow takers k) < k
      → states_after first follow takers (k + j) ≡ states_after first follow takers k
  states_stay zero k l = simp unary_clauses
  states_stay (suc j) k l =
      let ih : states_after first follow takers (k + j) ≡ states_after first follow takers k = states_stay j k l in
      simp unary_clauses (states-end (k + j) (rw ih (omega arith)) ∙ ih)

  -- what is reached by 255 states is all
  pub states-all : (k : ℕ) → k ≤ 255 → Begins (states_after first follow takers k) (states first follow takers)
  states-all k l =
      let e : k + (255 - k) ≡ 255 = omega arith in
      begins_to (states_more (255 - k) k) (ap (states_after first follow takers) e)

  pub states-done : (k : ℕ) → k ≤ 255 → length (states_after first follow takers k) < k
      → states first follow takers ≡ states_after first follow takers k
  states-done k l d =
      let e : k + (255 - k) ≡ 255 = omega arith in
      sym (ap (states_after first follow takers) e) ∙ states_stay (255 - k) k d

-- ---- what can match next

pub ahead_same : (first : ℕ) (follow : List ℕ) {xs ys : List ℕ} → Begins xs ys → (k : ℕ) → k ≤ length xs
    → ahead_of first follow ys k ≡ ahead_of first follow xs k
ahead_same first follow a zero l = refl
ahead_same first follow {xs} a (suc k) l =
    ap (after follow) (ap (λ (l : List ℕ). get_or l k 0) a.whole ∙ get_or-append xs a.rest 0 k (omega arith))

pub ahead_next : (first : ℕ) (follow known : List ℕ) (k : ℕ) → (k ≡ 0 → ⊥)
    → ahead_of first follow known k ≡ after follow (get_or known (k - 1) 0)
ahead_next first follow known zero n = absurd (n refl)
ahead_next first follow known (suc k) n = simp unary_clauses
