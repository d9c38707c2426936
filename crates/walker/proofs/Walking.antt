-- The walk of a rule by the table: the longest prefix that it matches, and how far it goes. Assumes nothing.
use mathlib.Core.Path.{◌≡◌, refl, sym, ◌∙◌, ap, subst}
use mathlib.Core.Bool.{Bool, true, false, ◌&&◌}
use mathlib.Core.List.{List, [], ◌∷◌}
use Prim.Native.Nat.{ℕ, suc, ◌+◌, ◌<◌, ◌≤◌}
use native.Mathlib.Omega.{arith}
use native.Mathlib.Numerals.{add-one}
use lib.ListN.{length, get_or, take}
use lib.Dec.{ltb, eqb}
use borrow.Author.Count.{below_more}
use borrow.Author.Tests.{leb-true, le-leb, ltb-true, ltb-false, eqb-true, eqb-false}
use Rattle.std.specs.Prelude.{None, Some}
use Rattle.automaton.specs.Choice.{if, any, among}
use Rattle.automaton.specs.Rule.{Transition, Rule, covers, target, walk, longest_within, longest}
use Rattle.automaton.specs.Layers.{state_of, head_of, is_final, low_of, high_of, covers_word, to_of, edge_at, first_of, end_of}
use Rattle.automaton.specs.Layers.{start_of, body_at, leaving, Within, Chain, Spot, Table}
use Rattle.automaton.proofs.Tests.{clash, or_false, and_true}
use Rattle.automaton.proofs.Walks.{walk_more, longest_zero, longest_yes, longest_no, longest-done}
use Rattle.walker.specs.Layers.{pick, Found, Finds, went_to, Goes, Further}

-- the chain of a state leads where the rule does
pub pick-leaving : (s b error : ℕ) (ts : List Transition) → pick (leaving s ts) b error ≡ target ts s b error
unfolding pick leaving target
pick-leaving s b error [] = refl
pick-leaving s b error (t ∷ ts) = go (eqb t.from s) (pick-leaving s b error ts)
  where
    go : (e : Bool) → pick (leaving s ts) b error ≡ target ts s b error
        → pick (if e (t ∷ leaving s ts) (leaving s ts)) b error ≡ if (e && covers t b) t.to (target ts s b error)
    go true ih = rw ih
    go false ih = ih

-- a byte that lies not between those of p leads to the error state
pick_outside : (p b error : ℕ) (ts : List Transition) → Within p ts → covers_word p b ≡ false → pick ts b error ≡ error
unfolding pick
pick_outside p b error [] k h = refl
pick_outside p b error (t ∷ ts) ((l, m), k) h = go (covers t b) refl (pick_outside p b error ts k h)
  where
    go : (e : Bool) → covers t b ≡ e → pick ts b error ≡ error → if e t.to (pick ts b error) ≡ error
    go true e ih =
        let q = and_true _ _ e in
        let x : t.low ≤ b = leb-true _ _ q.0 in
        let y : b ≤ t.high = leb-true _ _ q.1 in
        clash (rw (le-leb (low_of p) b (omega arith), le-leb b (high_of p) (omega arith)) refl) h
    go false e ih = ih

-- the chain of a state that no transition leaves
leaving_none : (s : ℕ) (ts : List Transition) → any (λ (t : Transition). eqb t.from s) ts ≡ false → leaving s ts ≡ []
unfolding leaving
leaving_none s [] h = refl
leaving_none s (t ∷ ts) h = let p = or_false (eqb t.from s) _ h in rw p.0 (leaving_none s ts p.1)

-- ---- how far it goes

-- it stands in its error state after one byte, or there is none
pub goes_one : (r : Rule) (t : List ℕ) → (0 < length t → walk r r.start (take 1 t) ≡ r.error) → Goes r t 1
goes_one r t h = record { some = omega arith; within = omega arith; going = λ k a b. absurd (omega arith); stopped = λ l. h l }

-- which is not further than what was known
pub further_one : (r : Rule) (t : List ℕ) (known : ℕ) → 0 < known → Goes r t 1 → Further r t known known
further_one r t known l g = record { far = 1; goes = g; further = omega arith }

-- ---- the loop of `walk`

-- i bytes are read, the rule stands in the state of the spot or start p, and `best` of them are the longest that it matches; it has not
-- stood in its error state before
pub record Walk (tb : List ℕ) (k : ℕ) (r : Rule) (t : List ℕ) (p best i : ℕ) : Type 0 where
  pub within : i ≤ length t
  pub chain : Chain tb (first_of (body_at tb k)) (head_of p) (leaving (walk r r.start (take i t)) r.transitions)
  pub below : head_of p < end_of (body_at tb k)
  pub most : best ≡ longest_within r t i
  pub state : 0 < i → state_of p ≡ walk r r.start (take i t)
  pub going : (k : ℕ) → k < i → walk r r.start (take k t) ≡ r.error → ⊥

module _ {tb : List ℕ} {k : ℕ} {r : Rule} (table : Table tb k r) where
  pub walk_start : (t : List ℕ) {p : ℕ} → p ≡ start_of (body_at tb k) → Walk tb k r t p 0 0
  unfolding walk
  walk_start t e =
      rw e (record {
        within = omega arith;
        chain = table.start.chain;
        below = table.start.below;
        most = longest_zero r t;
        state = λ l. absurd (omega arith);
        going = λ k l. absurd (omega arith);
      })

  module _ {t : List ℕ} {p best i : ℕ} (w : Walk tb k r t p best i) where
    pub walk_end : length t ≤ i → best ≡ longest r t
    walk_end l =
        let q : i ≡ length t = omega (arith, w.within) in
        w.most ∙ ap (λ (x : ℕ). longest_within r t x) q

    -- something leaves the state, so it is not the error state
    left : 0 < head_of p → walk r r.start (take i t) ≡ r.error → ⊥
    left l e =
        let c : Chain tb (first_of (body_at tb k)) (head_of p) (leaving r.error r.transitions) =
        subst (λ (s : ℕ). Chain tb (first_of (body_at tb k)) (head_of p) (leaving s r.transitions)) e w.chain in
        let z : head_of p ≡ 0 = rw (leaving_none r.error r.transitions table.sound.stays) at c in
        omega arith

    -- where no byte more leads elsewhere than into the error state
    module _ (h : i < length t → walk r r.start (take (i + 1) t) ≡ r.error) where
      one_more : (walk r r.start (take i t) ≡ r.error → ⊥) → Goes r t (i + 1)
      one_more n = record {
        some = omega arith;
        within = omega (arith, w.within);
        going = λ j a. below_more (λ x. walk r r.start (take x t) ≡ r.error → ⊥) i w.going n j;
        stopped = λ l. h (omega arith);
      }

      pub walk_went : Goes r t (went_to r.error p i)
      walk_went = go (ltb 0 (head_of p)) refl (eqb i 0) refl (eqb (state_of p) r.error) refl
        where
          go : (a : Bool) → ltb 0 (head_of p) ≡ a → (b : Bool) → eqb i 0 ≡ b → (d : Bool) → eqb (state_of p) r.error ≡ d
              → Goes r t (if a (i + 1) (if b 1 (if d i (i + 1))))
          go true u b e d f = one_more (left (ltb-true 0 (head_of p) u))
          go false u true e d f =
              let z : i ≡ 0 = eqb-true i 0 e in
              goes_one r t (rw z at h)
          go false u false e true f =
              let z : i ≡ 0 → ⊥ = eqb-false i 0 e in
              record {
                some = omega arith;
                within = omega (arith, w.within);
                going = λ j a b. w.going j b;
                stopped = λ l. sym (w.state (omega arith)) ∙ eqb-true (state_of p) r.error f;
              }
          go false u false e false f =
              let z : i ≡ 0 → ⊥ = eqb-false i 0 e in
              one_more (λ s. eqb-false (state_of p) r.error f (w.state (omega arith) ∙ s))

    module _ (more : i < length t) where
      abbrev here : ℕ
      here = walk r r.start (take i t)

      -- one byte more leads where the chain does
      leads : walk r r.start (take (suc i) t) ≡ pick (leaving here r.transitions) (get_or t i 0) r.error
      leads = walk_more r t i r.start more ∙ sym (pick-leaving here (get_or t i 0) r.error r.transitions)

      stop : walk r r.start (take (suc i) t) ≡ r.error → best ≡ longest r t
      stop q =
          w.most ∙ longest_no r t i (ap (λ (x : ℕ). among x r.finals) q ∙ table.sound.fails)
          ∙ longest-done r table.sound t (suc i) more q

    -- where the chain has no transition for the next byte
    module _ {head : ℕ} (more : i < length t) (h : head ≡ head_of p)
        (f : (first : ℕ) (ts : List Transition) → Chain tb first head ts → Finds tb first head ts (get_or t i 0) None) where
      nowhere : walk r r.start (take (suc i) t) ≡ r.error
      nowhere = leads more ∙ f (first_of (body_at tb k)) (leaving (here more) r.transitions) (rw h w.chain) r.error

      pub walk_over : walk r r.start (take (i + 1) t) ≡ r.error
      walk_over = rw add-one nowhere

      pub walk_nothing : best ≡ longest r t
      walk_nothing = stop more nowhere

    -- where it has
    module _ {head q : ℕ} (more : i < length t) (h : head ≡ head_of p)
        (f : (first : ℕ) (ts : List Transition) → Chain tb first head ts → Finds tb first head ts (get_or t i 0) (Some q)) where
      found : Found tb (first_of (body_at tb k)) (head_of p) (leaving (here more) r.transitions) (get_or t i 0) q
      found = rw (← h) (f (first_of (body_at tb k)) (leaving (here more) r.transitions) (rw h w.chain))

      reached : walk r r.start (take (suc i) t) ≡ to_of (edge_at tb found.link)
      reached = leads more ∙ found.to r.error

      next : Spot tb (first_of (body_at tb k)) (end_of (body_at tb k)) r.finals r.transitions (walk r r.start (take (suc i) t)) q
      next =
          subst (λ (x : ℕ). Spot tb (first_of (body_at tb k)) (end_of (body_at tb k)) r.finals r.transitions (walk r r.start (take (suc i) t)) x)
          (sym found.spot) (rw reached (table.body.spots found.link found.above (omega (arith, found.below, w.below))))

      onward : {best₁ : ℕ} → best₁ ≡ longest_within r t (suc i) → Walk tb k r t q best₁ (i + 1)
      onward e = rw add-one (record {
        within = more;
        chain = next.chain;
        below = next.below;
        most = e;
        state = λ l. next.state;
        going = λ j l. below_more (λ n. walk r r.start (take n t) ≡ r.error → ⊥) i w.going (left (omega (arith, found.below, found.some))) j
            (omega arith);
      })

      pub walk-final : is_final q ≡ true → Walk tb k r t q (i + 1) (i + 1)
      walk-final e = onward (add-one i ∙ longest_yes r t i (sym next.final ∙ e))

      pub walk_other : is_final q ≡ false → Walk tb k r t q best (i + 1)
      walk_other e = onward (w.most ∙ longest_no r t i (sym next.final ∙ e))

  -- a text with no first byte, or with one that lies not between those of the start
  module _ (t : List ℕ) {p : ℕ} (e : p ≡ start_of (body_at tb k)) (h : 0 < length t → covers_word p (get_or t 0 0) ≡ false) where
    outside : 0 < length t → walk r r.start (take 1 t) ≡ r.error
    unfolding walk
    outside more =
        let q : Within p (leaving r.start r.transitions) = rw e table.start.reach in
        leads (walk_start t e) more ∙ pick_outside p (get_or t 0 0) r.error (leaving r.start r.transitions) q (h more)

    pub walk_dismissed : 0 ≡ longest r t
    walk_dismissed = go (ltb 0 (length t)) refl
      where
        go : (c : Bool) → ltb 0 (length t) ≡ c → 0 ≡ longest r t
        go true l = let more = ltb-true 0 (length t) l in stop (walk_start t e) more (outside more)
        go false l = walk_end (walk_start t e) (ltb-false 0 (length t) l)

    -- it stands in its error state behind the first byte
    pub goes_dismissed : Goes r t 1
    goes_dismissed = goes_one r t outside
