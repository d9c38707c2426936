-- The states that the start reaches: what the queue holds at the head of the loop. Assumes nothing.
use mathlib.Core.Path.{◌≡◌, refl, ◌∙◌}
use mathlib.Core.Bool.{Bool, true, false}
use mathlib.Core.List.{List, [], ◌∷◌}
use Prim.Native.Nat.{ℕ, ◌+◌, ◌≤◌, ◌<◌}
use native.Mathlib.Omega.{arith}
use lib.Dec.{leb}
use lib.ListN.{length, get_or}
use borrow.Author.Count.{below_more}
use borrow.Author.Tests.{eq-eqb, ne_eqb, leb-true, leb-false}
use Rattle.automaton.specs.Choice.{All, among}
use Rattle.automaton.specs.Rule.{Transition, Rule, leads}
use Rattle.automaton.specs.Layers.{state_of, head_of, first_of, end_of, body_at, leaving, Chain, Spot, Table}
use Rattle.automaton.proofs.Tests.{all_map, among-all}
use Rattle.automaton.proofs.Ways.{leads_here, leads_on, leads_each, leads_keeps}
use Rattle.used_bytes.specs.Layers.{queued, Worklist, noted_all, Notes, Leading, Follows, Unmarked, Reaches}
use Rattle.used_bytes.proofs.States.{all_noted, all-noted-all, all-noted_kept, either_way, leaving-all, leaving_each, leaving_of}
use Rattle.used_bytes.proofs.States.{queued-all, queued_at}

pub unmarked_worklist : {bound : ℕ} {marks : List ℕ} {stamp : ℕ} (queue : List ℕ) → Unmarked bound marks stamp
    → length queue ≡ bound → Worklist bound marks stamp queue 0 []
unfolding queued
unmarked_worklist {marks = marks} {stamp} queue u q =
    record {
      within = u.within;
      cells = u.cells;
      slots = q;
      below = tt;
      same = λ s. ne_eqb (get_or marks s 0) stamp (λ z. omega (arith, u.earlier s));
      once = λ s. omega arith;
      stamps = λ s. omega (arith, u.earlier s);
    }

-- ---- the loop of `reach`

-- n states are reached, and what leaves the first `next` of them leads to such
pub record Reaching (bound : ℕ) (tb : List ℕ) (k : ℕ) (r : Rule) (stamp : ℕ) (marks queue : List ℕ) (n next : ℕ) : Type 0 where
  pub worklist : Worklist bound marks stamp queue n []
  pub spots : (i : ℕ) → i < n → Spot tb (first_of (body_at tb k)) (end_of (body_at tb k)) r.finals r.transitions
      (state_of (get_or queue i 0)) (get_or queue i 0)
  pub start : among r.start (queued queue n []) ≡ true
  pub led : All (λ (s : ℕ). leads r.transitions r.start s ≡ true) (queued queue n [])
  pub done : (i : ℕ) → i < next → All (λ (t : Transition). among t.to (queued queue n []) ≡ true)
      (leaving (state_of (get_or queue i 0)) r.transitions)
  pub within : next ≤ n

module _ {tb : List ℕ} {k : ℕ} {r : Rule} (table : Table tb k r) where
  abbrev first : ℕ
  first = first_of (body_at tb k)

  abbrev end : ℕ
  end = end_of (body_at tb k)

  pub reaching_start : {bound stamp : ℕ} {marks queue marks₁ queue₁ : List ℕ} {n spot : ℕ}
      → Spot tb first end r.finals r.transitions r.start spot → Notes bound stamp [] spot marks queue 0 marks₁ queue₁ n
      → Reaching bound tb k r stamp marks₁ queue₁ n 0
  unfolding queued
  reaching_start {stamp = stamp} {marks} {queue} {marks₁} {queue₁} {n} {spot} p v =
      let e : queued queue₁ n [] ≡ r.start ∷ [] = v.states ∙ rw p.state in
      record {
        worklist = v.worklist;
        spots = λ i l. rw (v.new i (omega arith) l) (rw (← p.state) at p);
        start = rw (e, eq-eqb r.start r.start refl);
        led = rw e (leads_here r.transitions r.start, tt);
        done = λ i l. absurd (omega arith);
        within = omega arith;
      }

  module _ {bound stamp : ℕ} {marks queue : List ℕ} {n next : ℕ} (w : Reaching bound tb k r stamp marks queue n next) where
    -- the next spot of the queue
    module _ (more : next < n) where
      abbrev p : ℕ
      p = get_or queue next 0

      pub reaching_leading : {head : ℕ} → head ≡ head_of (get_or queue next 0) → All (λ (t : Transition). t.to < bound) r.transitions
          → Leading bound tb head
      reaching_leading {head} e a =
          record {
            first = first;
            transitions = leaving (state_of p) r.transitions;
            chain = rw e (w.spots next more).chain;
            below = leaving-all (λ (t : Transition). t.to < bound) (state_of p) r.transitions a;
          }

      module _ {head : ℕ} {marks₁ queue₁ : List ℕ} {n₁ : ℕ} (e : head ≡ head_of (get_or queue next 0))
          (h : (bound : ℕ) (base : List ℕ) → Worklist bound marks stamp queue n base → (first : ℕ) (ts : List Transition)
          → Chain tb first head ts → Follows bound tb first head ts stamp base queue n marks₁ queue₁ n₁) where
        abbrev fs : List ℕ
        fs = queued queue n []

        abbrev us : List Transition
        us = leaving (state_of p) r.transitions

        f : Follows bound tb first head us stamp [] queue n marks₁ queue₁ n₁
        f = h bound [] w.worklist first us (rw e (w.spots next more).chain)

        here : leads r.transitions r.start (state_of p) ≡ true
        here = queued_at (λ s. leads r.transitions r.start s ≡ true) queue n [] w.led next more

        on : All (λ (t : Transition). leads r.transitions r.start t.to ≡ true) us
        on = all_map (λ (t : Transition). (leads r.transitions t.from t.to ≡ true) × (t.from ≡ state_of p))
            (λ (t : Transition). leads r.transitions r.start t.to ≡ true) (λ t q. leads_on r.transitions r.start t.from t.to (rw q.1
            here) q.0) us
            (leaving_of (λ t. leads r.transitions t.from t.to ≡ true) (state_of p) r.transitions (leads_each r.transitions))

        spots₁ : (i : ℕ) → i < n₁ → (c : Bool) → leb n i ≡ c → Spot tb first end r.finals r.transitions
            (state_of (get_or queue₁ i 0)) (get_or queue₁ i 0)
        spots₁ i l true z =
            let q = f.new i (leb-true n i z) l in
            rw q.spot (table.body.spots q.link q.above (omega (arith, q.below, (w.spots next more).below)))
        spots₁ i l false z = let q : i < n = leb-false n i z in rw (f.kept i q) (w.spots i q)

        abbrev Done : ℕ → Type 0
        Done i = All (λ (t : Transition). among t.to (queued queue₁ n₁ []) ≡ true) (leaving (state_of (get_or queue₁ i 0)) r.transitions)

        old : (i : ℕ) → i < next → Done i
        old i l = rw (f.kept i (omega arith), f.states)
            (all_map (λ (t : Transition). among t.to fs ≡ true) (λ (t : Transition). among t.to (noted_all fs us) ≡ true)
            (λ t q. all-noted_kept fs us t.to q) (leaving (state_of (get_or queue i 0)) r.transitions) (w.done i l))

        new : Done next
        new = rw (f.kept next more, f.states) (all_noted fs us)

        pub reaching_next : Reaching bound tb k r stamp marks₁ queue₁ n₁ (next + 1)
        reaching_next =
            record {
              worklist = f.worklist;
              spots = λ i l. spots₁ i l (leb n i) refl;
              start = rw f.states (all-noted_kept fs us r.start w.start);
              led = rw f.states (all-noted-all (λ s. leads r.transitions r.start s ≡ true) fs us w.led on);
              done = below_more Done next old new;
              within = omega (arith, f.more);
            }

    pub reaching_end : n ≤ next → Reaches bound tb k r stamp marks queue n
    reaching_end l =
        record {
          worklist = w.worklist;
          spots = w.spots;
          reached = λ s. either_way _ _ (λ a. among-all (λ x. leads r.transitions r.start x ≡ true) s (queued queue n []) w.led a)
              (λ a. leads_keeps (λ x. among x (queued queue n []) ≡ true) r.transitions closed r.start s a w.start);
        }
      where
        closed : All (λ (t : Transition). among t.from (queued queue n []) ≡ true → among t.to (queued queue n []) ≡ true) r.transitions
        closed = leaving_each (λ t. among t.to (queued queue n []) ≡ true) (queued queue n []) r.transitions
            (λ x a. among-all (λ s. All (λ (t : Transition). among t.to (queued queue n []) ≡ true) (leaving s r.transitions)) x
            (queued queue n [])
            (queued-all (λ s. All (λ (t : Transition). among t.to (queued queue n []) ≡ true) (leaving s r.transitions)) queue n [] tt
            (λ i q. w.done i (omega arith))) a)
