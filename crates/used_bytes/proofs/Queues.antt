-- Queues of marked states: one more, those to which a chain leads, and why there is room. Assumes nothing.
use mathlib.Core.Path.{◌≡◌, refl, sym, ◌∙◌}
use mathlib.Core.Bool.{Bool, true, false, ◌||◌}
use mathlib.Core.List.{List, [], ◌∷◌}
use Prim.Native.Nat.{ℕ, zero, suc, ◌+◌, ◌≤◌, ◌<◌}
use native.Mathlib.Omega.{arith}
use native.Mathlib.Numerals.{add-one}
use lib.Dec.{leb, eqb}
use lib.ListN.{length, get_or, set, length-set}
use lib.Seq.{get_or-set_same, get_or-set_other}
use borrow.Author.Tests.{eqb-true, eqb-false, eq-eqb, ne_eqb, leb-true, leb-false}
use Rattle.automaton.specs.Choice.{if, All, among}
use Rattle.automaton.specs.Rule.{Transition, state_count}
use Rattle.automaton.specs.Layers.{state_of, next_of, spot_of, to_of, edge_at, leaving, Chain}
use Rattle.automaton.proofs.Tests.{or_false}
use Rattle.used_bytes.specs.Layers.{hits, queued, Worklist, noted, noted_all, Notes, Linked, Follows}

-- ---- lists in which nothing stands twice

hits_none : (fs : List ℕ) (s : ℕ) → among s fs ≡ false → hits fs s ≡ 0
hits_none [] s e = refl
hits_none (x ∷ fs) s e =
    let p = or_false (eqb s x) _ e in
    let n = eqb-false s x p.0 in
    rw (ne_eqb x s (λ z. n (sym z))) (hits_none fs s p.1)

pub hits_new : (fs : List ℕ) (s : ℕ) → among s fs ≡ false → ((x : ℕ) → hits fs x ≤ 1) → (x : ℕ) → hits (s ∷ fs) x ≤ 1
hits_new fs s e h x = go (eqb s x) refl
  where
    go : (c : Bool) → eqb s x ≡ c → if c (suc (hits fs x)) (hits fs x) ≤ 1
    go true q =
        let y : s ≡ x = eqb-true s x q in
        let z : hits fs x ≡ 0 = rw (← y) (hits_none fs s e) in
        omega arith
    go false q = h x

-- how often the numbers below n stand in the list
abbrev spread : List ℕ → ℕ → ℕ
spread fs zero = 0
spread fs (suc n) = hits fs n + spread fs n

spread-past : (x : ℕ) (fs : List ℕ) (n : ℕ) → n ≤ x → spread (x ∷ fs) n ≡ spread fs n
spread-past x fs zero l = refl
spread-past x fs (suc n) l = rw (ne_eqb x n (λ z. omega arith), spread-past x fs n (omega arith))

spread_more : (x : ℕ) (fs : List ℕ) (n : ℕ) → x < n → spread (x ∷ fs) n ≡ suc (spread fs n)
spread_more x fs zero l = absurd (omega arith)
spread_more x fs (suc n) l = go (eqb x n) refl (spread_more x fs n)
  where
    go : (c : Bool) → eqb x n ≡ c → (x < n → spread (x ∷ fs) n ≡ suc (spread fs n))
        → if c (suc (hits fs n)) (hits fs n) + spread (x ∷ fs) n ≡ suc (hits fs n + spread fs n)
    go true q ih =
        let y : x ≡ n = eqb-true x n q in
        let e = spread-past x fs n (omega arith) in
        omega arith
    go false q ih =
        let y : x ≡ n → ⊥ = eqb-false x n q in
        let e = ih (omega arith) in
        omega arith

pub spread-all : (fs : List ℕ) (n : ℕ) → All (λ (s : ℕ). s < n) fs → spread fs n ≡ length fs
spread-all [] n a = none n
  where
    none : (n : ℕ) → spread [] n ≡ 0
    none zero = refl
    none (suc n) = rw (none n)
spread-all (x ∷ fs) n (l, a) = let e = spread-all fs n a in let f = spread_more x fs n l in omega arith

pub spread_most : (fs : List ℕ) (n : ℕ) → ((x : ℕ) → hits fs x ≤ 1) → spread fs n ≤ n
spread_most fs zero h = omega arith
spread_most fs (suc n) h = let e = spread_most fs n h in let f = h n in omega arith

list_most : (fs : List ℕ) (n : ℕ) → All (λ (x : ℕ). x < n) fs → ((x : ℕ) → hits fs x ≤ 1) → length fs ≤ n
list_most fs n a h = let m = spread_most fs n h in let k = spread-all fs n a in omega arith

-- so there is room for what is not in it
room-left : (fs : List ℕ) (s n : ℕ) → s < n → All (λ (x : ℕ). x < n) fs → ((x : ℕ) → hits fs x ≤ 1) → among s fs ≡ false → length fs < n
room-left fs s n l a h e =
    let m = list_most (s ∷ fs) n (l, a) (hits_new fs s e h) in
    omega arith

-- the transitions that leave the states of a list
abbrev pub outgoing : List ℕ → List Transition → ℕ
outgoing [] ts = 0
outgoing (s ∷ fs) ts = length (leaving s ts) + outgoing fs ts

outgoing_none : (fs : List ℕ) → outgoing fs [] ≡ 0
unfolding leaving
outgoing_none [] = refl
outgoing_none (s ∷ fs) = omega (arith, outgoing_none fs)

outgoing_more : (fs : List ℕ) (t : Transition) (ts : List Transition) → outgoing fs (t ∷ ts) ≡ outgoing fs ts + hits fs t.from
unfolding leaving
outgoing_more [] t ts = refl
outgoing_more (s ∷ fs) t ts = go (eqb t.from s) refl (outgoing_more fs t ts)
  where
    go : (c : Bool) → eqb t.from s ≡ c → outgoing fs (t ∷ ts) ≡ outgoing fs ts + hits fs t.from
        → length (if c (t ∷ leaving s ts) (leaving s ts)) + outgoing fs (t ∷ ts) ≡ length (leaving s ts) + outgoing fs ts + hits (s ∷ fs)
        t.from
    go true e ih = rw (eq-eqb s t.from (sym (eqb-true t.from s e))) (omega arith)
    go false e ih = let n = eqb-false t.from s e in rw (ne_eqb s t.from (λ z. n (sym z))) (omega arith)

-- where none stands twice they are no more than there are
pub outgoing_most : (fs : List ℕ) (ts : List Transition) → ((x : ℕ) → hits fs x ≤ 1) → outgoing fs ts ≤ length ts
outgoing_most fs [] h = rw (outgoing_none fs) (omega arith)
outgoing_most fs (t ∷ ts) h = omega (arith, outgoing_more fs t ts, outgoing_most fs ts h, h t.from)

-- ---- one more

queued-set : (queue : List ℕ) (i p : ℕ) (base : List ℕ) (n : ℕ) → n ≤ i → queued (set queue i p) n base ≡ queued queue n base
unfolding queued
queued-set queue i p base zero l = refl
queued-set queue i p base (suc n) l =
    rw (get_or-set_other queue i n p 0 (λ z. omega arith), queued-set queue i p base n (omega arith))

pub queued-length : (queue : List ℕ) (n : ℕ) (base : List ℕ) → length (queued queue n base) ≡ n + length base
unfolding queued
queued-length queue zero base = omega arith
queued-length queue (suc n) base = let e = queued-length queue n base in omega arith

queued_new : (queue : List ℕ) (n p : ℕ) (base : List ℕ) → n < length queue
    → queued (set queue n p) (n + 1) base ≡ state_of p ∷ queued queue n base
unfolding queued
queued_new queue n p base l =
    rw (add-one, get_or-set_same queue n p 0 l, queued-set queue n p base n (omega arith))

-- a queue has room for every state
pub worklist_most : {bound : ℕ} {marks : List ℕ} {stamp : ℕ} {queue : List ℕ} {n : ℕ} {base : List ℕ}
    → Worklist bound marks stamp queue n base → (n ≤ length queue) × (length queue ≤ state_count)
worklist_most {bound} {queue = queue} {n} {base} w = (
  omega (arith, list_most (queued queue n base) bound w.below w.once, queued-length queue n base, w.slots),
  omega (arith, w.slots, w.within),
)

module _ {bound : ℕ} {marks : List ℕ} {stamp : ℕ} {queue : List ℕ} {n : ℕ} {base : List ℕ} (w : Worklist bound marks stamp queue n base)
    (spot s : ℕ) (state : s ≡ state_of spot) where
  abbrev fs : List ℕ
  fs = queued queue n base

  pub notes_old : get_or marks s 0 ≡ stamp → Notes bound stamp base spot marks queue n marks queue n
  notes_old q =
      let e : among s fs ≡ true = sym (w.same s) ∙ eq-eqb _ _ q in
      record {
        worklist = w;
        states = rw (← state, e);
        more = omega arith;
        kept = λ k l. refl;
        new = λ k l m. absurd (omega arith);
      }

  module _ (below : state_of spot < bound) (ne : get_or marks s 0 ≡ stamp → ⊥) where
    inside : s < bound
    inside = omega arith

    new : among s fs ≡ false
    new = sym (w.same s) ∙ ne_eqb _ _ ne

    pub notes_room : n < length queue
    notes_room = omega (arith, room-left fs s bound inside w.below w.once new, queued-length queue n base, w.slots)

    pub notes_new : Notes bound stamp base spot marks queue n (set marks s stamp) (set queue n spot) (n + 1)
    notes_new =
        let q : queued (set queue n spot) (n + 1) base ≡ s ∷ fs = rw state (queued_new queue n spot base notes_room) in
        record {
          worklist = record {
            within = w.within;
            cells = simp length-set w.cells;
            slots = simp length-set w.slots;
            below = rw q (inside, w.below);
            same = λ x. rw q (same₁ x (eqb x s) refl);
            once = λ x. rw q (hits_new fs s new w.once x);
            stamps = λ x. stamps₁ x (eqb x s) refl;
          };
          states = rw (← state, new) q;
          more = omega arith;
          kept = λ k m. get_or-set_other queue n k spot 0 (λ z. omega arith);
          new = λ k m j. let z : k ≡ n = omega arith in rw z (get_or-set_same queue n spot 0 notes_room);
        }
      where
        here : get_or (set marks s stamp) s 0 ≡ stamp
        here = get_or-set_same marks s stamp 0 (omega (arith, w.cells))

        same₁ : (x : ℕ) (c : Bool) → eqb x s ≡ c → eqb (get_or (set marks s stamp) x 0) stamp ≡ c || among x fs
        same₁ x true z = let y : x ≡ s = eqb-true x s z in rw (y, here, eq-eqb stamp stamp refl)
        same₁ x false z = rw (get_or-set_other marks s x stamp 0 (eqb-false x s z)) (w.same x)

        stamps₁ : (x : ℕ) (c : Bool) → eqb x s ≡ c → get_or (set marks s stamp) x 0 ≤ stamp
        stamps₁ x true z = let y : x ≡ s = eqb-true x s z in rw (y, here) (omega arith)
        stamps₁ x false z = rw (get_or-set_other marks s x stamp 0 (eqb-false x s z)) (w.stamps x)

-- ---- the states to which a chain leads

-- a link whose transition leads to a state
pub record Standing (bound : ℕ) (tb : List ℕ) (h : ℕ) : Type 0 where
  pub room : h < length tb
  pub back : next_of (edge_at tb h) < h
  pub to : to_of (edge_at tb h) < bound

pub standing : {bound : ℕ} (tb : List ℕ) (first h : ℕ) (us : List Transition) → 0 < h → Chain tb first h us
    → All (λ (t : Transition). t.to < bound) us → Standing bound tb h
standing tb first h [] pos c b = absurd (omega arith)
standing tb first h (t ∷ us) pos (l, c) (b, bs) = record { room = l.edge.room; back = l.back; to = rw l.edge.to b }

-- the walk along the chain `ts` from `head` stands at h: what is left leads to the states that are still to be noted
pub record Following (bound : ℕ) (tb : List ℕ) (first head : ℕ) (ts : List Transition) (stamp : ℕ) (base queue : List ℕ) (n : ℕ)
    (marks₁ queue₁ : List ℕ) (h n₁ : ℕ) : Type 0 where
  pub left : List Transition
  pub chain : Chain tb first h left
  pub under : h ≤ head
  pub below : All (λ (t : Transition). t.to < bound) ts → All (λ (t : Transition). t.to < bound) left
  pub worklist : Worklist bound marks₁ stamp queue₁ n₁ base
  pub states : noted_all (queued queue₁ n₁ base) left ≡ noted_all (queued queue n base) ts
  pub more : n ≤ n₁
  pub kept : (k : ℕ) → k < n → get_or queue₁ k 0 ≡ get_or queue k 0
  pub new : (k : ℕ) → n ≤ k → k < n₁ → Linked tb first head (get_or queue₁ k 0)

pub following_start : {bound : ℕ} {tb : List ℕ} {first head : ℕ} {ts : List Transition} {marks : List ℕ} {stamp : ℕ} {queue : List ℕ}
    {n : ℕ} {base : List ℕ} → Worklist bound marks stamp queue n base → Chain tb first head ts
    → Following bound tb first head ts stamp base queue n marks queue head n
following_start {ts = ts} w c =
    record {
      left = ts;
      chain = c;
      under = omega arith;
      below = λ a. a;
      worklist = w;
      states = refl;
      more = omega arith;
      kept = λ k l. refl;
      new = λ k l m. absurd (omega arith);
    }

module _ {bound : ℕ} {tb : List ℕ} {first head : ℕ} {ts : List Transition} {stamp : ℕ} {base queue : List ℕ} {n : ℕ}
    {marks₁ queue₁ : List ℕ} {h n₁ : ℕ} (w : Following bound tb first head ts stamp base queue n marks₁ queue₁ h n₁) (pos : 0 < h) where
  pub following_here : All (λ (t : Transition). t.to < bound) ts → Standing bound tb h
  following_here a = standing tb first h w.left pos w.chain (w.below a)

  -- past it
  pub following_next : {next : ℕ} {marks₂ queue₂ : List ℕ} {n₂ : ℕ} → next ≡ next_of (edge_at tb h)
      → Notes bound stamp base (spot_of (edge_at tb h)) marks₁ queue₁ n₁ marks₂ queue₂ n₂
      → Following bound tb first head ts stamp base queue n marks₂ queue₂ next n₂
  following_next {next} {marks₂} {queue₂} {n₂} e v = go w.left w.chain w.below w.states
    where
      go : (us : List Transition) → Chain tb first h us
          → (All (λ (t : Transition). t.to < bound) ts → All (λ (t : Transition). t.to < bound) us)
          → noted_all (queued queue₁ n₁ base) us ≡ noted_all (queued queue n base) ts
          → Following bound tb first head ts stamp base queue n marks₂ queue₂ next n₂
      go [] c b s = absurd (omega arith)
      go (t ∷ us) (l, c) b s =
          let p : queued queue₂ n₂ base ≡ noted (queued queue₁ n₁ base) t.to = rw (← l.edge.to) v.states in
          record {
            left = us;
            chain = rw e c;
            under = omega (arith, l.back, w.under);
            below = λ a. (b a).1;
            worklist = v.worklist;
            states = rw p s;
            more = omega (arith, w.more, v.more);
            kept = λ k m. v.kept k (omega (arith, w.more)) ∙ w.kept k m;
            new = λ k m j. new₁ k m j (leb n₁ k) refl;
          }
        where
          new₁ : (k : ℕ) → n ≤ k → k < n₂ → (b : Bool) → leb n₁ k ≡ b → Linked tb first head (get_or queue₂ k 0)
          new₁ k m j true z =
              record { link = h; above = l.above; below = w.under; spot = v.new k (leb-true n₁ k z) j }
          new₁ k m j false z =
              let q : k < n₁ = leb-false n₁ k z in
              rw (v.kept k q) (w.new k m q)

pub following_end : {bound : ℕ} {tb : List ℕ} {first head : ℕ} {ts : List Transition} {stamp : ℕ} {base queue : List ℕ} {n : ℕ}
    {marks₁ queue₁ : List ℕ} {h n₁ : ℕ} → Following bound tb first head ts stamp base queue n marks₁ queue₁ h n₁ → h ≡ 0
    → Follows bound tb first head ts stamp base queue n marks₁ queue₁ n₁
following_end {bound} {tb} {first} {head} {ts} {stamp} {base} {queue} {n} {marks₁} {queue₁} {h} {n₁} w z =
    go w.left w.chain w.states
  where
    go : (us : List Transition) → Chain tb first h us → noted_all (queued queue₁ n₁ base) us ≡ noted_all (queued queue n base) ts
        → Follows bound tb first head ts stamp base queue n marks₁ queue₁ n₁
    go [] c s = record { worklist = w.worklist; states = s; more = w.more; kept = w.kept; new = w.new }
    go (t ∷ us) (l, c) s = let q = l.some in absurd (omega arith)
