-- Transitions that wait: the bytes of a chain, and what is let go state by state. Assumes nothing.
use mathlib.Core.Path.{◌≡◌, refl, sym, ap, ◌∙◌}
use mathlib.Core.Bool.{Bool, true, false, ◌&&◌, ◌||◌}
use mathlib.Core.Logic.{◌⊎◌, inl, inr}
use mathlib.Core.List.{List, [], ◌∷◌}
use Prim.Native.Nat.{ℕ, ◌+◌, ◌≤◌, ◌<◌}
use native.Mathlib.Omega.{arith}
use lib.Dec.{eqb}
use lib.ListN.{length, get_or}
use borrow.Author.Tests.{eqb-true, eqb-false}
use Rattle.automaton.specs.Choice.{All, any, among}
use Rattle.automaton.specs.Rule.{Transition, state_count, covers}
use Rattle.automaton.specs.Layers.{edge_start, state_of, low_of, high_of, next_of, edge_at, leaving, Chain}
use Rattle.automaton.proofs.Chains.{At}
use Rattle.automaton.proofs.Tests.{or_true, or_none, and_true, all_map, all_with, any_each, any_some, any-map, all_among, among-all}
use Rattle.table_builder.specs.Layers.{head_in, Built}
use Rattle.byte_set.specs.Layers.{Ranged}
use Rattle.used_bytes.specs.Layers.{queued, Worklist, noted_all, Leading}
use Rattle.used_bytes.specs.Layers.{Marked, MarksAll, Lets, Waits, Free, Releases}
use Rattle.used_bytes.proofs.Marking.{Together, together_next, together_end}
use Rattle.used_bytes.proofs.States.{Passed, all_noted, all-noted-all, all-noted_kept, leaving-all, leaving-from}
use Rattle.used_bytes.proofs.States.{passed_each, queued-all, queued_at}

-- ---- the bytes of a chain

-- the walk along the chain `ts` stands at h
pub record Bytes (tb : List ℕ) (first : ℕ) (ts : List Transition) (before : List Bool) (h : ℕ) (set : List Bool) : Type 0 where
  pub left : List Transition
  pub chain : Chain tb first h left
  pub marked : Together ts before left set

module _ {tb : List ℕ} {first : ℕ} {ts : List Transition} {before : List Bool} {h : ℕ} {set : List Bool}
    (w : Bytes tb first ts before h set) where
  pub bytes_at : 0 < h → At tb first h
  bytes_at pos = go w.left w.chain
    where
      go : (us : List Transition) → Chain tb first h us → At tb first h
      go [] c = absurd (omega arith)
      go (t ∷ us) (l, c) = record { transition = t; link = l }

  pub bytes_next : {next low high : ℕ} {set₁ : List Bool} → 0 < h → next ≡ next_of (edge_at tb h) → low ≡ low_of (edge_at tb h)
      → high ≡ high_of (edge_at tb h) → Ranged low high set set₁ → Bytes tb first ts before next set₁
  bytes_next {next} {set₁ = set₁} pos e p q m = go w.left w.chain w.marked
    where
      go : (us : List Transition) → Chain tb first h us → Together ts before us set → Bytes tb first ts before next set₁
      go [] c k = absurd (omega arith)
      go (t ∷ us) (l, c) k =
          record { left = us; chain = rw e c; marked = together_next k (p ∙ l.edge.low) (q ∙ l.edge.high) m }

  pub bytes_end : h ≡ 0 → MarksAll ts before set
  bytes_end z = go w.left w.chain w.marked
    where
      go : (us : List Transition) → Chain tb first h us → Together ts before us set → MarksAll ts before set
      go [] c k = together_end k
      go (t ∷ us) (l, c) k = let q = l.some in absurd (omega arith)

-- ---- the states of a queue

queued_none : (queue base : List ℕ) → queued queue 0 base ≡ base
unfolding queued
queued_none queue base = refl

-- and all marked states, those of the queue too, for a new queue
queue_done : {bound : ℕ} {marks : List ℕ} {stamp : ℕ} {queue : List ℕ} {n : ℕ} {base : List ℕ} → Worklist bound marks stamp queue n base
    → Worklist bound marks stamp queue 0 (queued queue n base)
queue_done {queue = queue} {n = n} {base = base} w =
    let e : queued queue 0 (queued queue n base) ≡ queued queue n base = queued_none queue (queued queue n base) in
    record {
      within = w.within;
      cells = w.cells;
      slots = w.slots;
      below = rw e w.below;
      same = λ s. rw e (w.same s);
      once = λ s. rw e (w.once s);
      stamps = w.stamps;
    }

-- ---- what waits at a state is let go

-- a byte that is marked, or that of a transition which waits at one of the states
abbrev New : List Transition → List ℕ → List Bool → ℕ → Type 0
New us gs set b = (get_or set b false ≡ true) ⊎ (any (λ (u : Transition). among u.from gs && covers u b) us ≡ true)

-- from the states `gs` and the marks `set`, by what waits at states
pub record Grows (us : List Transition) (gs gs₁ : List ℕ) (set set₁ : List Bool) : Type 0 where
  pub kept : (x : ℕ) → among x gs ≡ true → among x gs₁ ≡ true
  pub led : (f : ℕ → Bool) → All (λ (x : ℕ). f x ≡ true) gs → All (λ (u : Transition). f u.from ≡ true → f u.to ≡ true) us
      → All (λ (x : ℕ). f x ≡ true) gs₁
  pub grown : (b : ℕ) → b < 256 → get_or set b false ≡ true → get_or set₁ b false ≡ true
  pub new : (b : ℕ) → b < 256 → get_or set₁ b false ≡ true → New us gs₁ set b

grows_none : (us : List Transition) (gs : List ℕ) (set : List Bool) → Grows us gs gs set set
grows_none us gs set = record { kept = λ x e. e; led = λ f h k. h; grown = λ b l e. e; new = λ b l e. inl e }

grows_more : {us : List Transition} {gs gs₁ gs₂ : List ℕ} {set set₁ set₂ : List Bool} → Grows us gs gs₁ set set₁
    → Grows us gs₁ gs₂ set₁ set₂ → Grows us gs gs₂ set set₂
grows_more {us} {gs} {gs₁} {gs₂} {set} {set₁} {set₂} p q =
    record {
      kept = λ x e. q.kept x (p.kept x e);
      led = λ f h k. q.led f (p.led f h k) k;
      grown = λ b l e. q.grown b l (p.grown b l e);
      new = λ b l e. both b l (q.new b l e);
    }
  where
    older : (b : ℕ) → New us gs₁ set b → New us gs₂ set b
    older b (inl e) = inl e
    older b (inr e) =
        inr
        (any-map (λ (u : Transition). among u.from gs₁ && covers u b) (λ (u : Transition). among u.from gs₂ && covers u b)
        (λ u z. let h = and_true (among u.from gs₁) (covers u b) z in rw (q.kept u.from h.0, h.1)) us e)

    both : (b : ℕ) → b < 256 → New us gs₂ set₁ b → New us gs₂ set b
    both b l (inl e) = older b (p.new b l e)
    both b l (inr e) = inr e

free_grows : {us : List Transition} {gs gs₁ : List ℕ} {set set₁ : List Bool} → Grows us gs gs₁ set set₁ → (x : ℕ) → Free us gs set x
    → Free us gs₁ set₁ x
free_grows {us} {gs} {gs₁} {set} {set₁} p x =
    all_map (λ (u : Transition). (among u.to gs ≡ true) × Marked set u) (λ (u : Transition). (among u.to gs₁ ≡ true) × Marked set₁ u)
    (λ u h. (p.kept u.to h.0, λ b l e. p.grown b l (h.1 b l e))) (leaving x us)

module _ (us : List Transition) (x : ℕ) (gs gs₁ : List ℕ) (set set₁ : List Bool) (e : gs₁ ≡ noted_all gs (leaving x us))
    (m : MarksAll (leaving x us) set set₁) where
  abbrev ts : List Transition
  ts = leaving x us

  let_free : Free us gs₁ set₁ x
  let_free =
      let a : All (λ (u : Transition). among u.to gs₁ ≡ true) ts = rw e (all_noted gs ts) in
      let b : All (Marked set₁) ts =
      all_map (Passed ts) (Marked set₁) (λ t h b l q. rw (m.marks b l, h (λ (u : Transition). covers u b) q)) ts (passed_each ts) in
      all_with (λ (u : Transition). among u.to gs₁ ≡ true) (Marked set₁) (λ (u : Transition). (among u.to gs₁ ≡ true) × Marked set₁ u)
      (λ u p q. (p, q)) ts a b

  keeps₁ : (y : ℕ) → among y gs ≡ true → among y gs₁ ≡ true
  keeps₁ y q = rw e (all-noted_kept gs ts y q)

  leads₁ : among x gs ≡ true → (f : ℕ → Bool) → All (λ (y : ℕ). f y ≡ true) gs
      → All (λ (u : Transition). f u.from ≡ true → f u.to ≡ true) us → All (λ (u : Transition). f u.to ≡ true) ts
  leads₁ a f h k =
      let i : f x ≡ true = among-all (λ (y : ℕ). f y ≡ true) x gs h a in
      all_with (λ (u : Transition). u.from ≡ x) (λ (u : Transition). f u.from ≡ true → f u.to ≡ true) (λ (u : Transition). f u.to ≡ true)
      (λ u p q. q (rw p i)) ts (leaving-from x us) (leaving-all (λ (u : Transition). f u.from ≡ true → f u.to ≡ true) x us k)

  -- a byte of what waits at x
  abbrev Byte : ℕ → Transition → Bool
  Byte b u = among u.from gs₁ && covers u b

  waits : among x gs ≡ true → (b : ℕ) → any (λ (t : Transition). covers t b) ts ≡ true → any (Byte b) us ≡ true
  waits a b =
      any_some (λ (t : Transition). covers t b) ts
      (all_with (λ (u : Transition). u.from ≡ x) (λ (u : Transition). Byte b u ≡ true → any (Byte b) us ≡ true)
      (λ (u : Transition). covers u b ≡ true → any (Byte b) us ≡ true) (λ u p h q. h (rw (p, keeps₁ x a, q))) ts (leaving-from x us)
      (leaving-all (λ (u : Transition). Byte b u ≡ true → any (Byte b) us ≡ true) x us (any_each (Byte b) us)))

  new₁ : among x gs ≡ true → (b : ℕ) → (c : Bool) → get_or set b false ≡ c → any (λ (t : Transition). covers t b) ts || c ≡ true
      → New us gs₁ set b
  new₁ a b true p q = inl p
  new₁ a b false p q = inr (waits a b (sym (or_none _) ∙ q))

  let_grows : among x gs ≡ true → Grows us gs gs₁ set set₁
  let_grows a =
      record {
        kept = keeps₁;
        led = λ f h k. rw e (all-noted-all (λ (y : ℕ). f y ≡ true) gs ts h (leads₁ a f h k));
        grown = λ b l q. rw (m.marks b l, q, or_true);
        new = λ b l q. new₁ a b (get_or set b false) refl (sym (m.marks b l) ∙ q);
      }

-- ---- the queue of states at which what waits is let go

-- from the states `gs` and the marks `set` on: n are queued, and what waits at the first `next` of them is let go
pub record Releasing (bound : ℕ) (us : List Transition) (stamp : ℕ) (base gs : List ℕ) (set : List Bool) (good₁ queue₁ : List ℕ)
    (set₁ : List Bool) (n next : ℕ) : Type 0 where
  pub worklist : Worklist bound good₁ stamp queue₁ n base
  pub done : next ≤ n
  pub free : (k : ℕ) → k < next → Free us (queued queue₁ n base) set₁ (state_of (get_or queue₁ k 0))
  pub size : length set₁ ≡ 256
  pub grows : Grows us gs (queued queue₁ n base) set set₁

module _ {bound : ℕ} {us : List Transition} {stamp : ℕ} {base gs : List ℕ} {set : List Bool} {good₁ queue₁ : List ℕ}
    {set₁ : List Bool} {n next : ℕ} (w : Releasing bound us stamp base gs set good₁ queue₁ set₁ n next) where
  abbrev gs₁ : List ℕ
  gs₁ = queued queue₁ n base

  pub releasing_below : next < n → state_of (get_or queue₁ next 0) < bound
  releasing_below l = queued_at (λ (x : ℕ). x < bound) queue₁ n base w.worklist.below next l

  -- what waits at the next one is let go
  pub releasing_next : {tb : List ℕ} {first head x : ℕ} {good₂ queue₂ : List ℕ} {n₂ : ℕ} {set₂ : List Bool}
      → next < n → x ≡ state_of (get_or queue₁ next 0)
      → Lets bound tb first head (leaving x us) stamp base queue₁ n set₁ good₂ queue₂ n₂ set₂
      → Releasing bound us stamp base gs set good₂ queue₂ set₂ n₂ (next + 1)
  releasing_next {x = x} {good₂ = good₂} {queue₂} {n₂} {set₂} l e v =
      record {
        worklist = v.follows.worklist;
        done = omega (arith, v.follows.more);
        free = λ k m. go k m (eqb k next) refl;
        size = v.marks.size;
        grows = grows_more w.grows p;
      }
    where
      p : Grows us gs₁ (queued queue₂ n₂ base) set₁ set₂
      p =
          let_grows us x gs₁ (queued queue₂ n₂ base) set₁ set₂ v.follows.states v.marks
          (rw e (queued_at (λ (y : ℕ). among y gs₁ ≡ true) queue₁ n base (all_among gs₁) next l))

      go : (k : ℕ) → k < next + 1 → (c : Bool) → eqb k next ≡ c → Free us (queued queue₂ n₂ base) set₂ (state_of (get_or queue₂ k 0))
      go k m true q =
          let y : k ≡ next = eqb-true k next q in
          let z : x ≡ state_of (get_or queue₂ k 0) = rw (v.follows.kept k (omega arith), y) e in
          rw (← z) (let_free us x gs₁ (queued queue₂ n₂ base) set₁ set₂ v.follows.states v.marks)
      go k m false q =
          let y : k ≡ next → ⊥ = eqb-false k next q in
          rw (v.follows.kept k (omega (arith, w.done))) (free_grows p (state_of (get_or queue₁ k 0)) (w.free k (omega arith)))

-- what waits at s had been let go first, and now none is left
pub releasing_end : {bound : ℕ} {tb : List ℕ} {first head : ℕ} {us : List Transition} {s stamp : ℕ} {base queue : List ℕ}
    {set : List Bool} {good₁ queue₁ : List ℕ} {n₁ : ℕ} {set₁ : List Bool} {good₂ queue₂ : List ℕ} {set₂ : List Bool} {n next : ℕ}
    → Lets bound tb first head (leaving s us) stamp base queue 0 set good₁ queue₁ n₁ set₁
    → Releasing bound us stamp base (queued queue₁ n₁ base) set₁ good₂ queue₂ set₂ n next → n ≤ next → among s base ≡ true
    → Releases bound us s stamp base set good₂ queue₂ set₂
releasing_end {us = us} {s} {stamp} {base} {queue} {set} {good₁} {queue₁} {n₁} {set₁} {good₂} {queue₂} {set₂} {n} {next} v w end a =
    let e : queued queue₁ n₁ base ≡ noted_all base (leaving s us) =
    v.follows.states ∙ ap (λ (fs : List ℕ). noted_all fs (leaving s us)) (queued_none queue base) in
    let f = let_free us s base (queued queue₁ n₁ base) set set₁ e v.marks in
    let g = grows_more (let_grows us s base (queued queue₁ n₁ base) set set₁ e v.marks a) w.grows in
    record {
      states = queued queue₂ n base;
      worklist = queue_done w.worklist;
      kept = g.kept;
      here = free_grows w.grows s f;
      free = queued-all (λ (x : ℕ). (among x base ≡ true) ⊎ Free us (queued queue₂ n base) set₂ x) queue₂ n base
          (all_map (λ (x : ℕ). among x base ≡ true) (λ (x : ℕ). (among x base ≡ true) ⊎ Free us (queued queue₂ n base) set₂ x)
          (λ x q. inl q) base (all_among base))
          (λ k l. inr (w.free k (omega (arith, w.done))));
      led = g.led;
      size = w.size;
      grown = g.grown;
      new = g.new;
    }

-- a state's chain, and that it leads to states
pub waits_chain : {tb rows : List ℕ} {stamp end : ℕ} {us : List Transition} {s h : ℕ} → Built tb rows stamp edge_start end [] us
    → s < state_count → h ≡ head_in rows stamp s → Chain tb edge_start h (leaving s us)
waits_chain {s = s} k l e = rw e (k.chains s l)

pub waits_leading : {bound : ℕ} {tb rows : List ℕ} {stamp s h : ℕ} → Waits bound tb rows stamp → s < bound → h ≡ head_in rows stamp s
    → Leading bound tb h
waits_leading {bound} {s = s} k l e =
    record {
      first = edge_start;
      transitions = leaving s k.transitions;
      chain = waits_chain k.built (omega (arith, k.within)) e;
      below = leaving-all (λ (u : Transition). u.to < bound) s k.transitions k.below;
    }
