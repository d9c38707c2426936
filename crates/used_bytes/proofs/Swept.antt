-- Which reached states lead to a final state: transitions that wait, chains that are gone through, and a state more. Assumes nothing.
use mathlib.Core.Path.{◌≡◌, refl, sym, ◌∙◌}
use mathlib.Core.Bool.{Bool, true, false, ◌&&◌, ◌||◌}
use mathlib.Core.Logic.{◌⊎◌, inl}
use mathlib.Core.List.{List, [], ◌∷◌}
use Prim.Native.Nat.{ℕ, suc, ◌+◌, ◌/◌, ◌%◌, ◌≤◌, ◌<◌}
use native.Mathlib.Omega.{arith}
use lib.Dec.{eqb}
use lib.ListN.{length, get_or, set, length-set}
use lib.Seq.{get_or-set_same, get_or-set_other}
use borrow.Author.Tests.{eqb-true, eqb-false, eq-eqb, ne_eqb}
use Rattle.automaton.specs.Choice.{if, All, any, among}
use Rattle.automaton.specs.Rule.{Transition, state_count, covers}
use Rattle.automaton.specs.Layers.{edge_start, low_of, high_of, next_of, to_of, edge_at, edge_word, bare_spot}
use Rattle.automaton.specs.Layers.{leaving, Edge, Chain}
use Rattle.automaton.proofs.Tests.{or_true, or_none, all_map, all_among}
use Rattle.table_builder.specs.Layers.{row_word, cell_at, head_in, Built}
use Rattle.table_builder.proofs.Built.{stamp_set, built_edge}
use Rattle.byte_set.specs.Layers.{between}
use Rattle.used_bytes.specs.Layers.{hits, queued, Worklist, noted, turned, Marked, Free, Releases, Waits, Waiting, waits, Passes, Passing}
use Rattle.used_bytes.proofs.Marking.{or_swap}
use Rattle.used_bytes.proofs.States.{noted-all, noted_here}
use Rattle.used_bytes.proofs.Queues.{Standing, hits_new, standing}

-- ---- one more waits

pub waiting_waits : {bound : ℕ} {tb rows : List ℕ} {stamp end : ℕ} {us : List Transition} → Waiting bound tb rows stamp end us
    → Waits bound tb rows stamp
waiting_waits {end = end} {us} w =
    record { end = end; transitions = us; within = w.within; cells = w.cells; built = w.built; below = w.below }

pub waiting_more : {bound : ℕ} {tb rows : List ℕ} {stamp end : ℕ} {us : List Transition} → Waiting bound tb rows stamp end us
    → (t : Transition) → end < length tb → end + 1 < 65536 → t.from < bound → t.low < 256 → t.high < 256 → t.to < bound
    → Waiting bound (set tb end (edge_word t.low t.high (cell_at rows stamp t.from / 2) (bare_spot t.to)))
    (set rows t.from (row_word stamp end (cell_at rows stamp t.from % 2))) stamp (end + 1) (t ∷ us)
waiting_more {tb = tb} {rows} {stamp} {end} w t room short f lo hi g =
    record {
      within = w.within;
      cells = simp length-set w.cells;
      built = built_edge w.built t room short (omega (arith, w.cells)) (omega (arith, w.within)) lo hi (omega (arith, w.within));
      below = (g, w.below);
      stamps = stamp_set rows stamp t.from end (cell_at rows stamp t.from % 2) (omega (arith, w.cells)) (omega arith) w.stamps;
    }

-- the same from what is stored
pub waiting_put : {bound : ℕ} {tb rows tb₁ rows₁ : List ℕ} {stamp end : ℕ} {us : List Transition} → Waiting bound tb rows stamp end us
    → end < length tb → end + 1 < 65536 → (e x low high head from : ℕ) → to_of e < bound → from < bound → x ≡ to_of e
    → low ≡ low_of e → high ≡ high_of e → head ≡ cell_at rows stamp x / 2 → tb₁ ≡ set tb end (edge_word low high head (bare_spot from))
    → rows₁ ≡ set rows x (row_word stamp end (cell_at rows stamp x % 2))
    → Waiting bound tb₁ rows₁ stamp (end + 1) (record { from = to_of e; low = low_of e; high = high_of e; to = from } ∷ us)
waiting_put w room short e x low high head from f g p q r s t u =
    rw (t, u, s, p, q, r) (waiting_more w (record { from = to_of e; low = low_of e; high = high_of e; to = from }) room short f (omega arith)
    (omega arith) g)

pub waits_short : {bound : ℕ} {tb rows : List ℕ} {stamp : ℕ} → Waits bound tb rows stamp → (e x : ℕ) → to_of e < bound → x ≡ to_of e
    → {head : ℕ} → head ≡ cell_at rows stamp x / 2 → head < 65536
waits_short w e x l p q = let s : x < state_count = omega (arith, w.within) in omega (arith, w.built.tops x s, w.built.short)

-- ---- a chain that is gone through

-- the walk along `ts` stands at h
pub record Going (bound : ℕ) (tb : List ℕ) (first from stamp : ℕ) (gs : List ℕ) (ts us : List Transition) (end : ℕ) (set : List Bool)
    (words₁ rows₁ : List ℕ) (set₁ : List Bool) (h at : ℕ) (some₁ : Bool) : Type 0 where
  pub left : List Transition
  pub chain : Chain tb first h left
  pub froms : All (λ (t : Transition). t.from ≡ from) left
  pub below : All (λ (t : Transition). t.to < bound) ts → All (λ (t : Transition). t.to < bound) left
  pub waiters : List Transition
  pub waiting : Waiting bound words₁ rows₁ stamp at waiters
  pub wait : waits gs left waiters ≡ waits gs ts us
  pub most : at + length left ≤ end + length ts
  pub some : some₁ || any (λ (t : Transition). among t.to gs) left ≡ any (λ (t : Transition). among t.to gs) ts
  pub size : length set₁ ≡ 256
  pub marks : (b : ℕ) → b < 256 → any (λ (t : Transition). among t.to gs && covers t b) left || get_or set₁ b false
      ≡ any (λ (t : Transition). among t.to gs && covers t b) ts || get_or set b false

pub going_start : {bound : ℕ} {tb : List ℕ} {first head from stamp : ℕ} {gs : List ℕ} {ts us : List Transition} {end : ℕ}
    {set : List Bool} {words rows : List ℕ} → Chain tb first head ts → All (λ (t : Transition). t.from ≡ from) ts
    → Waiting bound words rows stamp end us → length set ≡ 256 → {some₁ : Bool} → some₁ ≡ false
    → Going bound tb first from stamp gs ts us end set words rows set head end some₁
going_start {ts = ts} {us} c f w z e =
    record {
      left = ts;
      chain = c;
      froms = f;
      below = λ a. a;
      waiters = us;
      waiting = w;
      wait = refl;
      most = omega arith;
      some = rw e;
      size = z;
      marks = λ b l. refl;
    }

module _ {bound : ℕ} {tb : List ℕ} {first from stamp : ℕ} {gs : List ℕ} {ts us : List Transition} {end : ℕ} {set : List Bool}
    {words₁ rows₁ : List ℕ} {set₁ : List Bool} {h at : ℕ} {some₁ : Bool}
    (w : Going bound tb first from stamp gs ts us end set words₁ rows₁ set₁ h at some₁) where
  pub going_end : h ≡ 0 → Passes bound stamp gs ts us end set words₁ rows₁ set₁ some₁ at
  going_end z = go w.left w.chain w.wait w.most w.some w.marks
    where
      go : (vs : List Transition) → Chain tb first h vs → waits gs vs w.waiters ≡ waits gs ts us → at + length vs ≤ end + length ts
          → some₁ || any (λ (t : Transition). among t.to gs) vs ≡ any (λ (t : Transition). among t.to gs) ts
          → ((b : ℕ) → b < 256 → any (λ (t : Transition). among t.to gs && covers t b) vs || get_or set₁ b false
          ≡ any (λ (t : Transition). among t.to gs && covers t b) ts || get_or set b false)
          → Passes bound stamp gs ts us end set words₁ rows₁ set₁ some₁ at
      go [] c e m s k =
          record {
            waiting = rw (← e) w.waiting;
            most = omega arith;
            some = sym (or_none some₁) ∙ s;
            size = w.size;
            marks = k;
          }
      go (t ∷ vs) (l, c) e m s k = let q = l.some in absurd (omega arith)

  module _ (pos : 0 < h) where
    pub going_here : All (λ (t : Transition). t.to < bound) ts → Standing bound tb h
    going_here a = standing tb first h w.left pos w.chain (w.below a)

    -- there is room for it to wait
    pub going-room : at < end + length ts
    going-room = go w.left w.chain w.most
      where
        go : (vs : List Transition) → Chain tb first h vs → at + length vs ≤ end + length ts → at < end + length ts
        go [] c m = absurd (omega arith)
        go (t ∷ vs) c m = omega arith

    -- the transition at which it stands, and what is left behind it
    going_split : {C : Type 0} → ((t : Transition) (vs : List Transition) → Edge tb h t → Chain tb first (next_of (edge_at tb h)) vs
        → t.from ≡ from → All (λ (t : Transition). t.from ≡ from) vs
        → (All (λ (t : Transition). t.to < bound) ts → All (λ (t : Transition). t.to < bound) vs)
        → waits gs (t ∷ vs) w.waiters ≡ waits gs ts us → at + suc (length vs) ≤ end + length ts
        → some₁ || any (λ (t : Transition). among t.to gs) (t ∷ vs) ≡ any (λ (t : Transition). among t.to gs) ts
        → ((b : ℕ) → b < 256 → any (λ (t : Transition). among t.to gs && covers t b) (t ∷ vs) || get_or set₁ b false
        ≡ any (λ (t : Transition). among t.to gs && covers t b) ts || get_or set b false) → C) → C
    going_split {C} f = go w.left w.chain w.froms w.below w.wait w.most w.some w.marks
      where
        go : (vs : List Transition) → Chain tb first h vs → All (λ (t : Transition). t.from ≡ from) vs
            → (All (λ (t : Transition). t.to < bound) ts → All (λ (t : Transition). t.to < bound) vs)
            → waits gs vs w.waiters ≡ waits gs ts us → at + length vs ≤ end + length ts
            → some₁ || any (λ (t : Transition). among t.to gs) vs ≡ any (λ (t : Transition). among t.to gs) ts
            → ((b : ℕ) → b < 256 → any (λ (t : Transition). among t.to gs && covers t b) vs || get_or set₁ b false
            ≡ any (λ (t : Transition). among t.to gs && covers t b) ts || get_or set b false) → C
        go [] c p b e o s k = absurd (omega arith)
        go (t ∷ vs) (l, c) (p, ps) b e o s k = f t vs l.edge c p ps (λ a. (b a).1) e o s k

    -- past a transition to one of the states, whose bytes are marked
    pub going_good : {next : ℕ} {set₂ : List Bool} → next ≡ next_of (edge_at tb h) → among (to_of (edge_at tb h)) gs ≡ true → length set₂ ≡ 256
        → ((b : ℕ) → get_or set₂ b false ≡ between (low_of (edge_at tb h)) (high_of (edge_at tb h)) b || get_or set₁ b false)
        → Going bound tb first from stamp gs ts us end set words₁ rows₁ set₂ next at true
    going_good {next} {set₂} n g z m = going_split (λ t vs l c p ps b e o s k.
        let q : among t.to gs ≡ true = rw (← l.to) g in
        record {
          left = vs;
          chain = rw n c;
          froms = ps;
          below = b;
          waiters = w.waiters;
          waiting = w.waiting;
          wait = rw q at e;
          most = omega arith;
          some = sym (or_true some₁) ∙ (rw q at s);
          size = z;
          marks = λ x i. rw (m x, l.low, l.high)
              (or_swap (covers t x) (any (λ (t : Transition). among t.to gs && covers t x) vs) (get_or set₁ x false) ∙ (rw q at (k x i)));
        })

    -- past one that waits
    pub going_wait : {next : ℕ} {words₂ rows₂ : List ℕ} → next ≡ next_of (edge_at tb h) → among (to_of (edge_at tb h)) gs ≡ false
        → ((vs : List Transition) → Waiting bound words₁ rows₁ stamp at vs → Waiting bound words₂ rows₂ stamp (at + 1)
        (record { from = to_of (edge_at tb h); low = low_of (edge_at tb h); high = high_of (edge_at tb h); to = from } ∷ vs))
        → Going bound tb first from stamp gs ts us end set words₂ rows₂ set₁ next (at + 1) some₁
    going_wait {next} n g v = going_split (λ t vs l c p ps b e o s k.
        let q : among t.to gs ≡ false = rw (← l.to) g in
        record {
          left = vs;
          chain = rw n c;
          froms = ps;
          below = b;
          waiters = turned t ∷ w.waiters;
          waiting = rw (← l.to, ← l.low, ← l.high, p) (v w.waiters w.waiting);
          wait = rw q at e;
          most = omega arith;
          some = rw q at s;
          size = w.size;
          marks = λ x i. rw q at (k x i);
        })

-- a state's mark says whether it is one of them
module _ (good : List ℕ) {stamp : ℕ} (gs : List ℕ) (same : (x : ℕ) → eqb (get_or good x 0) stamp ≡ among x gs)
    {s x : ℕ} (e : s ≡ x) where
  pub good_in : get_or good s 0 ≡ stamp → among x gs ≡ true
  good_in q = sym (same x) ∙ eq-eqb (get_or good x 0) stamp (rw (← e) q)

  pub good_out : (get_or good s 0 ≡ stamp → ⊥) → among x gs ≡ false
  good_out q = sym (same x) ∙ ne_eqb (get_or good x 0) stamp (λ z. q (rw e z))

-- ---- a state more

module _ {bound : ℕ} {good : List ℕ} {stamp : ℕ} {queue gs : List ℕ} (w : Worklist bound good stamp queue 0 gs) (s : ℕ) (l : s < bound)
  where
    here : get_or (set good s stamp) s 0 ≡ stamp
    here = get_or-set_same good s stamp 0 (omega (arith, w.cells))

    pub worklist_gain : Worklist bound (set good s stamp) stamp queue 0 (noted gs s)
    unfolding queued
    worklist_gain =
        record {
          within = w.within;
          cells = simp length-set w.cells;
          slots = w.slots;
          below = noted-all (λ x. x < bound) gs s w.below l;
          same = λ x. same₁ x (eqb x s) refl;
          once = once₁ (among s gs) refl;
          stamps = λ x. stamps₁ x (eqb x s) refl;
        }
      where
        same₁ : (x : ℕ) (c : Bool) → eqb x s ≡ c → eqb (get_or (set good s stamp) x 0) stamp ≡ among x (noted gs s)
        same₁ x true z = let y : x ≡ s = eqb-true x s z in rw (y, here, eq-eqb stamp stamp refl, noted_here gs s)
        same₁ x false z = rw (get_or-set_other good s x stamp 0 (eqb-false x s z)) (w.same x ∙ other (among s gs))
          where
            other : (c : Bool) → among x gs ≡ among x (if c gs (s ∷ gs))
            other true = refl
            other false = rw z

        once₁ : (c : Bool) → among s gs ≡ c → (x : ℕ) → hits (if c gs (s ∷ gs)) x ≤ 1
        once₁ true e x = w.once x
        once₁ false e x = hits_new gs s e w.once x

        stamps₁ : (x : ℕ) (c : Bool) → eqb x s ≡ c → get_or (set good s stamp) x 0 ≤ stamp
        stamps₁ x true z = let y : x ≡ s = eqb-true x s z in rw (y, here) (omega arith)
        stamps₁ x false z = rw (get_or-set_other good s x stamp 0 (eqb-false x s z)) (w.stamps x)

    -- at which nothing waits
    pub gain_alone : {tb rows : List ℕ} {end head : ℕ} {us : List Transition} {marks : List Bool} → Built tb rows stamp edge_start end [] us
        → head ≡ head_in rows stamp s → head ≡ 0 → length marks ≡ 256
        → Releases bound us s stamp (noted gs s) marks (set good s stamp) queue marks
    gain_alone {tb} {rows} {end} {head} {us} {marks} b e z n =
        record {
          states = noted gs s;
          worklist = worklist_gain;
          kept = λ x a. a;
          here = none (leaving s us) (b.chains s (omega (arith, w.within)));
          free = all_map (λ x. among x (noted gs s) ≡ true) (λ x. (among x (noted gs s) ≡ true) ⊎ Free us (noted gs s) marks x)
              (λ x a. inl a) (noted gs s) (all_among (noted gs s));
          led = λ f a u. a;
          size = n;
          grown = λ x m a. a;
          new = λ x m a. inl a;
        }
      where
        none : (vs : List Transition) → Chain tb edge_start (head_in rows stamp s) vs
            → All (λ (u : Transition). (among u.to (noted gs s) ≡ true) × Marked marks u) vs
        none [] c = tt
        none (v ∷ vs) (k, c) = let q = k.some in absurd (omega arith)

-- of the chain that is known to be there
pub going_passing : {tb : List ℕ} {head from : ℕ} {good : List ℕ} {stamp : ℕ} {words₀ rows₀ : List ℕ} {end : ℕ}
    (a : Passing tb head from good stamp words₀ rows₀ end) {set₀ : List Bool} {words rows : List ℕ} {set : List Bool} {h at : ℕ} {leads : Bool}
    → ((bound first : ℕ) (ts us : List Transition) (gs : List ℕ) → Chain tb first head ts → All (λ (t : Transition). t.from ≡ from) ts
    → Waiting bound words₀ rows₀ stamp end us → ((x : ℕ) → eqb (get_or good x 0) stamp ≡ among x gs)
    → Going bound tb first from stamp gs ts us end set₀ words rows set h at leads)
    → Going a.bound tb a.leading.first from stamp a.states a.leading.transitions a.transitions end set₀ words rows set h at leads
going_passing a w = w a.bound a.leading.first a.leading.transitions a.transitions a.states a.leading.chain a.froms a.waiting a.same
