-- What is known of the states that have been gone through, and that in the end the marked bytes are the used ones. Only this file opens
-- `used`. Assumes nothing.
use mathlib.Core.Path.{◌≡◌, refl, sym, ap, subst, ◌∙◌}
use mathlib.Core.Bool.{Bool, true, false, ◌&&◌, ◌||◌}
use mathlib.Core.Logic.{◌⊎◌, inl, inr}
use mathlib.Core.List.{List, [], ◌∷◌}
use Prim.Native.Nat.{ℕ, zero, suc, ◌+◌, ◌-◌, ◌≤◌, ◌<◌}
use native.Mathlib.Omega.{arith}
use lib.Dec.{eqb}
use lib.ListN.{length, get_or, replicate, length-replicate}
use borrow.Author.Tests.{eqb-true, eqb-false, eq-eqb, ne_eqb}
use Rattle.automaton.specs.Choice.{if, All, any, among}
use Rattle.automaton.specs.Rule.{Transition, Rule, state_count, covers, leads, ends, carries, used}
use Rattle.automaton.specs.Layers.{rule_room, edge_start, state_of, head_of, first_of, body_at, leaving, Chain, Table}
use Rattle.automaton.proofs.Tests.{clash, or_true, or_none, and_true, all_map, all_with, any_each, any_some, any-map, all_among, among-all}
use Rattle.automaton.proofs.Ways.{leads_here, leads_on, leads_each, leads_back}
use Rattle.table_builder.proofs.Built.{built_blank}
use Rattle.used_bytes.specs.Layers.{queued, Worklist, Unmarked, Passing, Led, CanGain, Reaches, Storage, Room}
use Rattle.used_bytes.specs.Layers.{noted, turned, Marked, Free, Releases, waits, Passes, Has, Sweep, Sweeping, Settled, Gone}
use Rattle.used_bytes.specs.Layers.{Later, Gains, Goes, Ready, Sweepable}
use Rattle.used_bytes.proofs.States.{Passed, either_way, leaving-all, leaving_each, leaving-from, leaving_of, noted-all, noted_here}
use Rattle.used_bytes.proofs.States.{noted_kept, passed_each, queued-all, queued_at, queued-last}
use Rattle.used_bytes.proofs.Queues.{outgoing, outgoing_most, worklist_most}
use Rattle.used_bytes.proofs.Reached.{unmarked_worklist}
use Rattle.used_bytes.proofs.Swept.{waiting_waits}

-- ---- nothing is lost

pub later_none : (gs : List ℕ) (us : List Transition) (set : List Bool) → Later gs gs us us set set
later_none gs us set = record { kept = λ x a. a; still = λ u h. h; grown = λ b l a. a }

module _ {gs gs₁ : List ℕ} {us us₁ : List Transition} {set set₁ : List Bool} (a : Later gs gs₁ us us₁ set set₁) where
  pub later_on : {gs₂ : List ℕ} {us₂ : List Transition} {set₂ : List Bool} → Later gs₁ gs₂ us₁ us₂ set₁ set₂
      → Later gs gs₂ us us₂ set set₂
  later_on b =
      record {
        kept = λ x e. b.kept x (a.kept x e);
        still = λ u h. b.still u (a.still u h);
        grown = λ x l e. b.grown x l (a.grown x l e);
      }

  marked_later : (t : Transition) → Marked set t → Marked set₁ t
  marked_later t m x l c = a.grown x l (m x l c)

  settled-later : (t : Transition) → Settled gs us set t → Settled gs₁ us₁ set₁ t
  settled-later t (inl (e, m)) = inl (a.kept t.from e, marked_later t m)
  settled-later t (inr h) = inr (a.still (turned t) h)

  pub gone_later : {r : Rule} {s : ℕ} → Gone r gs us set s → Gone r gs₁ us₁ set₁ s
  gone_later {r} {s} g =
      record {
        final = λ e. a.kept s (g.final e);
        each = all_map (Settled gs us set) (Settled gs₁ us₁ set₁) settled-later (leaving s r.transitions) g.each;
      }

  free_later : (vs : List Transition) → All (λ (u : Transition). (among u.to gs ≡ true) × Marked set u) vs
      → All (λ (u : Transition). (among u.to gs₁ ≡ true) × Marked set₁ u) vs
  free_later vs f = all_map _ _ (λ u p. (a.kept u.to p.0, marked_later u p.1)) vs f

-- ---- ways of a rule

-- where the transition leads to a final state, so does the state that it leaves, and its bytes are used
abbrev Way : Rule → Transition → Type 0
Way r t = ends r t.to ≡ true → (ends r t.from ≡ true) × ((b : ℕ) → covers t b ≡ true → used r b ≡ true)

-- the same of one that waits
abbrev Back : Rule → Transition → Type 0
Back r u = Way r (turned u)

-- so it is with those that leave a state which the start leads to
way_each : (r : Rule) → All (λ (t : Transition). leads r.transitions r.start t.from ≡ true → Way r t) r.transitions
unfolding used
way_each r = all_map (λ (t : Transition). (leads r.transitions t.from t.to ≡ true) × ((b : ℕ) → carries r b t ≡ true → used r b ≡ true))
    (λ (t : Transition). leads r.transitions r.start t.from ≡ true → Way r t)
    (λ t p l e. (
      any-map (leads r.transitions t.to) (leads r.transitions t.from) (λ f q. leads_on r.transitions t.from t.to f p.0 q) r.finals e,
      λ b c. p.1 b (rw (c, l, e)),
    )) r.transitions
    (all_with (λ (t : Transition). leads r.transitions t.from t.to ≡ true)
    (λ (t : Transition). (b : ℕ) → carries r b t ≡ true → used r b ≡ true)
    (λ (t : Transition). (leads r.transitions t.from t.to ≡ true) × ((b : ℕ) → carries r b t ≡ true → used r b ≡ true)) (λ t p q. (p, q))
    r.transitions (leads_each r.transitions) (flip r.transitions (λ b. any_each (carries r b) r.transitions)))
  where
    flip : (ts : List Transition) → ((b : ℕ) → All (λ (t : Transition). carries r b t ≡ true → any (carries r b) r.transitions ≡ true) ts)
        → All (λ (t : Transition). (b : ℕ) → carries r b t ≡ true → any (carries r b) r.transitions ≡ true) ts
    flip [] h = tt
    flip (t ∷ ts) h = (λ b. (h b).0, flip ts (λ b. (h b).1))

pub way_leaving : (r : Rule) (s : ℕ) → leads r.transitions r.start s ≡ true → All (Way r) (leaving s r.transitions)
way_leaving r s l =
    all_map (λ (t : Transition). (leads r.transitions r.start t.from ≡ true → Way r t) × (t.from ≡ s)) (Way r)
    (λ t p. p.0 (rw p.1 l)) (leaving s r.transitions)
    (leaving_of (λ (t : Transition). leads r.transitions r.start t.from ≡ true → Way r t) s r.transitions (way_each r))

-- ---- transitions that wait

-- what holds of those that wait where u waits holds of u
has_free : (P : Transition → Type 0) (us : List Transition) (u : Transition) → Has u us → All P (leaving u.from us) → P u
unfolding leaving
has_free P [] u h a = absurd h
has_free P (v ∷ us) u h a = go h (eqb v.from u.from) refl a (has_free P us u)
  where
    go : (u ≡ v) ⊎ Has u us → (c : Bool) → eqb v.from u.from ≡ c → All P (if c (v ∷ leaving u.from us) (leaving u.from us))
        → (Has u us → All P (leaving u.from us) → P u) → P u
    go (inl e) true q a ih = subst P (sym e) a.0
    go (inl e) false q a ih = clash (eq-eqb v.from u.from (sym (ap (λ (t : Transition). t.from) e))) q
    go (inr h) true q a ih = ih h a.1
    go (inr h) false q a ih = ih h a

module _ (gs : List ℕ) where
  waits_still : (ts us : List Transition) (u : Transition) → Has u us → Has u (waits gs ts us)
  waits_still [] us u h = h
  waits_still (t ∷ ts) us u h = waits_still ts (if (among t.to gs) us (turned t ∷ us)) u (go (among t.to gs))
    where
      go : (c : Bool) → Has u (if c us (turned t ∷ us))
      go true = h
      go false = inr h

  waits-all : (P : Transition → Type 0) (ts us : List Transition) → All (λ (t : Transition). P (turned t)) ts → All P us
      → All P (waits gs ts us)
  waits-all P [] us a b = b
  waits-all P (t ∷ ts) us (p, a) b = waits-all P ts (if (among t.to gs) us (turned t ∷ us)) a (go (among t.to gs))
    where
      go : (c : Bool) → All P (if c us (turned t ∷ us))
      go true = b
      go false = (p, b)

  -- at none of the states
  waits_free : (ts us : List Transition) (set : List Bool) (x : ℕ) → among x gs ≡ true → Free us gs set x → Free (waits gs ts us) gs set x
  unfolding leaving
  waits_free [] us set x q f = f
  waits_free (t ∷ ts) us set x q f = waits_free ts (if (among t.to gs) us (turned t ∷ us)) set x q (go (among t.to gs) refl)
    where
      go : (c : Bool) → among t.to gs ≡ c → Free (if c us (turned t ∷ us)) gs set x
      go true e = f
      go false e = rw (ne_eqb t.to x (λ z. clash (subst (λ (y : ℕ). among y gs ≡ true) (sym z) q) e)) f

  -- each that leads to none of them
  waits_each : (ts us : List Transition) → All (λ (t : Transition). among t.to gs ≡ false → Has (turned t) (waits gs ts us)) ts
  waits_each [] us = tt
  waits_each (t ∷ ts) us = (
    λ e. waits_still ts (if (among t.to gs) us (turned t ∷ us)) (turned t) (first (among t.to gs) e),
    waits_each ts (if (among t.to gs) us (turned t ∷ us)),
  )
    where
      first : (c : Bool) → c ≡ false → Has (turned t) (if c us (turned t ∷ us))
      first true e = clash refl e
      first false e = inl refl

-- ---- a state more that leads to a final one

noted_cases : (gs : List ℕ) (s x : ℕ) → among x (noted gs s) ≡ true → (x ≡ s) ⊎ (among x gs ≡ true)
noted_cases gs s x e = go (among s gs) e
  where
    go : (c : Bool) → among x (if c gs (s ∷ gs)) ≡ true → (x ≡ s) ⊎ (among x gs ≡ true)
    go true z = inr z
    go false z = head (eqb x s) refl z
      where
        head : (c : Bool) → eqb x s ≡ c → c || among x gs ≡ true → (x ≡ s) ⊎ (among x gs ≡ true)
        head true q z = inl (eqb-true x s q)
        head false q z = inr z

module _ {r : Rule} {gs : List ℕ} {us : List Transition} {set : List Bool} (w : Sweep r gs us set) where
  module _ {bound s stamp : ℕ} {good₁ queue₁ : List ℕ} {set₁ : List Bool} (k : Releases bound us s stamp (noted gs s) set good₁ queue₁ set₁)
    where
      pub gain_later : Later gs k.states us us set set₁
      gain_later = record { kept = λ x e. k.kept x (noted_kept gs s x e); still = λ u h. h; grown = k.grown }

      pub gain_here : among s k.states ≡ true
      gain_here = k.kept s (noted_here gs s)

      pub gain_sweep : ends r s ≡ true → Sweep r k.states us set₁
      gain_sweep e =
          record {
            lead = lead₁;
            ways = w.ways;
            free = all_map (λ (x : ℕ). (among x (noted gs s) ≡ true) ⊎ Free us k.states set₁ x) (Free us k.states set₁) free₁
                k.states k.free;
            sound = λ b l m. sound₁ b l (k.new b l m);
          }
        where
          lead₁ : All (λ (x : ℕ). ends r x ≡ true) k.states
          lead₁ = k.led (ends r) (noted-all (λ (x : ℕ). ends r x ≡ true) gs s w.lead e)
              (all_map (Back r) (λ (u : Transition). ends r u.from ≡ true → ends r u.to ≡ true) (λ u p q. (p q).0) us w.ways)

          free₁ : (x : ℕ) → (among x (noted gs s) ≡ true) ⊎ Free us k.states set₁ x → Free us k.states set₁ x
          free₁ x (inr f) = f
          free₁ x (inl a) = old (noted_cases gs s x a)
            where
              old : (x ≡ s) ⊎ (among x gs ≡ true) → Free us k.states set₁ x
              old (inl q) = subst (Free us k.states set₁) (sym q) k.here
              old (inr q) = free_later gain_later (leaving x us) (among-all (Free us gs set) x gs w.free q)

          sound₁ : (b : ℕ) → b < 256 → (get_or set b false ≡ true) ⊎ (any (λ (u : Transition). among u.from k.states && covers u b)
              us ≡ true)
              → used r b ≡ true
          sound₁ b l (inl m) = w.sound b l m
          sound₁ b l (inr m) =
              any_some (λ (u : Transition). among u.from k.states && covers u b) us
              (all_map (Back r) (λ (u : Transition). among u.from k.states && covers u b ≡ true → used r b ≡ true)
              (λ u p q.
              let a = and_true (among u.from k.states) (covers u b) q in
              (p (among-all (λ (x : ℕ). ends r x ≡ true) u.from k.states lead₁ a.0)).1 b a.1) us w.ways) m

  -- ---- transitions that are gone through

  module _ {bound stamp : ℕ} {ts : List Transition} {end : ℕ} {words₁ rows₁ : List ℕ} {set₁ : List Bool} {some₁ : Bool} {end₁ : ℕ}
      (k : Passes bound stamp gs ts us end set words₁ rows₁ set₁ some₁ end₁) where
    pub pass_later : Later gs gs us (waits gs ts us) set set₁
    pass_later = record { kept = λ x e. e; still = waits_still gs ts us; grown = λ b l e. k.marks b l ∙ rw (e, or_true) }

    pub pass_sweep : All (Way r) ts → Sweep r gs (waits gs ts us) set₁
    pass_sweep a =
        record {
          lead = w.lead;
          ways = waits-all gs (Back r) ts us a w.ways;
          free = all_with (λ (x : ℕ). among x gs ≡ true) (Free us gs set) (Free (waits gs ts us) gs set₁)
              (λ x q f. waits_free gs ts us set₁ x q (free_later pass_later (leaving x us) f)) gs (all_among gs) w.free;
          sound = λ b l m. sound₁ b l (get_or set b false) refl (sym (k.marks b l) ∙ m);
        }
      where
        sound₁ : (b : ℕ) → b < 256 → (c : Bool) → get_or set b false ≡ c
            → any (λ (t : Transition). among t.to gs && covers t b) ts || c ≡ true → used r b ≡ true
        sound₁ b l true q m = w.sound b l q
        sound₁ b l false q m =
            any_some (λ (t : Transition). among t.to gs && covers t b) ts
            (all_map (Way r) (λ (t : Transition). among t.to gs && covers t b ≡ true → used r b ≡ true)
            (λ t p z.
            let c = and_true (among t.to gs) (covers t b) z in
            (p (among-all (λ (x : ℕ). ends r x ≡ true) t.to gs w.lead c.0)).1 b c.1) ts a) (sym (or_none _) ∙ m)

    -- each leads to one of the states and its bytes are marked, or it waits
    pub pass_each : All (λ (t : Transition). ((among t.to gs ≡ true) × Marked set₁ t) ⊎ Has (turned t) (waits gs ts us)) ts
    pass_each = all_with (λ (t : Transition). among t.to gs ≡ false → Has (turned t) (waits gs ts us)) (Passed ts)
        (λ (t : Transition). ((among t.to gs ≡ true) × Marked set₁ t) ⊎ Has (turned t) (waits gs ts us))
        (λ t p q. each t p q (among t.to gs) refl) ts (waits_each gs ts us) (passed_each ts)
      where
        each : (t : Transition) → (among t.to gs ≡ false → Has (turned t) (waits gs ts us)) → Passed ts t
            → (c : Bool) → among t.to gs ≡ c → ((among t.to gs ≡ true) × Marked set₁ t) ⊎ Has (turned t) (waits gs ts us)
        each t p q true e = inl (e, λ b l c. k.marks b l ∙ rw (q (λ (t : Transition). among t.to gs && covers t b) (rw (e, c))))
        each t p q false e = inr (p e)

  -- ---- in the end

  module _ (fs : List ℕ) (reached : (s : ℕ) → among s fs ≡ leads r.transitions r.start s) (gone : All (Gone r gs us set) fs) where
    -- a transition of a reached state
    settled : All (λ (t : Transition). among t.from fs ≡ true → Settled gs us set t) r.transitions
    settled = leaving_each (Settled gs us set) fs r.transitions (λ x e. (among-all (Gone r gs us set) x fs gone e).each)

    -- that leads to one of the states: so does the state that it leaves, and its bytes are marked
    let_go : (t : Transition) → Settled gs us set t → among t.to gs ≡ true → (among t.from gs ≡ true) × Marked set t
    let_go t (inl p) e = p
    let_go t (inr h) e =
        has_free (λ (u : Transition). (among u.to gs ≡ true) × Marked set u) us (turned t) h
        (among-all (Free us gs set) t.to gs w.free e)

    -- every reached state that leads to a final state is one of them
    all_led : (s : ℕ) → ends r s ≡ true → among s fs ≡ true → among s gs ≡ true
    all_led s e =
        any_some (leads r.transitions s) r.finals
        (all_map (λ (f : ℕ). among f r.finals ≡ true) (λ (f : ℕ). leads r.transitions s f ≡ true → P s)
        (λ f a l. leads_back P r.transitions closed s f l (λ q. (among-all (Gone r gs us set) f fs gone q).final a)) r.finals
        (all_among r.finals)) e
      where
        P : ℕ → Type 0
        P x = among x fs ≡ true → among x gs ≡ true

        closed : All (λ (t : Transition). P t.to → P t.from) r.transitions
        closed = all_with (λ (t : Transition). among t.from fs ≡ true → Settled gs us set t)
            (λ (t : Transition). leads r.transitions t.from t.to ≡ true) (λ (t : Transition). P t.to → P t.from)
            (λ t k l p q. (let_go t (k q) (p (reached t.to ∙ leads_on r.transitions r.start t.from t.to (sym (reached t.from) ∙ q) l))).0)
            r.transitions settled (leads_each r.transitions)

    pub swept_used : (b : ℕ) → b < 256 → get_or set b false ≡ used r b
    unfolding used
    swept_used b l = either_way _ _ (w.sound b l) (λ u.
        any_some (carries r b) r.transitions
        (all_with (λ (t : Transition). among t.from fs ≡ true → Settled gs us set t) (λ
        (t : Transition). leads r.transitions t.from t.to ≡ true)
        (λ (t : Transition). carries r b t ≡ true → get_or set b false ≡ true)
        (λ t k m z.
        let p = and_true (covers t b) _ z in
        let q = and_true (leads r.transitions r.start t.from) (ends r t.to) p.1 in
        let f : among t.to fs ≡ true = reached t.to ∙ leads_on r.transitions r.start t.from t.to q.0 m in
        (let_go t (k (reached t.from ∙ q.0)) (all_led t.to q.1 f)).1 b l p.0)
        r.transitions settled (leads_each r.transitions)) u)

-- ---- one step and one state

module _ {bound : ℕ} {r : Rule} {stamp : ℕ} {good queue words rows : List ℕ} {end : ℕ} {set : List Bool} {gs : List ℕ}
    {us : List Transition} (w : Sweeping bound r stamp good queue words rows end set gs us) (s : ℕ) where
  pub gains_not : {said : Bool} → said ≡ false → Gains bound r s said stamp words rows end gs us set good queue set
  gains_not q = record { states = gs; sweeping = w; later = later_none gs us set; here = λ z. clash z q }

  pub gains_said : {said : Bool} {good₁ queue₁ : List ℕ} {set₁ : List Bool} → ends r s ≡ true
      → Releases bound us s stamp (noted gs s) set good₁ queue₁ set₁ → Gains bound r s said stamp words rows end gs us set good₁ queue₁ set₁
  gains_said e k =
      record {
        states = k.states;
        sweeping = record { worklist = k.worklist; waiting = w.waiting; size = k.size; sweep = gain_sweep w.sweep k e };
        later = gain_later w.sweep k;
        here = λ z. gain_here w.sweep k;
      }

-- a final state leads to one
pub ends-final : (r : Rule) (s : ℕ) → among s r.finals ≡ true → ends r s ≡ true
ends-final r s e = any-map (eqb s) (leads r.transitions s)
    (λ f q. let y : s ≡ f = eqb-true s f q in subst (λ (x : ℕ). leads r.transitions s x ≡ true) y (leads_here r.transitions s)) r.finals e

module _ {bound : ℕ} {r : Rule} {stamp : ℕ} {good queue words rows : List ℕ} {end : ℕ} {set : List Bool} {gs : List ℕ}
    {us : List Transition} (p : ℕ) (w : Sweeping bound r stamp good queue words rows end set gs us)
    (led : leads r.transitions r.start (state_of p) ≡ true)
    {final : Bool} (e : final ≡ among (state_of p) r.finals) {s : ℕ} (state : s ≡ state_of p) where
  abbrev ts : List Transition
  ts = leaving (state_of p) r.transitions

  pub final-ends : final ≡ true → ends r s ≡ true
  final-ends z = rw state (ends-final r (state_of p) (sym e ∙ z))

  module _ {good₁ queue₁ : List ℕ} {set₁ : List Bool} (g : Gains bound r s final stamp words rows end gs us set good₁ queue₁ set₁)
      {words₂ rows₂ : List ℕ} {set₂ : List Bool} {some₂ : Bool} {end₂ : ℕ}
      (k : Passes bound stamp g.states ts us end set₁ words₂ rows₂ set₂ some₂ end₂) where
    pub passed_sweeping : Sweeping bound r stamp good₁ queue₁ words₂ rows₂ end₂ set₂ g.states (waits g.states ts us)
    passed_sweeping =
        record {
          worklist = g.sweeping.worklist;
          waiting = k.waiting;
          size = k.size;
          sweep = pass_sweep g.sweeping.sweep k (way_leaving r (state_of p) led);
        }

    pub some_ends : some₂ ≡ true → ends r s ≡ true
    some_ends z =
        rw state
        (any_some (λ (t : Transition). among t.to g.states) ts
        (all_with (Way r) (λ (t : Transition). t.from ≡ state_of p)
        (λ (t : Transition). among t.to g.states ≡ true → ends r (state_of p) ≡ true)
        (λ t q f a. rw (← f) (q (among-all (λ (x : ℕ). ends r x ≡ true) t.to g.states g.sweeping.sweep.lead a)).0) ts
        (way_leaving r (state_of p) led) (leaving-from (state_of p) r.transitions)) (sym k.some ∙ z))

    pub goes : {good₃ queue₃ : List ℕ} {set₃ : List Bool}
        → Gains bound r s some₂ stamp words₂ rows₂ end₂ g.states (waits g.states ts us) set₂ good₃ queue₃ set₃
        → Goes bound r p stamp end gs us set good₃ queue₃ words₂ rows₂ end₂ set₃
    goes {set₃ = set₃} h =
        record {
          states = h.states;
          transitions = waits g.states ts us;
          sweeping = h.sweeping;
          later = later_on g.later (later_on (pass_later g.sweeping.sweep k) h.later);
          gone = record {
            final = λ z. rw (← state) (h.later.kept s (g.here (e ∙ z)));
            each = all_with (λ (t : Transition). ((among t.to g.states ≡ true) × Marked set₂ t) ⊎ Has (turned t) (waits g.states
                ts us))
                (λ (t : Transition). Passed ts t × (t.from ≡ state_of p)) (Settled h.states (waits g.states ts us) set₃) each₁ ts
                (pass_each g.sweeping.sweep k)
                (all_with (Passed ts) (λ (t : Transition). t.from ≡ state_of p) (λ (t : Transition). Passed ts t × (t.from ≡ state_of p))
                (λ t a b. (a, b)) ts (passed_each ts) (leaving-from (state_of p) r.transitions));
          };
          most = k.most;
        }
      where
        each₁ : (t : Transition) → ((among t.to g.states ≡ true) × Marked set₂ t) ⊎ Has (turned t) (waits g.states ts us)
            → Passed ts t × (t.from ≡ state_of p) → Settled h.states (waits g.states ts us) set₃ t
        each₁ t (inl (a, m)) q =
            inl (
              rw (q.1, ← state) (h.here (k.some ∙ q.0 (λ (t : Transition). among t.to g.states) a)),
              λ b l c. h.later.grown b l (m b l c),
            )
        each₁ t (inr a) q = inr a

-- ---- the chain of a spot

pub worklist_same : {bound : ℕ} {good : List ℕ} {stamp : ℕ} {queue gs : List ℕ} → Worklist bound good stamp queue 0 gs
    → (x : ℕ) → eqb (get_or good x 0) stamp ≡ among x gs
unfolding queued
worklist_same w = w.same

module _ {bound : ℕ} {tb : List ℕ} {k : ℕ} {r : Rule} {p : ℕ} (l : Led bound tb k r p) where
  pub led_chain : {head : ℕ} → head ≡ head_of p → Chain tb (first_of (body_at tb k)) head (leaving (state_of p) r.transitions)
  led_chain e = rw e l.spot.chain

  pub led_froms : {s : ℕ} → s ≡ state_of p → All (λ (t : Transition). t.from ≡ s) (leaving (state_of p) r.transitions)
  led_froms e = rw e (leaving-from (state_of p) r.transitions)

  pub led_passing : {head s stamp : ℕ} {good queue words rows : List ℕ} {end : ℕ} {set : List Bool} {gs : List ℕ} {us : List Transition}
      → head ≡ head_of p → s ≡ state_of p → All (λ (t : Transition). t.to < bound) r.transitions
      → Sweeping bound r stamp good queue words rows end set gs us → end + length (leaving (state_of p) r.transitions) ≤ length words
      → length words < 65536 → stamp ≤ rule_room → Passing tb head s good stamp words rows end
  led_passing {gs = gs} {us} e f a w room short most =
      record {
        bound = bound;
        leading = record {
          first = first_of (body_at tb k);
          transitions = leaving (state_of p) r.transitions;
          chain = led_chain e;
          below = leaving-all (λ (t : Transition). t.to < bound) (state_of p) r.transitions a;
        };
        froms = led_froms f;
        from_below = rw f l.below;
        cells = w.worklist.cells;
        states = gs;
        same = worklist_same w.worklist;
        stamp_below = most;
        transitions = us;
        waiting = w.waiting;
        room = room;
        short = omega arith;
      }

  -- what is known before and after its chain
  pub led_gain : {s stamp : ℕ} {good queue words rows : List ℕ} {end : ℕ} {set : List Bool} {gs : List ℕ} {us : List Transition}
      → s ≡ state_of p → Sweeping bound r stamp good queue words rows end set gs us → CanGain s stamp good queue words rows set
  led_gain {gs = gs} e w =
      record {
        bound = bound;
        waits = waiting_waits w.waiting;
        below = rw e l.below;
        working = record { base = gs; worklist = w.worklist };
        size = w.size;
      }

-- no mark has the next stamp
worklist_unmarked : {bound : ℕ} {marks : List ℕ} {stamp : ℕ} {queue : List ℕ} {n : ℕ} {base : List ℕ}
    → Worklist bound marks stamp queue n base → Unmarked bound marks (stamp + 1)
worklist_unmarked w = record { within = w.within; cells = w.cells; earlier = λ s. omega (arith, w.stamps s) }

-- ---- the loop of `sweep`

-- the states from the k-th of the n spots on have been gone through
pub record Over (bound : ℕ) (tb : List ℕ) (number : ℕ) (r : Rule) (stamp : ℕ) (spots : List ℕ) (n : ℕ) (good queue words rows : List ℕ)
    (end : ℕ) (set : List Bool) (k : ℕ) : Type 0 where
  pub states : List ℕ
  pub transitions : List Transition
  pub sweeping : Sweeping bound r stamp good queue words rows end set states transitions
  pub gone : (i : ℕ) → k ≤ i → i < n → Gone r states transitions set (state_of (get_or spots i 0))
  pub within : k ≤ n
  pub room : end + outgoing (queued spots k []) r.transitions ≤ edge_start + length r.transitions

module _ {bound : ℕ} {tb : List ℕ} {number : ℕ} {r : Rule} (table : Table tb number r) {stamp : ℕ} {seen spots : List ℕ} {n : ℕ}
    (reaches : Reaches bound tb number r stamp seen spots n) where
  pub over_start : {edges : ℕ} {good queue words rows : List ℕ} {set : List Bool} → Storage bound edges stamp good queue words rows
      → length set ≡ 256 → ((b : ℕ) → get_or set b false ≡ false) → Over bound tb number r stamp spots n good queue words rows edge_start set n
  over_start {good = good} {queue} {words} {rows} {set} s z f =
      record {
        states = [];
        transitions = [];
        sweeping = record {
          worklist = unmarked_worklist queue s.unmarked s.slots;
          waiting = record {
            within = s.unmarked.within;
            cells = s.unstamped.cells;
            built = built_blank words rows stamp edge_start (omega arith) (omega (arith, s.room)) (omega arith)
                (λ x l e. omega (arith, s.unstamped.earlier x l));
            below = tt;
            stamps = λ x l. omega (arith, s.unstamped.earlier x l);
          };
          size = z;
          sweep = record { lead = tt; ways = tt; free = tt; sound = λ b l e. clash e (f b) };
        };
        gone = λ i l m. absurd (omega arith);
        within = omega arith;
        room = omega (arith, outgoing_most (queued spots n []) r.transitions reaches.worklist.once);
      }

  module _ {good queue words rows : List ℕ} {end : ℕ} {set : List Bool} {k : ℕ}
      (w : Over bound tb number r stamp spots n good queue words rows end set k) where
    module _ (more : 0 < k) where
      abbrev p : ℕ
      p = get_or spots (k - 1) 0

      pub over_led : Led bound tb number r (get_or spots (k - 1) 0)
      over_led =
          record {
            table = table;
            spot = reaches.spots (k - 1) (omega (arith, w.within));
            below = queued_at (λ s. s < bound) spots n [] reaches.worklist.below (k - 1) (omega (arith, w.within));
            led = queued_at (λ s. leads r.transitions r.start s ≡ true) spots n []
                (all_map (λ (s : ℕ). among s (queued spots n []) ≡ true) (λ (s : ℕ). leads r.transitions r.start s ≡ true)
                (λ s e. sym (reaches.reached s) ∙ e) (queued spots n []) (all_among (queued spots n [])))
                (k - 1) (omega (arith, w.within));
          }

      last : outgoing (queued spots k []) r.transitions
          ≡ length (leaving (state_of p) r.transitions) + outgoing (queued spots (k - 1) []) r.transitions
      last = ap (λ (fs : List ℕ). outgoing fs r.transitions) (queued-last spots k [] more)

      pub over_room : end + length (leaving (state_of (get_or spots (k - 1) 0)) r.transitions) ≤ edge_start + length r.transitions
      over_room = omega (arith, w.room, last)

      pub over_next : {good₁ queue₁ words₁ rows₁ : List ℕ} {end₁ : ℕ} {set₁ : List Bool}
          → Goes bound r (get_or spots (k - 1) 0) stamp end w.states w.transitions set good₁ queue₁ words₁ rows₁ end₁ set₁
          → Over bound tb number r stamp spots n good₁ queue₁ words₁ rows₁ end₁ set₁ (k - 1)
      over_next {set₁ = set₁} g =
          record {
            states = g.states;
            transitions = g.transitions;
            sweeping = g.sweeping;
            gone = λ i l m. gone₁ i l m (eqb i (k - 1)) refl;
            within = omega (arith, w.within);
            room = omega (arith, w.room, last, g.most);
          }
        where
          gone₁ : (i : ℕ) → k - 1 ≤ i → i < n → (c : Bool) → eqb i (k - 1) ≡ c
              → Gone r g.states g.transitions set₁ (state_of (get_or spots i 0))
          gone₁ i l m true e = let y : i ≡ k - 1 = eqb-true i (k - 1) e in rw y g.gone
          gone₁ i l m false e = let y = eqb-false i (k - 1) e in gone_later g.later (w.gone i (omega arith) m)

    pub over_end : k ≡ 0 → (b : ℕ) → b < 256 → get_or set b false ≡ used r b
    over_end z = swept_used w.sweeping.sweep (queued spots n []) reaches.reached
        (queued-all (Gone r w.states w.transitions set) spots n [] tt (λ i l. w.gone i (omega arith) l))

    pub over_storage : {edges : ℕ} {good₀ queue₀ words₀ rows₀ : List ℕ} → Storage bound edges stamp good₀ queue₀ words₀ rows₀
        → length words ≡ length words₀ → Storage bound edges (stamp + 1) good queue words rows
    over_storage o e =
        record {
          unmarked = worklist_unmarked w.sweeping.worklist;
          slots = w.sweeping.worklist.slots;
          unstamped = record {
            cells = w.sweeping.waiting.cells;
            earlier = λ s l. omega (arith, w.sweeping.waiting.stamps s l);
          };
          room = omega (arith, o.room);
          short = omega (arith, o.short);
        }

-- whatever rule it is that the spots were reached for
abbrev pub Overs : (tb : List ℕ) (stamp : ℕ) (spots : List ℕ) (n : ℕ) (good₀ queue₀ words₀ rows₀ good queue words rows : List ℕ)
    (end : ℕ) (set : List Bool) (k : ℕ) → Type 0
Overs tb stamp spots n good₀ queue₀ words₀ rows₀ good queue words rows end set k =
    (bound edges : ℕ) → Storage bound edges stamp good₀ queue₀ words₀ rows₀
    → (number : ℕ) (r : Rule) → Table tb number r → (seen : List ℕ) → Reaches bound tb number r stamp seen spots n
    → Over bound tb number r stamp spots n good queue words rows end set k

pub over_ready : {tb : List ℕ} {stamp : ℕ} {spots : List ℕ} {n : ℕ} {good₀ queue₀ words₀ rows₀ : List ℕ} {set₀ : List Bool}
    (a : Ready tb stamp spots n good₀ queue₀ words₀ rows₀ set₀)
    {good queue words rows : List ℕ} {end : ℕ} {set : List Bool} {k : ℕ}
    → Overs tb stamp spots n good₀ queue₀ words₀ rows₀ good queue words rows end set k
    → Over a.bound tb a.number a.fitted.rule stamp spots n good queue words rows end set k
over_ready a w = w a.bound a.edges a.storage a.number a.fitted.rule a.fitted.table a.seen a.reaches

-- so there is a spot at k - 1
pub over_spot : {tb : List ℕ} {stamp : ℕ} {spots : List ℕ} {n : ℕ} {good₀ queue₀ words₀ rows₀ : List ℕ} {set₀ : List Bool}
    (a : Ready tb stamp spots n good₀ queue₀ words₀ rows₀ set₀)
    {good queue words rows : List ℕ} {end : ℕ} {set : List Bool} {k : ℕ}
    → Over a.bound tb a.number a.fitted.rule stamp spots n good queue words rows end set k → 0 < k
    → (k - 1 < length spots) × (length spots ≤ state_count)
over_spot a w l = let m = worklist_most a.reaches.worklist in (omega (arith, w.within, m.0), m.1)

-- and its state can be gone through
pub over_sweepable : {tb : List ℕ} {stamp : ℕ} {spots : List ℕ} {n : ℕ} {good₀ queue₀ words₀ rows₀ : List ℕ} {set₀ : List Bool}
    (a : Ready tb stamp spots n good₀ queue₀ words₀ rows₀ set₀)
    {good queue words rows : List ℕ} {end : ℕ} {set : List Bool} {k : ℕ}
    → Over a.bound tb a.number a.fitted.rule stamp spots n good queue words rows end set k → 0 < k → length words ≡ length words₀
    → Sweepable tb (get_or spots (k - 1) 0) stamp good queue words rows end set
over_sweepable a w l e =
    let led = over_led a.fitted.table a.reaches w l in
    let r = over_room a.fitted.table a.reaches w l in
    record {
      bound = a.bound;
      number = a.number;
      rule = a.fitted.rule;
      led = led;
      tos = a.fitted.fits.tos;
      states = w.states;
      transitions = w.transitions;
      sweeping = w.sweeping;
      room = omega (arith, r, a.fitted.fits.few, a.storage.room);
      short = omega (arith, a.storage.short);
      stamp_below = a.stamp_below;
    }

-- ---- working storage for the next rule

pub storage_same : {bound bound₁ edges stamp : ℕ} {good queue words rows : List ℕ} → bound ≡ bound₁
    → Storage bound edges stamp good queue words rows → Storage bound₁ edges stamp good queue words rows
storage_same {edges = edges} {stamp} {good} {queue} {words} {rows} e o =
    subst (λ (x : ℕ). Storage x edges stamp good queue words rows) e o

pub reaches-room : {bound edges : ℕ} {tb : List ℕ} {k : ℕ} {r : Rule} {seen spots : List ℕ} {n : ℕ} {good queue words rows : List ℕ}
    (rule : ℕ) → Reaches bound tb k r (rule + 1) seen spots n → Storage bound edges (rule + 1 + 1) good queue words rows
    → Room bound edges (rule + 2) seen spots good queue words rows
reaches-room rule w s =
    let e : rule + 1 + 1 ≡ rule + 2 = omega arith in
    record {
      unseen = rw e at (worklist_unmarked w.worklist);
      slots = w.worklist.slots;
      storage = rw e at s;
    }

blank_at : (n s : ℕ) → get_or (replicate {A = ℕ} n 0) s 0 ≡ 0
blank_at zero s = refl
blank_at (suc n) zero = refl
blank_at (suc n) (suc s) = blank_at n s

pub room_fresh : (bound edges words : ℕ) → bound ≤ state_count → edge_start + edges ≤ words → words < 65536
    → Room bound edges 1 (replicate bound 0) (replicate bound 0) (replicate bound 0) (replicate bound 0) (replicate words 0)
    (replicate bound 0)
room_fresh bound edges words w l m =
    let n : length (replicate {A = ℕ} bound 0) ≡ bound = length-replicate {A = ℕ} bound 0 in
    let u : Unmarked bound (replicate bound 0) 1 =
    record { within = w; cells = n; earlier = λ s. rw (blank_at bound s) (omega arith) } in
    let q = length-replicate {A = ℕ} words 0 in
    record {
      unseen = u;
      slots = n;
      storage = record {
        unmarked = u;
        slots = n;
        unstamped = record { cells = n; earlier = λ s k. rw (blank_at bound s) (omega arith) };
        room = rw q l;
        short = rw q m;
      };
    }
