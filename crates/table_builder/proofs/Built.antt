-- The table of a rule while it is filled: a transition more, a final state more, the spots put in at the end, and what a change elsewhere
-- leaves alone. Assumes nothing.
use mathlib.Core.Path.{◌≡◌, refl, sym, ◌∙◌, ap, subst}
use mathlib.Core.Bool.{Bool, true, false, not, ◌&&◌, ◌||◌}
use mathlib.Core.Logic.{◌⊎◌, inl, inr}
use mathlib.Core.List.{List, [], ◌∷◌}
use Prim.Native.Nat.{ℕ, ◌+◌, ◌-◌, ◌*◌, ◌/◌, ◌%◌, ◌<◌, ◌≤◌}
use native.Mathlib.Omega.{arith}
use lib.ListN.{length, get_or, set, length-set, get_or-eq_default}
use lib.Seq.{get_or-set_same, get_or-set_other}
use lib.Dec.{eqb, leb}
use borrow.Author.Tests.{eq-eqb, ne_eqb, eqb-true, eqb-false}
use Rattle.automaton.specs.Choice.{if, All, any, among}
use Rattle.automaton.specs.Rule.{Transition, Rule, meets, Ranged, state_count}
use Rattle.automaton.specs.Layers.{edge_start, low_of, high_of, next_of, to_of, spot_of, edge_word, bare_spot, state_of, head_of}
use Rattle.automaton.specs.Layers.{edge_at, name_at, body_at, first_of, end_of, Edge, Listed, Chain, leaving}
use Rattle.automaton.specs.Layers.{start_word, Within, Spot, Opens, Body, Table}
use Rattle.automaton.proofs.Listed.{listed_order, listed_below}
use Rattle.table_builder.specs.Layers.{shares, stamp_at, row_word, cell_at, head_in, spot_at, settled, Built, Settles}

-- ---- words, taken apart

record Parts (a b c d : ℕ) : Type 0 where
  low : low_of (edge_word a b c d) ≡ a
  high : high_of (edge_word a b c d) ≡ b
  next : next_of (edge_word a b c d) ≡ c
  spot : spot_of (edge_word a b c d) ≡ d

word_parts : (low high next spot : ℕ) → low < 256 → high < 256 → next < 65536 → Parts low high next spot
word_parts low high next spot l h n = record { low = omega arith; high = omega arith; next = omega arith; spot = omega arith }

spot_state : (h s m : ℕ) → s < 32768 → m < 2 → state_of (h * 65536 + s * 2 + m) ≡ s
spot_state h s m l b =
    let q : (h * 65536 + s * 2 + m) / 2 ≡ h * 32768 + s = omega arith in
    rw q (omega arith)

pub cell_small : (rows : List ℕ) (stamp s : ℕ) → cell_at rows stamp s < 131072
cell_small rows stamp s = go (eqb (stamp_at rows s) stamp)
  where
    go : (c : Bool) → if c (get_or rows s 0 % 131072) 0 < 131072
    go true = omega arith
    go false = omega arith

-- a cell that is not there is empty
pub cell_none : (rows : List ℕ) (stamp s : ℕ) → length rows ≤ s → cell_at rows stamp s ≡ 0
cell_none rows stamp s l = rw (get_or-eq_default rows 0 l) (go (eqb (0 / 131072) stamp))
  where
    go : (c : Bool) → if c (0 % 131072) 0 ≡ 0
    go true = refl
    go false = refl

-- one cell stored: the bound of the stamps
pub stamp_set : (rows : List ℕ) (stamp j head mark : ℕ) → j < length rows → head * 2 + mark < 131072
    → ((s : ℕ) → s < state_count → stamp_at rows s ≤ stamp)
    → (s : ℕ) → s < state_count → stamp_at (set rows j (row_word stamp head mark)) s ≤ stamp
stamp_set rows stamp j head mark r l h s k = go (eqb s j) refl
  where
    go : (t : Bool) → eqb s j ≡ t → stamp_at (set rows j (row_word stamp head mark)) s ≤ stamp
    go true e = rw (eqb-true s j e, get_or-set_same rows j (row_word stamp head mark) 0 r) (omega arith)
    go false e = rw (get_or-set_other rows j s (row_word stamp head mark) 0 (eqb-false s j e)) (h s k)

-- ---- what a change leaves alone

-- the transitions from first to before end are the same in both tables, whatever spots they have
pub record Agrees (tb tb₁ : List ℕ) (first end : ℕ) : Type 0 where
  pub length_same : length tb₁ ≡ length tb
  pub low_same : (i : ℕ) → first ≤ i → i < end → low_of (edge_at tb₁ i) ≡ low_of (edge_at tb i)
  pub high_same : (i : ℕ) → first ≤ i → i < end → high_of (edge_at tb₁ i) ≡ high_of (edge_at tb i)
  pub next_same : (i : ℕ) → first ≤ i → i < end → next_of (edge_at tb₁ i) ≡ next_of (edge_at tb i)
  pub to_same : (i : ℕ) → first ≤ i → i < end → to_of (edge_at tb₁ i) ≡ to_of (edge_at tb i)

module _ {tb tb₁ : List ℕ} {first end : ℕ} (a : Agrees tb tb₁ first end) where
  edge_agrees : {i : ℕ} {t : Transition} → first ≤ i → i < end → Edge tb i t → Edge tb₁ i t
  edge_agrees {i} f l e =
      record {
        room = rw a.length_same e.room;
        low = a.low_same i f l ∙ e.low;
        high = a.high_same i f l ∙ e.high;
        to = a.to_same i f l ∙ e.to;
      }

  pub chain_agrees : (h : ℕ) (ts : List Transition) → h < end → Chain tb first h ts → Chain tb₁ first h ts
  chain_agrees h [] l c = c
  chain_agrees h (t ∷ ts) l (k, c) =
      let q = a.next_same h k.above l in (
        record { some = k.some; above = k.above; back = rw q k.back; edge = edge_agrees k.above l k.edge },
        rw q (chain_agrees (next_of (edge_at tb h)) ts (omega (arith, k.back)) c),
      )

  pub listed_agrees : (e : ℕ) (ts : List Transition) → e ≤ end → Listed tb first e ts → Listed tb₁ first e ts
  listed_agrees e [] l c = c
  listed_agrees e (t ∷ ts) l (f, k, c) =
      (f, edge_agrees (omega arith) (omega arith) k, listed_agrees (e - 1) ts (omega arith) c)

  pub spot_agrees : {fs : List ℕ} {ts : List Transition} {s p : ℕ} → Spot tb first end fs ts s p → Spot tb₁ first end fs ts s p
  spot_agrees {ts = ts} {s} {p} k =
      record { state = k.state; chain = chain_agrees (head_of p) (leaving s ts) k.below k.chain; below = k.below; final = k.final }

  pub opens_agrees : {ts : List Transition} {s p : ℕ} → Opens tb first end ts s p → Opens tb₁ first end ts s p
  opens_agrees {ts} {s} {p} k =
      record { chain = chain_agrees (head_of p) (leaving s ts) k.below k.chain; below = k.below; reach = k.reach }

-- the words from first to before end are the same in both tables
pub record Keeps (tb tb₁ : List ℕ) (first end : ℕ) : Type 0 where
  pub length_same : length tb₁ ≡ length tb
  pub words : (i : ℕ) → first ≤ i → i < end → edge_at tb₁ i ≡ edge_at tb i

pub keeps_set : (tb : List ℕ) (first end n v : ℕ) → (n < first) ⊎ (end ≤ n) → Keeps tb (set tb n v) first end
keeps_set tb first end n v (inl l) =
    record { length_same = length-set tb n v; words = λ i f e. get_or-set_other tb n i v 0 (λ z. omega arith) }
keeps_set tb first end n v (inr l) =
    record { length_same = length-set tb n v; words = λ i f e. get_or-set_other tb n i v 0 (λ z. omega arith) }

module _ {tb tb₁ : List ℕ} {first end : ℕ} (k : Keeps tb tb₁ first end) where
  pub keeps_agrees : Agrees tb tb₁ first end
  keeps_agrees =
      record {
        length_same = k.length_same;
        low_same = λ i f l. ap low_of (k.words i f l);
        high_same = λ i f l. ap high_of (k.words i f l);
        next_same = λ i f l. ap next_of (k.words i f l);
        to_same = λ i f l. ap to_of (k.words i f l);
      }

  pub body_keeps : {fs : List ℕ} {ts : List Transition} → Body tb first end fs ts → Body tb₁ first end fs ts
  body_keeps {fs} {ts} b =
      record {
        room = rw k.length_same b.room;
        listed = listed_agrees keeps_agrees end ts (omega arith) b.listed;
        spots = λ i f l. rw (k.words i f l) (spot_agrees keeps_agrees (b.spots i f l));
      }

-- a rule is still there where its two words and its transitions are
pub table_keeps : {tb tb₁ : List ℕ} {k : ℕ} {r : Rule} → name_at tb₁ k ≡ name_at tb k → body_at tb₁ k ≡ body_at tb k
    → Keeps tb tb₁ (first_of (body_at tb k)) (end_of (body_at tb k)) → Table tb k r → Table tb₁ k r
table_keeps {tb} {tb₁} {k} {r} n b s t =
    record {
      number = t.number;
      room = rw s.length_same t.room;
      name = n ∙ t.name;
      kind = t.kind;
      start = rw b (opens_agrees (keeps_agrees s) t.start);
      body = rw b (body_keeps s t.body);
      sound = t.sound;
      few = t.few;
    }

-- ---- a new link in front of a chain

module _ (tb : List ℕ) (first n h : ℕ) (t : Transition) (room : n < length tb) (short : n < 65536) (f : first ≤ n) (pos : 0 < n)
    (lo : t.low < 256) (hi : t.high < 256) (g : t.to < state_count) (l : h < n) where
  abbrev word : ℕ
  word = edge_word t.low t.high h (bare_spot t.to)

  abbrev tb₁ : List ℕ
  tb₁ = set tb n word

  here : edge_at tb₁ n ≡ word
  here = get_or-set_same tb n word 0 room

  parts₁ : Parts t.low t.high h (bare_spot t.to)
  parts₁ = word_parts t.low t.high h (bare_spot t.to) lo hi (omega arith)

  pub new_edge : Edge (set tb n (edge_word t.low t.high h (bare_spot t.to))) n t
  new_edge =
      record {
        room = simp length-set room;
        low = ap low_of here ∙ parts₁.low;
        high = ap high_of here ∙ parts₁.high;
        to = ap to_of here ∙ ap state_of parts₁.spot ∙ (omega arith);
      }

  next_here : next_of (edge_at tb₁ n) ≡ h
  next_here = ap next_of here ∙ parts₁.next

  pub chain_more : (ts : List Transition) → Chain tb first h ts
      → Chain (set tb n (edge_word t.low t.high h (bare_spot t.to))) first n (t ∷ ts)
  chain_more ts c = (
    record { some = pos; above = f; back = rw next_here l; edge = new_edge },
    rw next_here (chain_agrees (keeps_agrees (keeps_set tb first n n word (inr (omega arith)))) h ts l c),
  )

-- ---- the cells of an open rule

leaving_hit : (s : ℕ) (t : Transition) (ts : List Transition) → t.from ≡ s → leaving s (t ∷ ts) ≡ t ∷ leaving s ts
unfolding leaving
leaving_hit s t ts e = rw (eq-eqb t.from s e)

leaving_miss : (s : ℕ) (t : Transition) (ts : List Transition) → (t.from ≡ s → ⊥) → leaving s (t ∷ ts) ≡ leaving s ts
unfolding leaving
leaving_miss s t ts e = rw (ne_eqb t.from s e)

-- The cell of state `from` becomes one with this head and mark. What holds of it, and of the other states' cells before, holds of all now.
module _ (rows : List ℕ) (stamp from head mark : ℕ) (room : from < length rows)
    (short : head < 65536) (bit : mark < 2) (P : ℕ → ℕ → Type 0) where
  abbrev rows₁ : List ℕ
  rows₁ = set rows from (row_word stamp head mark)

  there : cell_at rows₁ stamp from ≡ head * 2 + mark
  there =
      let q : get_or rows₁ from 0 ≡ row_word stamp head mark = get_or-set_same rows from (row_word stamp head mark) 0 room in
      let d : row_word stamp head mark / 131072 ≡ stamp = omega arith in
      let m : row_word stamp head mark % 131072 ≡ head * 2 + mark = omega arith in
      rw (q, eq-eqb _ _ d, m)

  other : (s : ℕ) → (from ≡ s → ⊥) → cell_at rows₁ stamp s ≡ cell_at rows stamp s
  other s n = rw (get_or-set_other rows from s (row_word stamp head mark) 0 (λ z. n (sym z)))

  stored : P from (head * 2 + mark) → ((s : ℕ) → s < state_count → (from ≡ s → ⊥) → P s (cell_at rows stamp s))
      → (s : ℕ) → s < state_count → P s (cell_at (set rows from (row_word stamp head mark)) stamp s)
  stored p q s l = go (eqb from s) refl
    where
      go : (e : Bool) → eqb from s ≡ e → P s (cell_at rows₁ stamp s)
      go true e = subst (λ (x : ℕ). P x (cell_at rows₁ stamp x)) (eqb-true from s e) (subst (P from) (sym there) p)
      go false e = let n = eqb-false from s e in subst (P s) (sym (other s n)) (q s l n)

module _ {tb rows : List ℕ} {stamp first end : ℕ} {fs : List ℕ} {ts : List Transition} (b : Built tb rows stamp first end fs ts) where
  pub built_order : first ≤ end
  built_order = listed_order tb first end ts b.listed

  -- a transition more
  module _ (t : Transition) (room : end < length tb) (short : end + 1 < 65536) (cell-there : t.from < length rows) (f : t.from < state_count)
      (lo : t.low < 256) (hi : t.high < 256) (g : t.to < state_count) where
    abbrev cell : ℕ
    cell = cell_at rows stamp t.from

    abbrev word₁ : ℕ
    word₁ = edge_word t.low t.high (cell / 2) (bare_spot t.to)

    same : Keeps tb (set tb end word₁) first end
    same = keeps_set tb first end end word₁ (inr (omega arith))

    stored₁ : (P : ℕ → ℕ → Type 0) → P t.from (end * 2 + cell % 2)
        → ((s : ℕ) → s < state_count → (t.from ≡ s → ⊥) → P s (cell_at rows stamp s))
        → (s : ℕ) → s < state_count → P s (cell_at (set rows t.from (row_word stamp end (cell % 2))) stamp s)
    stored₁ = stored rows stamp t.from end (cell % 2) cell-there (omega arith) (omega arith)

    pub built_edge : Built (set tb end (edge_word t.low t.high (cell_at rows stamp t.from / 2) (bare_spot t.to)))
        (set rows t.from (row_word stamp end (cell_at rows stamp t.from % 2))) stamp first (end + 1) fs (t ∷ ts)
    built_edge =
        let h : (end * 2 + cell % 2) / 2 ≡ end = omega arith in
        let m : (end * 2 + cell % 2) % 2 ≡ cell % 2 = omega arith in
        let z : end + 1 - 1 ≡ end = omega arith in
        let pos : 0 < end = omega (arith, b.start, built_order) in
        record {
          start = b.start;
          room = simp length-set (omega arith);
          short = short;
          listed = (
            omega (arith, built_order),
            rw z (new_edge tb first end (cell / 2) t room (omega arith) built_order pos lo hi g (b.tops t.from f)),
            rw z (listed_agrees (keeps_agrees same) end ts (omega arith) b.listed),
          );
          chains = stored₁ (λ s x. Chain (set tb end word₁) first (x / 2) (leaving s (t ∷ ts)))
              (rw (leaving_hit t.from t ts refl, h)
              (chain_more tb first end (cell / 2) t room (omega arith) built_order pos lo hi g (b.tops t.from f) (leaving t.from ts)
              (b.chains t.from f)))
              (λ s l ne. rw (leaving_miss s t ts ne)
              (chain_agrees (keeps_agrees same) (cell_at rows stamp s / 2) (leaving s ts) (b.tops s l) (b.chains s l)));
          tops = stored₁ (λ s x. x / 2 < end + 1) (omega arith) (λ s l ne. omega (arith, b.tops s l));
          finals = stored₁ (λ s x. eqb (x % 2) 1 ≡ among s fs) (rw m (b.finals t.from f)) (λ s l ne. b.finals s l);
        }

  -- a final state more
  module _ (f : ℕ) (cell-there : f < length rows) (l : f < state_count) where
    abbrev head : ℕ
    head = cell_at rows stamp f / 2

    stored₂ : (P : ℕ → ℕ → Type 0) → P f (head * 2 + 1) → ((s : ℕ) → s < state_count → (f ≡ s → ⊥) → P s (cell_at rows stamp s))
        → (s : ℕ) → s < state_count → P s (cell_at (set rows f (row_word stamp head 1)) stamp s)
    stored₂ = stored rows stamp f head 1 cell-there (omega (arith, b.tops f l, b.short)) (omega arith)

    pub built_final : Built tb (set rows f (row_word stamp (cell_at rows stamp f / 2) 1)) stamp first end (f ∷ fs) ts
    built_final =
        let h : (head * 2 + 1) / 2 ≡ head = omega arith in
        let m : (head * 2 + 1) % 2 ≡ 1 = omega arith in
        record {
          start = b.start;
          room = b.room;
          short = b.short;
          listed = b.listed;
          chains = stored₂ (λ s x. Chain tb first (x / 2) (leaving s ts)) (rw h (b.chains f l)) (λ s k ne. b.chains s k);
          tops = stored₂ (λ s x. x / 2 < end) (rw h (b.tops f l)) (λ s k ne. b.tops s k);
          finals = stored₂ (λ s x. eqb (x % 2) 1 ≡ eqb s f || among s fs) (rw (m, eq-eqb f f refl))
              (λ s k ne. rw (ne_eqb s f (λ z. ne (sym z))) (b.finals s k));
        }

  -- ---- the spots, put in at the end

  module _ {tb₁ : List ℕ} (w : Settles rows stamp first end tb tb₁) where
    parts : (e : ℕ) → Parts (low_of e) (high_of e) (next_of e) (spot_at rows stamp (to_of e))
    parts e = word_parts (low_of e) (high_of e) (next_of e) (spot_at rows stamp (to_of e)) (omega arith) (omega arith) (omega arith)

    settled-agrees : Agrees tb tb₁ first end
    settled-agrees =
        record {
          length_same = w.same_length;
          low_same = λ i f l. ap low_of (w.inside i f l) ∙ (parts (edge_at tb i)).low;
          high_same = λ i f l. ap high_of (w.inside i f l) ∙ (parts (edge_at tb i)).high;
          next_same = λ i f l. ap next_of (w.inside i f l) ∙ (parts (edge_at tb i)).next;
          to_same = λ i f l. ap to_of (w.inside i f l) ∙ settled_to (edge_at tb i);
        }
      where
        settled_to : (e : ℕ) → to_of (settled rows stamp e) ≡ to_of e
        settled_to e = ap state_of (parts e).spot ∙ spot_state _ (to_of e) _ (omega arith) (omega arith)

    -- of every state
    pub built_spot : (s : ℕ) → s < state_count → Spot tb₁ first end fs ts s (spot_at rows stamp s)
    built_spot s l =
        let c = cell_at rows stamp s in
        let t : c / 2 < end = b.tops s l in
        let h : head_of (spot_at rows stamp s) ≡ c / 2 = omega (arith, b.short) in
        let m : spot_at rows stamp s % 2 ≡ c % 2 = omega arith in
        record {
          state = spot_state (c / 2) s (c % 2) (omega arith) (omega arith);
          chain = rw h (chain_agrees settled-agrees (c / 2) (leaving s ts) t (b.chains s l));
          below = rw h t;
          final = rw m (b.finals s l);
        }

    -- the start, with two bytes that tell of its chain
    pub built_start : (s bytes : ℕ) → s < state_count → bytes < 65536
        → ((first : ℕ) (us : List Transition) → Chain tb first (head_in rows stamp s) us → Within bytes us)
        → Opens tb₁ first end ts s (start_word (head_in rows stamp s) bytes)
    built_start s bytes l k f =
        let t : head_in rows stamp s < end = b.tops s l in
        let h : head_of (start_word (head_in rows stamp s) bytes) ≡ head_in rows stamp s = omega arith in
        let p : low_of (start_word (head_in rows stamp s) bytes) ≡ low_of bytes = omega arith in
        let d : start_word (head_in rows stamp s) bytes / 256 ≡ head_in rows stamp s * 256 + bytes / 256 = omega arith in
        let q : high_of (start_word (head_in rows stamp s) bytes) ≡ high_of bytes = rw d (omega arith) in
        record {
          chain = rw h (chain_agrees settled-agrees (head_in rows stamp s) (leaving s ts) t (b.chains s l));
          below = rw h t;
          reach = rw (p, q) (f first (leaving s ts) (b.chains s l));
        }

    pub built_body : All (Ranged state_count) ts → Body tb₁ first end fs ts
    built_body r =
        record {
          room = rw w.same_length b.room;
          listed = listed_agrees settled-agrees end ts (omega arith) b.listed;
          spots = λ i f l.
              let q : to_of (edge_at tb₁ i) ≡ to_of (edge_at tb i) = settled-agrees.to_same i f l in
              let p : spot_of (edge_at tb₁ i) ≡ spot_at rows stamp (to_of (edge_at tb i)) =
              ap spot_of (w.inside i f l) ∙ (parts (edge_at tb i)).spot in
              rw (q, p) (built_spot (to_of (edge_at tb i)) (listed_below tb first end ts r b.listed i f l));
        }

-- cells that were written for other rules are those of a rule with nothing in it
pub built_blank : (tb rows : List ℕ) (stamp first : ℕ) → edge_start ≤ first → first ≤ length tb → first < 65536
    → ((s : ℕ) → s < state_count → stamp_at rows s ≡ stamp → ⊥) → Built tb rows stamp first first [] []
unfolding leaving
built_blank tb rows stamp first l r h z =
    let q : (s : ℕ) → s < state_count → cell_at rows stamp s ≡ 0 = λ s k. rw (ne_eqb _ _ (z s k)) in
    record {
      start = l;
      room = r;
      short = h;
      listed = refl;
      chains = λ s k. rw (q s k);
      tops = λ s k. rw (q s k) (omega arith);
      finals = λ s k. rw (q s k);
    }

-- other cells that hold the same
pub built_cells : {tb rows rows₁ : List ℕ} {stamp first end : ℕ} {fs : List ℕ} {ts : List Transition}
    → ((s : ℕ) → s < state_count → get_or rows₁ s 0 ≡ get_or rows s 0)
    → Built tb rows stamp first end fs ts → Built tb rows₁ stamp first end fs ts
built_cells e b =
    record {
      start = b.start;
      room = b.room;
      short = b.short;
      listed = b.listed;
      chains = λ s l. rw (e s l) (b.chains s l);
      tops = λ s l. rw (e s l) (b.tops s l);
      finals = λ s l. rw (e s l) (b.finals s l);
    }

-- ---- what the chains and the marks of the cells tell of a rule

abbrev some_there : List Transition → Bool
some_there [] = false
some_there (t ∷ ts) = true

leaves : (ts : List Transition) (s : ℕ) → any (λ (t : Transition). eqb t.from s) ts ≡ some_there (leaving s ts)
unfolding leaving
leaves [] s = refl
leaves (t ∷ ts) s = go (eqb t.from s) (leaves ts s)
  where
    go : (c : Bool) → any (λ (u : Transition). eqb u.from s) ts ≡ some_there (leaving s ts)
        → c || any (λ (u : Transition). eqb u.from s) ts ≡ some_there (if c (t ∷ leaving s ts) (leaving s ts))
    go true ih = refl
    go false ih = ih

chain_some : (tb : List ℕ) (first h : ℕ) (ts : List Transition) → Chain tb first h ts → some_there ts ≡ not (eqb h 0)
chain_some tb first h [] c = rw (eq-eqb h 0 c)
chain_some tb first h (t ∷ ts) (k, c) = let p = k.some in rw (ne_eqb h 0 (λ e. omega arith))

-- a head is 0 exactly where nothing leaves the state
module _ {tb rows : List ℕ} {stamp first end : ℕ} {fs : List ℕ} {ts : List Transition} (b : Built tb rows stamp first end fs ts)
    (s : ℕ) (l : s < state_count) where
  head_leaves : any (λ (t : Transition). eqb t.from s) ts ≡ not (eqb (head_in rows stamp s) 0)
  head_leaves = leaves ts s ∙ chain_some tb first (head_in rows stamp s) (leaving s ts) (b.chains s l)

  pub head_none : head_in rows stamp s ≡ 0 → any (λ (t : Transition). eqb t.from s) ts ≡ false
  head_none z = head_leaves ∙ rw (eq-eqb _ _ z)

  pub head_some : (head_in rows stamp s ≡ 0 → ⊥) → any (λ (t : Transition). eqb t.from s) ts ≡ true
  head_some z = head_leaves ∙ rw (ne_eqb _ _ z)

-- a new transition meets one that is there exactly where it shares a byte with one of its state's chain
pub meets-shares : (t : Transition) (ts : List Transition) → any (shares t.low t.high) (leaving t.from ts) ≡ any (meets t) ts
unfolding leaving
meets-shares t [] = refl
meets-shares t (u ∷ us) = go (eqb u.from t.from) (meets-shares t us)
  where
    go : (c : Bool) → any (shares t.low t.high) (leaving t.from us) ≡ any (meets t) us
        → any (shares t.low t.high) (if c (u ∷ leaving t.from us) (leaving t.from us))
        ≡ (c && (leb t.low u.high && leb u.low t.high)) || any (meets t) us
    go true ih = rw ih
    go false ih = ih
