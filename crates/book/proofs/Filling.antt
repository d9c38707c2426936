-- The table while a book is read: a final state more, a transition more, a rule closed. Assumes nothing.
use mathlib.Core.Path.{◌≡◌, refl, sym, ◌∙◌}
use mathlib.Core.Logic.{inl}
use mathlib.Core.List.{List, [], ◌∷◌, ◌++◌}
use Prim.Native.Nat.{ℕ, ◌+◌, ◌%◌, ◌<◌, ◌≤◌}
use native.Mathlib.Omega.{arith}
use lib.ListN.{length, get_or, set, length-set, length-append, get_or-append}
use lib.Seq.{get_or-set_same, get_or-set_other, get_or_at}
use borrow.Author.Count.{below_more}
use Rattle.automaton.specs.Rule.{Transition, Rule, state_count}
use Rattle.automaton.specs.Layers.{edge_start, name_place, body_place, name_word, body_word, start_of, first_of, end_of, bare_spot, edge_word}
use Rattle.automaton.specs.Layers.{start_word, count_at, name_at, body_at, edge_at}
use Rattle.automaton.specs.Layers.{blank, rule_at, Chain, Within, Table}
use Rattle.table_builder.specs.Layers.{row_word, head_in, cell_at, Settles}
use Rattle.table_builder.proofs.Built.{stamp_set, built_edge, built_final, built_blank, built_cells, built_start, built_body, built_order}
use Rattle.table_builder.proofs.Built.{Keeps, keeps_agrees, opens_agrees, body_keeps, table_keeps}
use Rattle.book.specs.Limits.{max_rules}
use Rattle.book.specs.Valid.{ValidRule}
use Rattle.book.specs.Layers.{Fresh, Stored}

module _ {first end : ℕ} {tb rows : List ℕ} {rules : List Rule} {fs : List ℕ} {ts : List Transition}
    (st : Stored first end tb rows rules fs ts) where
  abbrev stamp : ℕ
  stamp = length rules + 1

  -- a final state more
  pub stored-final : (s : ℕ) → s < length rows → s < state_count
      → Stored first end tb (set rows s (row_word (length rules + 1) (head_in rows (length rules + 1) s) 1)) rules (s ∷ fs) ts
  stored-final s c l =
      record {
        holds = st.holds;
        apart = st.apart;
        stamps = stamp_set rows stamp s (head_in rows stamp s) 1 c
            (omega (arith, st.built.tops s l, st.built.short)) st.stamps;
        built = built_final st.built s c l;
      }

  -- closed rules in a table with the same words before `first`
  module _ {tb₁ : List ℕ} (length_same : length tb₁ ≡ length tb)
      (words : (i : ℕ) → edge_start ≤ i → i < first → edge_at tb₁ i ≡ edge_at tb i)
      (k : ℕ) (l : k < length rules) (n : name_at tb₁ k ≡ name_at tb k) (b : body_at tb₁ k ≡ body_at tb k) where
    still : Table tb₁ k (rule_at rules k)
    still =
        let p = st.apart k l in
        table_keeps n b (record { length_same = length_same; words = λ i f e. words i (omega (arith, p.0)) (omega (arith, p.1)) })
        (st.holds.each k l)

  -- a transition more
  module _ (t : Transition) (more : end < length tb) (short : end + 1 < 65536) (cell-there : t.from < length rows)
      (f : t.from < state_count)
      (lo : t.low < 256) (hi : t.high < 256) (g : t.to < state_count) where
    abbrev word : ℕ
    word = edge_word t.low t.high (head_in rows stamp t.from) (bare_spot t.to)

    order : first ≤ end
    order = built_order st.built

    before : (i : ℕ) → i < end → edge_at (set tb end word) i ≡ edge_at tb i
    before i l = get_or-set_other tb end i word 0 (λ z. omega arith)

    pub stored_edge : Stored first (end + 1) (set tb end (edge_word t.low t.high (head_in rows (length rules + 1) t.from) (bare_spot t.to)))
        (set rows t.from (row_word (length rules + 1) end (cell_at rows (length rules + 1) t.from % 2))) rules fs (t ∷ ts)
    stored_edge =
        let z = st.built.start in
        let o = order in
        let few = st.holds.few in
        record {
          holds = record {
            room = simp length-set st.holds.room;
            few = few;
            count = before 0 (omega arith) ∙ st.holds.count;
            each = λ k l. still (length-set tb end word) (λ i a b. before i (omega arith)) k l
                (before (name_place k) (omega arith)) (before (body_place k) (omega arith));
          };
          apart = λ k l. rw (before (body_place k) (omega arith)) (st.apart k l);
          stamps = stamp_set rows stamp t.from end (cell_at rows stamp t.from % 2) cell-there (omega arith)
              st.stamps;
          built = built_edge st.built t more short cell-there f lo hi g;
        }

  -- the open rule closed
  module _ (r : Rule) (v : ValidRule r) (same-finals : r.finals ≡ fs) (same-transitions : r.transitions ≡ ts)
      (open_room : length rules < max_rules) (bytes : ℕ) (small : bytes < 65536)
      (reach : (first : ℕ) (us : List Transition) → Chain tb first (head_in rows (length rules + 1) r.start) us → Within bytes us)
      {middle : List ℕ} (w : Settles rows (length rules + 1) first end tb middle) where
    abbrev rule : ℕ
    rule = length rules

    abbrev name : ℕ
    name = name_word r.tag r.kind r.error r.start

    abbrev body : ℕ
    body = body_word (start_word (head_in rows stamp r.start) bytes) first end

    abbrev tb₁ : List ℕ
    tb₁ = set (set (set middle (name_place rule) name) (body_place rule) body) 0 (rule + 1)

    same_size : length tb₁ ≡ length tb
    same_size = simp length-set w.same_length

    -- every other word is that of the settled table
    read : (i : ℕ) → 0 < i → (i ≡ name_place rule → ⊥) → (i ≡ body_place rule → ⊥) → edge_at tb₁ i ≡ edge_at middle i
    read i p a b =
        get_or-set_other (set (set middle (name_place rule) name) (body_place rule) body) 0 i (rule + 1) 0 (λ z. omega arith)
        ∙ get_or-set_other (set middle (name_place rule) name) (body_place rule) i body 0 b ∙ get_or-set_other middle (name_place rule) i name 0 a

    old : (i : ℕ) → 0 < i → (i ≡ name_place rule → ⊥) → (i ≡ body_place rule → ⊥) → i < first → edge_at tb₁ i ≡ edge_at tb i
    old i p a b l = read i p a b ∙ w.outside i (inl l)

    name_here : name_at tb₁ rule ≡ name
    name_here =
        let m = w.same_length in
        let l = st.holds.room in
        get_or-set_other (set (set middle (name_place rule) name) (body_place rule) body) 0 (name_place rule) (rule + 1) 0 (λ z. omega arith)
        ∙ get_or-set_other (set middle (name_place rule) name) (body_place rule) (name_place rule) body 0 (λ z. omega arith)
        ∙ get_or-set_same middle (name_place rule) name 0 (omega arith)

    body_here : body_at tb₁ rule ≡ body
    body_here =
        let m = w.same_length in
        let l = st.holds.room in
        get_or-set_other (set (set middle (name_place rule) name) (body_place rule) body) 0 (body_place rule) (rule + 1) 0 (λ z. omega arith)
        ∙ get_or-set_same (set middle (name_place rule) name) (body_place rule) body 0 (simp length-set (omega arith))

    count_here : count_at tb₁ ≡ rule + 1
    count_here =
        let m = w.same_length in
        let l = st.holds.room in
        get_or-set_same (set (set middle (name_place rule) name) (body_place rule) body) 0 (rule + 1) 0 (simp length-set (omega arith))

    first_small : first < 65536
    first_small = omega (arith, built_order st.built, st.built.short)

    first_here : first_of body ≡ first
    first_here = let a = first_small in let b = st.built.short in omega arith

    end_here : end_of body ≡ end
    end_here = let a = first_small in let b = st.built.short in omega arith

    start_here : start_of body ≡ start_word (head_in rows stamp r.start) bytes
    start_here = let a = first_small in let b = st.built.short in omega arith

    keeps : Keeps middle tb₁ first end
    keeps =
        let z = st.built.start in
        record {
          length_same = simp length-set;
          words = λ i f l. read i (omega arith) (λ e. omega arith) (λ e. omega arith);
        }

    more : length (rules ++ (r ∷ [])) ≡ length rules + 1
    more = length-append rules (r ∷ [])

    abbrev Closed : ℕ → Type 0
    Closed k = Table tb₁ k (rule_at (rules ++ (r ∷ [])) k)

    name_old : (k : ℕ) → k < length rules → name_at tb₁ k ≡ name_at tb k
    name_old k l = let z = st.built.start in old (name_place k) (omega arith) (λ e. omega arith) (λ e. omega arith) (omega arith)

    body_old : (k : ℕ) → k < length rules → body_at tb₁ k ≡ body_at tb k
    body_old k l = let z = st.built.start in old (body_place k) (omega arith) (λ e. omega arith) (λ e. omega arith) (omega arith)

    table_old : (k : ℕ) → k < length rules → Closed k
    table_old k l =
        let e : rule_at (rules ++ (r ∷ [])) k ≡ rule_at rules k = get_or-append rules (r ∷ []) blank k l in
        rw e (still same_size (λ i a b. old i (omega arith) (λ q. omega arith) (λ q. omega arith) b) k l (name_old k l) (body_old k l))

    table_new : Closed (length rules)
    table_new =
        let e : rule_at (rules ++ (r ∷ [])) (length rules) ≡ r = get_or_at rules r [] blank (length rules) refl in
        rw e
        (record {
          number = open_room;
          room = rw same_size st.holds.room;
          name = name_here;
          kind = omega (arith, v.kind);
          start = rw (body_here, first_here, end_here, start_here, same-transitions)
              (opens_agrees (keeps_agrees keeps) (built_start st.built w r.start bytes v.sound.start_below small reach));
          body = rw (body_here, first_here, end_here, same-finals, same-transitions)
              (body_keeps keeps (built_body st.built w (rw same-transitions at v.sound.ranged)));
          sound = v.sound;
          few = v.few;
        })

    pub stored-closed : Stored end end
        (set (set (set middle (name_place (length rules)) (name_word r.tag r.kind r.error r.start))
        (body_place (length rules)) (body_word (start_word (head_in rows (length rules + 1) r.start) bytes) first end)) 0 (length rules + 1))
        rows (rules ++ (r ∷ [])) [] []
    stored-closed =
        record {
          holds = record {
            room = rw same_size st.holds.room;
            few = omega (arith, more);
            count = count_here ∙ sym more;
            each = λ k l. below_more Closed (length rules) table_old table_new k (omega (arith, more));
          };
          apart = λ k l. below_more (λ k. (edge_start ≤ first_of (body_at tb₁ k)) × (end_of (body_at tb₁ k) ≤ end)) (length rules)
              (λ k l. rw (body_old k l) ((st.apart k l).0, omega (arith, (st.apart k l).1, built_order st.built)))
              (rw (body_here, first_here, end_here) (st.built.start, omega arith)) k (omega (arith, more));
          stamps = λ s l. omega (arith, st.stamps s l, more);
          built = built_blank tb₁ rows (length (rules ++ (r ∷ [])) + 1) end (omega (arith, st.built.start, built_order st.built))
              (rw same_size st.built.room) st.built.short (λ s l e. omega (arith, st.stamps s l, more));
        }

-- nothing read yet
pub stored_fresh : {tb rows : List ℕ} → Fresh tb rows → Stored edge_start edge_start tb rows [] [] []
stored_fresh {tb} {rows} f =
    record {
      holds = record { room = f.head; few = omega arith; count = f.empty; each = λ k l. absurd (omega arith) };
      apart = λ k l. absurd (omega arith);
      stamps = λ s l. rw (f.zeros s l) (omega arith);
      built = built_blank tb rows 1 edge_start (omega arith) f.head (omega arith) (λ s l e. omega (arith, f.zeros s l));
    }

-- other cells that hold the same
pub stored_cells : {first end : ℕ} {tb rows rows₁ : List ℕ} {rules : List Rule} {fs : List ℕ} {ts : List Transition}
    → ((s : ℕ) → s < state_count → get_or rows₁ s 0 ≡ get_or rows s 0)
    → Stored first end tb rows rules fs ts → Stored first end tb rows₁ rules fs ts
stored_cells e st =
    record {
      holds = st.holds;
      apart = st.apart;
      stamps = λ s l. rw (e s l) (st.stamps s l);
      built = built_cells e st.built;
    }
