-- What the code makes of a command is what `apply` says: a law for each way out of each command. Assumes nothing.
use Rattle.answer.specs.declared.Reason.TheVariants.{BytesAfterEnd, ErrorFinal, LeavesError, NoRule, OutOfRange, Overlap, StartFinal, TagTaken, TooMany, TwiceOrMissing}
use Rattle.answer.specs.declared.Reason.{Reason}
use Rattle.answer.specs.declared.Refusal.{Refusal}
use Rattle.std.specs.Prelude.{Result, Ok, Err, Some, None, is_some}
use mathlib.Core.Path.{◌≡◌, refl, sym, ◌∙◌, ap}
use mathlib.Core.Bool.{Bool, true, false, ◌||◌}
use mathlib.Core.List.{List, [], ◌∷◌}
use mathlib.Core.Option.{Option, none, some}
use Prim.Native.Nat.{ℕ, suc, ◌+◌, ◌-◌, ◌%◌, ◌<◌, ◌≤◌}
use native.Mathlib.Nat.{add-zero}
use native.Mathlib.Omega.{arith}
use lib.Dec.{leb, ltb, eqb}
use lib.ListN.{length, set, length-append}
use borrow.Author.Tests.{eq-eqb, ne_eqb, leb-false, ltb-false, le-leb, lt-leb, lt-ltb, le-ltb}
use Rattle.automaton.specs.Choice.{if, any, among}
use Rattle.automaton.specs.Rule.{Transition, Rule, meets, overlaps, state_count}
use Rattle.automaton.proofs.Listed.{listed_length, listed_below}
use Rattle.automaton.specs.Layers.{edge_word, bare_spot, leaving, Chain, Held}
use Rattle.automaton.proofs.Tests.{or_true, or_false}
use Rattle.table_builder.specs.Layers.{row_word, cell_at, head_in, final_in, shares, Built}
use Rattle.table_builder.proofs.Built.{head_none, head_some, meets-shares, built_order}
use Rattle.command.specs.declared.Command.{Command}
use Rattle.command.specs.declared.Command.TheVariants.{Rule as RULE, Final, Close, End}
use Rattle.book.specs.declared.Book.{Book}
use Rattle.book.specs.declared.Progress.{Progress}
use Rattle.book.specs.declared.Progress.TheVariants.{On, Done}
use Rattle.book.specs.Limits.{max_rules, max_transitions}
use Rattle.book.specs.Draft.{Draft, opened, is_set, is_unset, state_of, rule_of}
use Rattle.book.specs.Draft.{Verdict, goes, check, tagged, is_empty, no_state, move, apply}
use Rattle.book.specs.Layers.{Fine, given, state_in, once, book_of, idle, edge_limit, Stored, Represents, Represented, Inside, Closes, Follows}
use Rattle.book.specs.Layers.{stands_inside}
use Rattle.book.proofs.Fine.{Good, apply_good, move_good, state_below, closed-rule}
use Rattle.book.proofs.Filling.{stored-final, stored_edge, stored-closed}

abbrev pub refusal : Reason → ℕ → Result Progress Refusal
refusal reason place = Err (record { reason = reason; place = place })

either_way : (a b : Bool) → if a true b ≡ if b true a
either_way true true = refl
either_way true false = refl
either_way false true = refl
either_way false false = refl

-- reading goes on with a draft that is fine and stored
on : {b : Book} {tb rows : List ℕ} (d : Draft) {f m n : ℕ} → Fine d → Stored f m tb rows d.rules d.finals d.transitions
    → b ≡ book_of d f m → m ≤ n → Follows (goes d) (Ok (On b)) tb rows n
on d f st e l = rw e (record { fine = f; stored = st; same = refl }, l)

-- ---- what a `Book` tells of its draft

state_given : (o : Option ℕ) → state_in (given o) ≡ state_of o
state_given none = refl
state_given (some s) = refl

module _ {b : Book} {tb rows : List ℕ} {d : Draft} (h : Represents b tb rows d) where
  pub rules_are : b.rules ≡ length d.rules
  rules_are = ap (λ (x : Book). x.rules) h.same

  pub inside_is : b.inside ≡ d.inside
  inside_is = ap (λ (x : Book). x.inside) h.same

  pub start_given : b.start ≡ given d.start
  start_given = ap (λ (x : Book). x.start) h.same

  pub error_given : b.error ≡ given d.error
  error_given = ap (λ (x : Book). x.error) h.same

  start_is : state_of d.start ≡ state_in b.start
  start_is = rw start_given (sym (state_given d.start))

  error_is : state_of d.error ≡ state_in b.error
  error_is = rw error_given (sym (state_given d.error))

  count_is : b.edges ≡ b.first + length d.transitions
  count_is = listed_length tb b.first b.edges d.transitions h.stored.built.listed

  overlap_is : b.overlap ≡ overlaps d.transitions
  overlap_is = ap (λ (x : Book). x.overlap) h.same

  start_small : state_in b.start < state_count
  start_small = rw start_is at (state_below d.start h.fine.start)

  error_small : state_in b.error < state_count
  error_small = rw error_is at (state_below d.error h.fine.error)

-- ---- START and ERROR: a state that is given once, after o

module _ (tb rows : List ℕ) (at n s : ℕ) where
  pub no_state_lem : (w : Verdict) {t : Bool} → t ≡ no_state s → t ≡ true → Follows (check (no_state s) OutOfRange at w) (refusal OutOfRange at) tb rows n
  unfolding check
  no_state_lem w seen e = rw (sym seen ∙ e)

  abbrev pub once_more : Option ℕ → Draft → Verdict
  once_more o d = check (no_state s) OutOfRange at (check (is_set o) TwiceOrMissing at (goes d))

  pub once_refused : (o : Option ℕ) (d : Draft) {f : Refusal} → Err f ≡ once (given o) s at → Follows (once_more o d) (Err f) tb rows n
  unfolding check once
  once_refused o d {f} e = go (no_state s) o e
    where
      go : (t : Bool) (o : Option ℕ)
          → ◌≡◌ {A = Result ℕ Refusal} (Err f) (if t (Err (record { reason = OutOfRange; place = at }))
          (if (is_some (given o)) (Err (record { reason = TwiceOrMissing; place = at })) (Ok s)))
          → Follows (check t OutOfRange at (check (is_set o) TwiceOrMissing at (goes d))) (Err f) tb rows n
      go true o e = cc
      go false (some s) e = cc
      go false none e = cc

  pub once_given : (o : Option ℕ) (d : Draft) {t : ℕ} {b : Book} {f m : ℕ} → Ok t ≡ once (given o) s at → Good (once_more o d)
      → Stored f m tb rows d.rules d.finals d.transitions → (t ≡ s → b ≡ book_of d f m) → m ≤ n → Follows (once_more o d) (Ok (On b)) tb rows n
  unfolding check once
  once_given o d {t = t₀} {b = b} {f = f} {m = m} e g st q l = go (no_state s) o e g
    where
      go : (t : Bool) (o : Option ℕ)
          → ◌≡◌ {A = Result ℕ Refusal} (Ok t₀) (if t (Err (record { reason = OutOfRange; place = at }))
          (if (is_some (given o)) (Err (record { reason = TwiceOrMissing; place = at })) (Ok s)))
          → Good (check t OutOfRange at (check (is_set o) TwiceOrMissing at (goes d)))
          → Follows (check t OutOfRange at (check (is_set o) TwiceOrMissing at (goes d))) (Ok (On b)) tb rows n
      go true o e g = cc
      go false (some s) e g = cc
      go false none e g = on d g st (q cc) l

-- ---- END

empty_or_not : (rules : List Rule) → is_empty rules ≡ eqb (length rules) 0
empty_or_not [] = refl
empty_or_not (r ∷ rs) = let p : 0 < suc (length rs) = omega arith in sym (ne_eqb (suc (length rs)) 0 (λ e. omega arith))

module _ {b : Book} {tb rows : List ℕ} {d : Draft} (h : Represents b tb rows d) (at len n : ℕ) where
  none_closed : b.rules ≡ 0 → is_empty d.rules ≡ true
  none_closed e = empty_or_not d.rules ∙ eq-eqb _ _ (sym (rules_are h) ∙ e)

  some_closed : (b.rules ≡ 0 → ⊥) → is_empty d.rules ≡ false
  some_closed e = empty_or_not d.rules ∙ ne_eqb _ _ (λ z. e (rules_are h ∙ z))

  pub end_empty : b.rules ≡ 0 → Follows (apply d End at len) (refusal NoRule at) tb rows n
  unfolding apply check
  end_empty e = rw (none_closed e)

  pub end_early : (b.rules ≡ 0 → ⊥) → at + 1 < len → Follows (apply d End at len) (refusal BytesAfterEnd (at + 1)) tb rows n
  unfolding apply check
  end_early e l = rw (some_closed e, lt-ltb _ _ l)

  pub end-last : (b.rules ≡ 0 → ⊥) → len ≤ at + 1 → Follows (apply d End at len) (Ok (Done b.rules)) tb rows n
  unfolding apply check
  end-last e l = rw (some_closed e, le-ltb _ _ l) (rules_are h, h.stored.holds)

-- ---- RULE

module _ {b : Book} {tb rows : List ℕ} {d : Draft} (h : Represents b tb rows d) (tag kind at len n : ℕ) where
  pub rule_too_many : max_rules ≤ b.rules → Follows (apply d (RULE tag kind) at len) (refusal TooMany at) tb rows n
  unfolding apply check
  rule_too_many l = rw (← rules_are h, le-leb _ _ l)

  module _ (few : b.rules < max_rules) where
    few_closed : leb max_rules (length d.rules) ≡ false
    few_closed = lt-leb max_rules (length d.rules) (omega (arith, rules_are h))

    pub rule_tag_zero : tag ≡ 0 → Follows (apply d (RULE tag kind) at len) (refusal OutOfRange at) tb rows n
    unfolding apply check
    rule_tag_zero e = rw (few_closed, e)

    module _ (some : tag ≡ 0 → ⊥) where
      pub rule_kind : 1 < kind → Follows (apply d (RULE tag kind) at len) (refusal OutOfRange at) tb rows n
      unfolding apply check
      rule_kind l = rw (few_closed, ne_eqb _ _ some, lt-ltb _ _ l)

      module _ (known : kind ≤ 1) {taken : Bool} (seen : taken ≡ tagged tag d.rules) where
        pub rule_taken : taken ≡ true → Follows (apply d (RULE tag kind) at len) (refusal TagTaken at) tb rows n
        unfolding apply check
        rule_taken e = rw (few_closed, ne_eqb _ _ some, le-ltb _ _ known, sym seen ∙ e)

        pub rule-opened : {b₁ : Book} → taken ≡ false → d.inside ≡ false → tag < 65536 → b.edges ≤ n
            → b₁ ≡ book_of (opened d tag kind) b.edges b.edges → Follows (apply d (RULE tag kind) at len) (Ok (On b₁)) tb rows n
        unfolding apply check
        rule-opened e i l m q =
            let g = apply_good d (RULE tag kind) at len h.fine l (sym i) in
            let f = rw (few_closed, ne_eqb _ _ some, le-ltb _ _ known, sym seen ∙ e) at g in
            let c : b.first ≡ b.edges = sym (rw (h.fine.idle_transitions i) at (count_is h) ∙ add-zero b.first) in
            let z = rw (h.fine.idle_finals i, h.fine.idle_transitions i, c) at h.stored in
            rw (few_closed, ne_eqb _ _ some, le-ltb _ _ known, sym seen ∙ e) (on _ f z q m)

-- ---- what the commands inside a rule ask

-- the states of a move in range
pub move_below : (from low high to : ℕ) {t : Bool} → t ≡ ltb high low || (no_state from || no_state to) → t ≡ false
    → (from < state_count) × (to < state_count)
move_below from low high to seen inside-range =
    let states : no_state from || no_state to ≡ false = (or_false (ltb high low) (no_state from || no_state to) (sym seen ∙ inside-range)).1 in
    let both = or_false (no_state from) (no_state to) states in
    (leb-false _ _ both.0, leb-false _ _ both.1)

-- ---- FINAL

-- inside a rule there is room for it
pub open_room : {b : Book} {tb rows : List ℕ} {d : Draft} → Represents b tb rows d → d.inside ≡ true → b.rules < max_rules
open_room h i = rw (rules_are h) (h.fine.current i).room

module _ {b : Book} {tb rows : List ℕ} {d : Draft} (h : Represents b tb rows d) (i : d.inside ≡ true) where
  pub final_added : (s at len n : ℕ) {rows₁ : List ℕ} {t : Bool} → t ≡ no_state s → t ≡ false → s < length rows → b.edges ≤ n
      → rows₁ ≡ set rows s (row_word (b.rules + 1) (head_in rows (b.rules + 1) s) 1)
      → Follows (apply d (Final s) at len) (Ok (On b)) tb rows₁ n
  unfolding apply check
  final_added s at len n seen state c m e =
      let z : no_state s ≡ false = sym seen ∙ state in
      let f = rw z at (apply_good d (Final s) at len h.fine tt (sym i)) in
      rw (z, e, h.same) (on _ f (stored-final h.stored s c (leb-false _ _ z)) refl m)

  -- ---- STEP and SPAN

  module _ (at from low high to n : ℕ) where
    pub move_too_many : max_transitions ≤ b.edges - b.first → Follows (move d at from low high to) (refusal TooMany at) tb rows n
    unfolding check move
    move_too_many l = rw (le-leb max_transitions (length d.transitions) (omega (arith, count_is h)))

    module _ (few : b.edges - b.first < max_transitions) where
      few_moves : leb max_transitions (length d.transitions) ≡ false
      few_moves = lt-leb max_transitions (length d.transitions) (omega (arith, count_is h))

      module _ {t : Bool} (seen : t ≡ ltb high low || (no_state from || no_state to)) where
        pub move_outside : t ≡ true → Follows (move d at from low high to) (refusal OutOfRange at) tb rows n
        unfolding check move
        move_outside e = rw (few_moves, sym seen ∙ e)

        module _ (inside-range : t ≡ false) where
          range : ltb high low || (no_state from || no_state to) ≡ false
          range = sym seen ∙ inside-range

          order : low ≤ high
          order = ltb-false high low (or_false (ltb high low) (no_state from || no_state to) range).0

          below : (from < state_count) × (to < state_count)
          below = move_below from low high to seen inside-range

          pub move_added : {tb₁ rows₁ : List ℕ} {both : Bool} → high < 256 → from < length rows
              → b.edges < length tb → b.edges < edge_limit → b.edges + 1 ≤ n
              → ((first : ℕ) (ts : List Transition) → Chain tb first (head_in rows (b.rules + 1) from) ts
              → both ≡ if b.overlap true (any (shares low high) ts))
              → tb₁ ≡ set tb b.edges (edge_word low high (head_in rows (b.rules + 1) from) (bare_spot to))
              → rows₁ ≡ set rows from (row_word (b.rules + 1) b.edges (cell_at rows (b.rules + 1) from % 2))
              → Follows (move d at from low high to)
              (Ok (On (record {
                rules = b.rules;
                first = b.first;
                edges = b.edges + 1;
                inside = b.inside;
                tag = b.tag;
                kind = b.kind;
                start = b.start;
                error = b.error;
                overlap = both;
              })))
              tb₁ rows₁ n
          unfolding check move overlaps
          move_added {both = both} hi c more short m joined e₁ e₂ =
              let u : Transition = record { from = from; low = low; high = high; to = to } in
              let fine = rw (few_moves, range) at (move_good d at from low high to h.fine i hi) in
              let k = h.stored.built.chains from below.0 in
              let z : both ≡ if (any (meets u) d.transitions) true (overlaps d.transitions) =
              joined b.first (leaving from d.transitions) (rw (rules_are h) k)
              ∙ rw (meets-shares u d.transitions, overlap_is h) (either_way (overlaps d.transitions) (any (meets u) d.transitions)) in
              let l = order in
              let st = stored_edge h.stored u more (omega arith) c below.0 (omega arith) hi below.1 in
              rw (few_moves, range, e₁, e₂, z, h.same) (on _ fine st refl m)

-- ---- CLOSE

unset_given : (o : Option ℕ) → given o ≡ None → is_unset o ≡ true
unset_given none e = refl
unset_given (some s) e = cc

set_given : (o : Option ℕ) {s : ℕ} → given o ≡ Some s → is_unset o ≡ false
set_given none e = cc
set_given (some s) e = refl

module _ {b : Book} {tb rows : List ℕ} {d : Draft} (h : Represents b tb rows d) (at len n : ℕ) where
  pub close_no_start : b.start ≡ None → Follows (apply d Close at len) (refusal TwiceOrMissing at) tb rows n
  unfolding apply check
  close_no_start e = rw (unset_given d.start (sym (start_given h) ∙ e))

  pub close_no_error : b.error ≡ None → Follows (apply d Close at len) (refusal TwiceOrMissing at) tb rows n
  unfolding apply check
  close_no_error e = rw (unset_given d.error (sym (error_given h) ∙ e), or_true)

  module _ {start error : ℕ} (some_start : b.start ≡ Some start) (some_error : b.error ≡ Some error) where
    both_set : is_unset d.start || is_unset d.error ≡ false
    both_set = rw (set_given d.start (sym (start_given h) ∙ some_start), set_given d.error (sym (error_given h) ∙ some_error))

    start_same : state_of d.start ≡ start
    start_same = start_is h ∙ ap state_in some_start

    error_same : state_of d.error ≡ error
    error_same = error_is h ∙ ap state_in some_error

    start_there : start < state_count
    start_there = rw some_start at (start_small h)

    error_there : error < state_count
    error_there = rw some_error at (error_small h)

    pub close_overlap : b.overlap ≡ true → Follows (apply d Close at len) (refusal Overlap at) tb rows n
    unfolding apply check
    close_overlap e = rw (both_set, ← overlap_is h, e)

    module _ (i : d.inside ≡ true) (apart : b.overlap ≡ false) where
      no_overlap : overlaps d.transitions ≡ false
      no_overlap = sym (overlap_is h) ∙ apart

      built_there : Built tb rows (b.rules + 1) b.first b.edges d.finals d.transitions
      built_there = rw (rules_are h) h.stored.built

      final-mark : (s : ℕ) → s < state_count → {t : Bool} → final_in rows (b.rules + 1) s ≡ t → among s d.finals ≡ t
      final-mark s l e = sym (built_there.finals s l) ∙ e

      pub close_leaves : (head_in rows (b.rules + 1) error ≡ 0 → ⊥) → Follows (apply d Close at len) (refusal LeavesError at) tb rows n
      unfolding apply check
      close_leaves e = rw (both_set, no_overlap, error_same, head_some built_there error error_there e)

      module _ (quiet : head_in rows (b.rules + 1) error ≡ 0) where
        none_leaves : any (λ (t : Transition). eqb t.from (state_of d.error)) d.transitions ≡ false
        none_leaves = rw error_same (head_none built_there error error_there quiet)

        pub close_error_final : final_in rows (b.rules + 1) error ≡ true
            → Follows (apply d Close at len) (refusal ErrorFinal at) tb rows n
        unfolding apply check
        close_error_final e =
            let z : among (state_of d.error) d.finals ≡ true = rw error_same (final-mark error error_there e) in
            rw (both_set, no_overlap, none_leaves, z)

        module _ (fails : final_in rows (b.rules + 1) error ≡ false) where
          error_not_final : among (state_of d.error) d.finals ≡ false
          error_not_final = rw error_same (final-mark error error_there fails)

          pub close_start-final : final_in rows (b.rules + 1) start ≡ true
              → Follows (apply d Close at len) (refusal StartFinal at) tb rows n
          unfolding apply check
          close_start-final e =
              let z : among (state_of d.start) d.finals ≡ true =
              rw start_same (final-mark start start_there e) in
              rw (both_set, no_overlap, none_leaves, error_not_final, z)

          pub close_closed : {tb₁ : List ℕ} → final_in rows (b.rules + 1) start ≡ false → b.edges ≤ n → Closes b rows tb tb₁
              → Follows (apply d Close at len) (Ok (On (idle (b.rules + 1) b.edges))) tb₁ rows n
          unfolding apply check overlaps
          close_closed e m q =
              let z : among (state_of d.start) d.finals ≡ false =
              rw start_same (final-mark start start_there e) in
              let g = apply_good d Close at len h.fine tt (sym i) in
              let f = rw (both_set, no_overlap, none_leaves, error_not_final, z) at g in
              let o = h.fine.current i in
              let v = closed-rule d h.fine o no_overlap none_leaves error_not_final z in
              let w = rw (rules_are h) at q.settles in
              let f₁ = rw (rules_are h, ← (start_is h)) at q.reach in
              let st = stored-closed h.stored (rule_of d) v refl refl o.room q.bytes q.small f₁ w in
              rw (both_set, no_overlap, none_leaves, error_not_final, z)
              (on _ {f = b.edges} {m = b.edges} f (rw (q.stored, h.same, state_given d.start, state_given d.error) st)
              (rw (rules_are h, length-append d.rules (rule_of d ∷ []))) m)

-- ---- what the functions ask

pub outside_held : {b : Book} {tb rows : List ℕ} → Represented b tb rows → Held tb
outside_held k = record { rules = k.draft.rules; holds = k.holds.stored.holds }

-- by a command that stands inside a rule
pub inside_room : {b : Book} {tb rows : List ℕ} {c c₁ : Command} → Represented b tb rows → b.inside ≡ stands_inside c → c ≡ c₁
    → stands_inside c₁ ≡ true → Inside b tb rows
inside_room {b} {tb} {rows} k e f z =
    let h = k.holds in
    let i = sym (inside_is h) ∙ e ∙ ap stands_inside f ∙ z in
    let st : Built tb rows (b.rules + 1) b.first b.edges k.draft.finals k.draft.transitions =
    rw (rules_are h) h.stored.built in
    record {
      few = open_room h i;
      head = h.stored.holds.room;
      start = st.start;
      order = built_order st;
      room = st.room;
      short = st.short;
      chains = λ s l. record { first = b.first; transitions = leaving s k.draft.transitions; chain = st.chains s l };
      tops = st.tops;
      below = listed_below tb b.first b.edges k.draft.transitions h.fine.ranged st.listed;
      start_below = start_small h;
    }
