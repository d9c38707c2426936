-- The loop of a caller that takes a step for each token, in each pass: what holds of a stage and of the scratch, and how a step keeps it, by
-- the three passes over the records that the tokens say; it ends, and `finish` then answers what is printed.
use Rattle.std.specs.Prelude.{Result, Ok, Err, Option as Maybe, Some, None}
use mathlib.Core.Path.{◌≡◌, refl, sym, ◌∙◌, ap, subst}
use mathlib.Core.Bool.{Bool, true, false}
use mathlib.Core.Option.{Option, none, some}
use mathlib.Core.List.{List, [], ◌∷◌}
use Prim.Native.Nat.{ℕ, zero, suc, ◌+◌, ◌-◌, ◌*◌, ◌<◌, ◌≤◌}
use native.Mathlib.Omega.{arith}
use lib.Dec.{ltb, eqb}
use lib.ListN.{length, take, drop}
use lib.Seq.{paste, length-take-le}
use borrow.Author.Tests.{ltb-true, ltb-false, eqb-true, eqb-false}
use Rattle.answer.specs.declared.Refusal.{Refusal}
use Rattle.answer.specs.declared.Reason.{Reason}
use Rattle.answer.specs.declared.Reason.TheVariants.{TooManyTokens, OutputTooLong, ReadOn}
use Rattle.automaton.specs.Choice.{if}
use Rattle.automaton.specs.Rule.{Rule}
use Rattle.automaton.specs.Layers.{Holds}
use Rattle.automaton.proofs.Tests.{clash}
use Rattle.book.specs.Limits.{max_text, max_tokens}
use Rattle.reader.specs.Reading.{read_book, accepted}
use Rattle.reader.specs.Layers.{Loaded}
use Rattle.longest_match.specs.Lexer.{join}
use Rattle.longest_match.specs.Layers.{Chooses}
use Rattle.longest_match.proofs.Held.{held_empty}
use Rattle.record.specs.Records.{record_count}
use Rattle.record.specs.declared.TokenRecord.{TokenRecord}
use Rattle.record.specs.Tokens.{record_at, records_of, tokens_of}
use Rattle.record.specs.Encoding.{Fits}
use Rattle.reader.proofs.Loaded.{loaded_rules}
use Rattle.token_list.specs.Faults.{fault_of}
use Rattle.token_list.specs.Layers.{Spanned, Faultless}
use Rattle.token_list.proofs.Passes.{faultless_pool, Joining, joining_start, joining_pool, joining_room, joining_next, joining_end}
use Rattle.printer.specs.Outcome.{print_checked, print_rules, print_outcome}
use Rattle.output.specs.Layers.{PrintAnswered}
use Rattle.printer.specs.Layers.{Clean}
use Rattle.printer.proofs.Rehearsing.{spanned_fitting, spanned_laid}
use Rattle.printer.proofs.ByRules.{answered_long, answered_extended, answered_many, answered_fault, answered_checked, clean_written}
use Rattle.printer.proofs.Outcomes.{answered_book, answered_refused}
use Rattle.slices.specs.declared.printing.Stage.{Stage}
use Rattle.slices.specs.Layers.{going, done, refused_stage, stage_refused, pass_over, moved_on, checked, first_stage, begun}
use Rattle.slices.specs.Layers.{Counted, Steps, Stepped, Begins, Finishes}
use Rattle.slices.proofs.Passes.{Measuring, measuring_start, measuring_refused, measuring_next, measuring_end}
use Rattle.slices.proofs.Passes.{Extending, extending_start, extending_found, extending_next, extending_end}

-- ---- the first stage

module _ {bytes tb : List ℕ} {count : ℕ} {b : Result ℕ Refusal} {r : Stage} (l : Loaded bytes b tb) where
  refused : {f : Refusal} → r ≡ refused_stage f
      → ((records pool out : List ℕ) → record_count records ≡ count
      → PrintAnswered (print_outcome bytes records pool out) (Err f) out)
      → Begins bytes count tb r
  refused {f} e a =
      subst (Begins bytes count tb) (sym e)
      (record { refuses = λ g p. let s : f ≡ g = cc in rw (← s) (refl, a); starts = λ p. cc })

  module _ {n : ℕ} (a : b ≡ Ok n) where
    many : max_tokens < count → r ≡ stage_refused TooManyTokens 0 → Begins bytes count tb r
    many m e =
        refused e
        (λ records pool out q. answered_book l a records pool out out _
        (λ rules h. answered_many rules records pool out (subst (λ (k : ℕ). max_tokens < k) (sym q) m) refl))

    started : count ≤ max_tokens → r.refusal ≡ None → r ≡ first_stage count → Begins bytes count tb r
    started m f e =
        let w = loaded_rules l a in
        record { refuses = λ g p. cc (p, f); starts = λ _. (w.0, (w.1.0, (w.1.1, (m, e)))) }

    first : count ≤ max_tokens → (t : Bool) → eqb count 0 ≡ t → r ≡ if t (done 0) (going 0 0 0 0) → Begins bytes count tb r
    first m true z e = started m (ap (λ (s : Stage). s.refusal) e) (rw z e)
    first m false z e = started m (ap (λ (s : Stage). s.refusal) e) (rw z e)

    pub begins_book : r ≡ begun count → Begins bytes count tb r
    begins_book e = go (ltb max_tokens count) refl e
      where
        go : (t : Bool) → ltb max_tokens count ≡ t → r ≡ if t (stage_refused TooManyTokens 0) (first_stage count) → Begins bytes count tb r
        go true z q = many (ltb-true _ _ z) q
        go false z q = first (ltb-false _ _ z) (eqb count 0) refl q

  pub begins_refused : {f : Refusal} → b ≡ Err f → r ≡ refused_stage f → Begins bytes count tb r
  begins_refused a e = refused e (λ records pool out q. answered_refused l a records pool out)

-- ---- the loop

-- a stage of a list that is not refused yet; at most `left` steps follow
pub data Phase (rules : List Rule) (records pool scratch : List ℕ) (left : ℕ) (s : Stage) : Type 0 where
  checking : (k at : ℕ) → s ≡ going 0 k at 0 → k < record_count records → 3 * record_count records ≤ left + k
      → Measuring rules records pool at k → Phase rules records pool scratch left s
  joining : (k at total : ℕ) (entry : List ℕ) → s ≡ going 1 k at total → k < record_count records → 2 * record_count records ≤ left + k
      → Counted rules records pool total → length entry ≡ max_text → Joining records pool entry scratch at k
      → Phase rules records pool scratch left s
  reading : (k at total : ℕ) → s ≡ going 2 k at total → k < record_count records → record_count records ≤ left + k
      → Counted rules records pool total → take total scratch ≡ join (tokens_of records pool)
      → Extending rules records pool (take total scratch) at k → Phase rules records pool scratch left s
  over : (total : ℕ) → s ≡ done total → Clean rules records pool scratch total → Phase rules records pool scratch left s

pub data Going (book tb records pool scratch : List ℕ) (left : ℕ) (s : Stage) : Type 0 where
  refuses : (f : Refusal) → s ≡ refused_stage f
      → ((out : List ℕ) → PrintAnswered (print_outcome book records pool out) (Err f) out)
      → Going book tb records pool scratch left s
  stands : (rules : List Rule) → read_book book ≡ accepted rules → Holds tb rules → record_count records ≤ max_tokens
      → Phase rules records pool scratch left s → Going book tb records pool scratch left s

-- so many turns are left at most
abbrev pub turns : ℕ → Stage → ℕ
turns count s = if s.more ((3 - s.pass) * count - s.index) 0

-- the three passes, by a book's rules that the table holds
module _ (book tb records pool : List ℕ) (rules : List Rule) (accepts : read_book book ≡ accepted rules)
    (holds : Holds tb rules) (few : record_count records ≤ max_tokens) where
  outcome : (out exit : List ℕ) (a : Result ℕ Refusal) → PrintAnswered (print_rules rules records pool out) a exit
      → PrintAnswered (print_outcome book records pool out) a exit
  unfolding print_outcome
  outcome out exit a h = rw accepts h

  counted_outcome : (out exit : List ℕ) (a : Result ℕ Refusal) → Faultless rules records pool
      → PrintAnswered (print_checked rules (tokens_of records pool) out) a exit → PrintAnswered (print_outcome book records pool out) a exit
  counted_outcome out exit a f h = outcome out exit a (answered_checked rules records pool out few f h)

  module _ (t : TokenRecord) (small : Fits t) (scratch : List ℕ) (sized : length scratch ≡ max_text) (left : ℕ) (r : Stage) where
    -- the first pass
    module _ (k at : ℕ) (more : k < record_count records) (bound : 3 * record_count records ≤ left + k)
        (w : Measuring rules records pool at k) (e : t ≡ record_at records k) where
      check_refused : {reason : Reason} → fault_of rules pool t ≡ some reason → r ≡ stage_refused reason k
          → Going book tb records pool scratch (left - 1) r
      check_refused f q =
          refuses _ q (λ out. outcome out out _ (answered_fault rules records pool out few (measuring_refused w more e f)))

      check_passed : fault_of rules pool t ≡ none → (b : Bool) → ltb (k + 1) (record_count records) ≡ b
          → r ≡ if b (going 0 (k + 1) (at + t.len) 0) (pass_over 0 (at + t.len) 0) → Going book tb records pool scratch (left - 1) r
      check_passed z true l q =
          stands rules accepts holds few
          (checking (k + 1) (at + t.len) q (ltb-true _ _ l) (omega arith) (measuring_next w more e z small.len))
      check_passed z false l q = go (ltb max_text (at + t.len)) refl q
        where
          m : Faultless rules records pool × (at + t.len ≡ length (join (tokens_of records pool)))
          m = measuring_end (measuring_next w more e z small.len) (ltb-false _ _ l)

          go : (b : Bool) → ltb max_text (at + t.len) ≡ b → r ≡ if b (stage_refused OutputTooLong 0) (going 1 0 0 (at + t.len))
              → Going book tb records pool scratch (left - 1) r
          go true y q₁ =
              refuses _ q₁
              (λ out. counted_outcome out out _ m.0 (answered_long rules (tokens_of records pool) out m.1 (ltb-true _ _ y) refl))
          go false y q₁ =
              let s : Spanned records pool (at + t.len) =
              record { each = faultless_pool rules pool (records_of records) 0 m.0; bytes = m.1; short = ltb-false _ _ y } in
              let d : record_count records ≤ k + 1 = ltb-false _ _ l in
              stands rules accepts holds few
              (joining 0 0 (at + t.len) scratch q₁ (omega arith) (omega (arith, bound)) (record { faultless = m.0; spanned = s }) sized
              (joining_start records pool scratch (spanned_fitting s (omega (arith, s.short, sized)))))

      check_next : (o : Option Reason) → fault_of rules pool t ≡ o → r ≡ checked o (going 0 k at 0) t.len (record_count records)
          → Going book tb records pool scratch (left - 1) r
      check_next none z q = check_passed z (ltb (k + 1) (record_count records)) refl q
      check_next (some why) z q = check_refused z q

    -- the second
    module _ (k at total : ℕ) (entry : List ℕ) (more : k < record_count records) (bound : 2 * record_count records ≤ left + k)
        (c : Counted rules records pool total) (long : length entry ≡ max_text) (w : Joining records pool entry scratch at k)
        (e : t ≡ record_at records k) (after : List ℕ) (p : after ≡ paste scratch at (drop t.place pool) t.len) where
      join_next : (b : Bool) → ltb (k + 1) (record_count records) ≡ b
          → r ≡ if b (going 1 (k + 1) (at + t.len) total) (pass_over 1 (at + t.len) total) → Going book tb records pool after (left - 1) r
      join_next true l q =
          stands rules accepts holds few
          (joining (k + 1) (at + t.len) total entry q (ltb-true _ _ l) (omega arith) c long (joining_next w more e p))
      join_next false l q =
          let d : record_count records ≤ k + 1 = ltb-false _ _ l in
          let x = spanned_laid c.spanned (joining_end (joining_next w more e p) d) in
          stands rules accepts holds few (reading 0 0 total q (omega arith) (omega (arith, bound)) c x (extending_start c.faultless x))

      join_sized : length after ≡ max_text
      join_sized = (joining_next w more e p).filling.same ∙ long

    -- the third
    module _ (k at total : ℕ) (more : k < record_count records) (bound : record_count records ≤ left + k)
        (c : Counted rules records pool total) (x : take total scratch ≡ join (tokens_of records pool))
        (w : Extending rules records pool (take total scratch) at k) (e : t ≡ record_at records k)
        {rule most : ℕ} (h : Chooses rules (drop at (take total scratch)) rule most) where
      read_passed : most ≡ t.len → (b : Bool) → ltb (k + 1) (record_count records) ≡ b
          → r ≡ if b (going 2 (k + 1) (at + t.len) total) (pass_over 2 (at + t.len) total)
          → Going book tb records pool scratch (left - 1) r
      read_passed z true l q =
          stands rules accepts holds few
          (reading (k + 1) (at + t.len) total q (ltb-true _ _ l) (omega arith) c x (extending_next w (held_empty holds) more e h z))
      read_passed z false l q =
          let a = extending_end (extending_next w (held_empty holds) more e h z) (ltb-false _ _ l) in
          stands rules accepts holds few
          (over total q (record { settled = record { faultless = c.faultless; apart = a }; spanned = c.spanned; laid = x }))

      read_next : (b : Bool) → eqb most t.len ≡ b
          → r ≡ if b (moved_on (going 2 k at total) t.len (record_count records)) (stage_refused ReadOn k)
          → Going book tb records pool scratch (left - 1) r
      read_next true z q = read_passed (eqb-true _ _ z) (ltb (k + 1) (record_count records)) refl q
      read_next false z q =
          refuses _ q (λ out. counted_outcome out out _ c.faultless
          (answered_extended rules (tokens_of records pool) out c.spanned.bytes c.spanned.short
          (extending_found w (held_empty holds) more e h (eqb-false _ _ z)) refl))

pos : (n : ℕ) → (n ≡ 0 → ⊥) → 0 < n
pos zero h = absurd (h refl)
pos (suc n) h = omega arith

empty : (xs : List ℕ) → 0 ≡ length xs → [] ≡ xs
empty [] e = refl
empty (x ∷ xs) e = absurd (omega (arith, e))

halts : {A : Type 0} {s s₁ : Stage} → s.more ≡ true → s ≡ s₁ → s₁.more ≡ false → A
halts m e f = clash m (ap (λ (z : Stage). z.more) e ∙ f)

goes : {A : Type 0} {s s₁ : Stage} → s.more ≡ false → s ≡ s₁ → s₁.more ≡ true → A
goes m e f = clash (ap (λ (z : Stage). z.more) e ∙ f) m

at_turns : (count : ℕ) {s s₁ : Stage} (A : ℕ → Type 0) → s ≡ s₁ → A (turns count s₁) → A (turns count s)
at_turns count A e a = subst (λ (z : Stage). A (turns count z)) (sym e) a

module _ {book tb records pool : List ℕ} where
  pub going_start : {count : ℕ} {r : Stage} (scratch : List ℕ) → Begins book count tb r → record_count records ≡ count
      → Going book tb records pool scratch (3 * record_count records) r
  going_start {count} {r} scratch b q = go r.refusal refl
    where
      first : (rules : List Rule) → read_book book ≡ accepted rules → Holds tb rules → record_count records ≤ max_tokens
          → (z : Bool) → eqb count 0 ≡ z → r ≡ if z (done 0) (going 0 0 0 0)
          → Going book tb records pool scratch (3 * record_count records) r
      first rules a h m true z e =
          let none_left : record_count records ≤ 0 = omega (arith, q, eqb-true count 0 z) in
          let c = measuring_end (measuring_start rules records pool) none_left in
          let x : take 0 scratch ≡ join (tokens_of records pool) = empty (join (tokens_of records pool)) c.1 in
          let s : Spanned records pool 0 =
          record { each = faultless_pool rules pool (records_of records) 0 c.0; bytes = c.1; short = omega arith } in
          let p = extending_end (extending_start c.0 x) none_left in
          stands rules a h m (over 0 e (record { settled = record { faultless = c.0; apart = p }; spanned = s; laid = x }))
      first rules a h m false z e =
          let some_left : 0 < record_count records = pos (record_count records) (λ w. eqb-false count 0 z (sym q ∙ w)) in
          stands rules a h m (checking 0 0 e some_left (omega arith) (measuring_start rules records pool))

      go : (o : Maybe Refusal) → r.refusal ≡ o → Going book tb records pool scratch (3 * record_count records) r
      go (Some f) e = refuses f (b.refuses f e).0 (λ out. (b.refuses f e).1 records pool out q)
      go None e =
          let w = b.starts e in
          first w.0 w.1.0 w.1.1.0 (omega (arith, q, w.1.1.1.0)) (eqb count 0) refl w.1.1.1.1

  module _ {scratch : List ℕ} {left : ℕ} {s : Stage} where
    -- a stage is as far from the end as `turns` says
    pub going_turns : Going book tb records pool scratch left s
        → (turns (record_count records) s ≤ left) × Going book tb records pool scratch (turns (record_count records) s) s
    going_turns (refuses f e a) = (at_turns (record_count records) (λ (n : ℕ). n ≤ left) e (omega arith), refuses f e a)
    going_turns (stands rules a h m (checking k at e l b w)) = (
      at_turns (record_count records) (λ (n : ℕ). n ≤ left) e (omega arith),
      stands rules a h m (checking k at e l (at_turns (record_count records) (λ (n : ℕ). 3 * record_count records ≤ n + k) e (omega arith)) w),
    )
    going_turns (stands rules a h m (joining k at total entry e l b c d w)) = (
      at_turns (record_count records) (λ (n : ℕ). n ≤ left) e (omega arith),
      stands rules a h m
          (joining k at total entry e l (at_turns (record_count records) (λ (n : ℕ). 2 * record_count records ≤ n + k) e (omega arith)) c d w),
    )
    going_turns (stands rules a h m (reading k at total e l b c y w)) = (
      at_turns (record_count records) (λ (n : ℕ). n ≤ left) e (omega arith),
      stands rules a h m
          (reading k at total e l (at_turns (record_count records) (λ (n : ℕ). record_count records ≤ n + k) e (omega arith)) c y w),
    )
    going_turns (stands rules a h m (over total e c)) = (
      at_turns (record_count records) (λ (n : ℕ). n ≤ left) e (omega arith),
      stands rules a h m (over total e c),
    )

    pub going_index : Going book tb records pool scratch left s → s.more ≡ true → (s.index < record_count records) × (0 < left)
    going_index (refuses f e a) m = halts m e refl
    going_index (stands rules a h few (checking k at e l b w)) m = let i = ap (λ (z : Stage). z.index) e in (omega arith, omega arith)
    going_index (stands rules a h few (joining k at total entry e l b c d w)) m = let i = ap (λ (z : Stage). z.index) e in
        (omega arith, omega arith)
    going_index (stands rules a h few (reading k at total e l b c y w)) m = let i = ap (λ (z : Stage). z.index) e in
        (omega arith, omega arith)
    going_index (stands rules a h few (over total e c)) m = halts m e refl

    module _ {t : TokenRecord} (sized : length scratch ≡ max_text) (small : Fits t) where
      pub going_steps : Going book tb records pool scratch left s → s.more ≡ true → t ≡ record_at records s.index
          → Steps tb scratch pool s t
      going_steps (refuses f e a) m t-is = halts m e refl
      going_steps (stands rules a h few (checking k at e l b w)) m t-is =
          subst (λ (z : Stage). Steps tb scratch pool z t) (sym e) (record {
            held = record { rules = rules; holds = h };
            sized = sized;
            few = omega arith;
            checks = λ _. w.few;
            joins = λ p. absurd (omega (arith, p));
            reads = λ z _. absurd (z refl);
          })
      going_steps (stands rules a h few (joining k at total entry e l b c d w)) m t-is =
          let i : t ≡ record_at records k = t-is ∙ ap (λ (z : Stage). record_at records z.index) e in
          subst (λ (z : Stage). Steps tb scratch pool z t) (sym e) (record {
            held = record { rules = rules; holds = h };
            sized = sized;
            few = omega arith;
            checks = λ p. absurd (omega (arith, p));
            joins = λ _. (joining_pool w l i, joining_room w l i);
            reads = λ _ z. absurd (z refl);
          })
      going_steps (stands rules a h few (reading k at total e l b c y w)) m t-is =
          subst (λ (z : Stage). Steps tb scratch pool z t) (sym e) (record {
            held = record { rules = rules; holds = h };
            sized = sized;
            few = omega arith;
            checks = λ p. absurd (omega (arith, p));
            joins = λ p. absurd (omega (arith, p));
            reads = λ _ _. (
              omega (arith, w.within, length-take-le total scratch (omega (arith, c.spanned.short, sized))),
              c.spanned.short,
            );
          })
      going_steps (stands rules a h few (over total e c)) m t-is = halts m e refl

      -- t is the token at the stage's number, and r the stage after it
      pub going_next : {after : List ℕ} {r : Stage} → Going book tb records pool scratch left s → s.more ≡ true
          → t ≡ record_at records s.index → Stepped tb scratch after pool s t (record_count records) r
          → Going book tb records pool after (left - 1) r × (length after ≡ max_text)
      going_next {after} {r} (refuses f e a) m t-is st = halts m e refl
      going_next {after} {r} (stands rules a h few (checking k at e l b w)) m t-is st =
          let i : t ≡ record_at records k = t-is ∙ ap (λ (z : Stage). record_at records z.index) e in
          let g = (subst (λ (z : Stage). Stepped tb scratch after pool z t (record_count records) r) e st).checks refl in
          subst (λ (z : List ℕ). Going book tb records pool z (left - 1) r × (length z ≡ max_text)) (sym g.0) (
            check_next book tb records pool rules a h few t small scratch sized left r k at l b w i (fault_of rules pool t)
                refl (g.1 rules h),
            sized,
          )
      going_next {after} {r} (stands rules a h few (joining k at total entry e l b c d w)) m t-is st =
          let i : t ≡ record_at records k = t-is ∙ ap (λ (z : Stage). record_at records z.index) e in
          let g = (subst (λ (z : Stage). Stepped tb scratch after pool z t (record_count records) r) e st).joins refl in (
            join_next book tb records pool rules a h few t small scratch sized left r k at total entry l b c d w i after g.0
                (ltb (k + 1) (record_count records)) refl g.1,
            join_sized book tb records pool rules a h few t small scratch sized left r k at total entry l b c d w i after g.0,
          )
      going_next {after} {r} (stands rules a h few (reading k at total e l b c y w)) m t-is st =
          let i : t ≡ record_at records k = t-is ∙ ap (λ (z : Stage). record_at records z.index) e in
          let g = (subst (λ (z : Stage). Stepped tb scratch after pool z t (record_count records) r) e st).reads
          (λ p. absurd (omega (arith, p))) (λ p. absurd (omega (arith, p))) in
          let d = g.1 rules h in
          subst (λ (z : List ℕ). Going book tb records pool z (left - 1) r × (length z ≡ max_text)) (sym g.0) (
            read_next book tb records pool rules a h few t small scratch sized left r k at total l b c y w i d.chooses
                (eqb d.most t.len) refl d.result,
            sized,
          )
      going_next {after} {r} (stands rules a h few (over total e c)) m t-is st = halts m e refl

    pub going_total : Going book tb records pool scratch left s → s.more ≡ false → s.total ≤ max_text
    going_total (refuses f e a) m = let i = ap (λ (z : Stage). z.total) e in omega arith
    going_total (stands rules a h few (checking k at e l b w)) m = goes m e refl
    going_total (stands rules a h few (joining k at total entry e l b c d w)) m = goes m e refl
    going_total (stands rules a h few (reading k at total e l b c y w)) m = goes m e refl
    going_total (stands rules a h few (over total e c)) m = let i = ap (λ (z : Stage). z.total) e in omega (arith, c.spanned.short)

    pub going_finish : {out exit : List ℕ} {r : Result ℕ Refusal} → Going book tb records pool scratch left s → s.more ≡ false
        → Finishes scratch s out r exit
        → PrintAnswered (print_outcome book records pool out) r exit
    going_finish {out} {exit} {r} (refuses f e a) m h =
        let g = (subst (λ (z : Stage). Finishes scratch z out r exit) e h).refuses f refl in
        record { answer = g.0 ∙ (a out).answer; out = g.1 ∙ (a out).out }
    going_finish (stands rules a h few (checking k at e l b w)) m fin = goes m e refl
    going_finish (stands rules a h few (joining k at total entry e l b c d w)) m fin = goes m e refl
    going_finish (stands rules a h few (reading k at total e l b c y w)) m fin = goes m e refl
    going_finish {out} {exit} {r} (stands rules a h few (over total e c)) m fin =
        let g = (subst (λ (z : Stage). Finishes scratch z out r exit) e fin).writes refl in
        outcome book tb records pool rules a h few out exit r (clean_written rules records pool out few c g)

  -- the turn is nearer to the end
  pub going_turned : {scratch after : List ℕ} {left count : ℕ} {s r : Stage} {t : TokenRecord} → length scratch ≡ max_text → Fits t
      → Going book tb records pool scratch left s → s.more ≡ true → t ≡ record_at records s.index → record_count records ≡ count
      → Stepped tb scratch after pool s t count r
      → (turns (record_count records) r < left)
      × (Going book tb records pool after (turns (record_count records) r) r × (length after ≡ max_text))
  going_turned {scratch} {after} {left} {count} {s} {r} {t} sized small g m e q st =
      let n = going_next sized small g m e (subst (λ (k : ℕ). Stepped tb scratch after pool s t k r) (sym q) st) in
      let w = going_turns n.0 in
      (omega (arith, (going_index g m).1, w.0), (w.1, n.1))
