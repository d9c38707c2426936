-- The rules of expressions keep what is asked of them. Assumes nothing.
use Rattle.answer.specs.declared.Reason.TheVariants.{LargeExpression, NoExpression, OutOfRange, OutputTooShort, TooManySets}
use Rattle.answer.specs.Refusals.{number_of}
use Rattle.answer.specs.declared.Reason.{Reason}
use Rattle.std.specs.Prelude.{Result, Ok, Err}
use mathlib.Core.Path.{◌≡◌, refl, sym, ap, subst, ◌∙◌}
use mathlib.Core.Logic.{◌⊎◌, inl, inr}
use mathlib.Core.Bool.{Bool, true, false, ◌||◌}
use mathlib.Core.List.{List, [], ◌∷◌, ◌++◌, append-nil}
use Prim.Native.Nat.{ℕ, zero, suc, ◌+◌, ◌<◌, ◌≤◌}
use native.Mathlib.Omega.{arith}
use lib.Bits.{bit_and}
use lib.Dec.{eqb, ltb}
use lib.ListN.{length, get_or, take, drop}
use lib.Seq.{take-append_seam}
use borrow.Author.Tests.{eq-eqb, ne_eqb, eqb-true, eqb-false, lt-ltb, le-ltb, ltb-true, ltb-false}
use Rattle.answer.specs.declared.Refusal.{Refusal}
use Rattle.automaton.specs.Choice.{if, All, among}
use Rattle.automaton.specs.Rule.{Transition, Rule}
use Rattle.automaton.proofs.Tests.{clash, all_map, all_append}
use Rattle.book.specs.Limits.{max_bytes, max_transitions}
use Rattle.reader.specs.Reading.{accepted, refused, read_book}
use Rattle.reader.proofs.Walking.{not_accepted}
use Rattle.output.specs.Outcome.{PrintOutcome, print_accepted, print_refused, refused_if, written}
use Rattle.expression.specs.Expression.{Expression, Matches}
use Rattle.expression.specs.Spelling.{alternatives, Spells}
use Rattle.expression.specs.Reading.{right, wrong, read_expression}
use Rattle.expression.specs.Reading as reading
use Rattle.expression.specs.Faults.{FirstFault, Says}
use Rattle.expression.proofs.Sound.{right-spells}
use Rattle.expression.proofs.Complete.{spells-right, spells_one}
use Rattle.expression.proofs.Faults.{reading_says, first_wrong}
use Rattle.positions.specs.Positions.{size, depth, nullable, last}
use Rattle.positions.specs.Numbers.{set_of}
use Rattle.positions.proofs.Splits.{empty_nullable, nullable_empty}
use Rattle.subsets.specs.States.{states, finals_below, finals_of}
use Rattle.rule_commands.specs.Bytes.{rule_bytes}
use Rattle.rule_commands.specs.Spans.{spans_of}
use Rattle.rule_commands.specs.Fit.{rule_by}
use Rattle.rule_commands.specs.Table.{SpanOf}
use Rattle.rule_commands.proofs.Runs.{spans_longest}
use Rattle.expression_rule.specs.Outcome.{max_expression, max_positions, max_depth, is_too_large, many_sets, compiled}
use Rattle.expression_rule.specs.Outcome.{compile_outcome, compile_reading}
use Rattle.expression_rule.specs.Outcome.{firsts_of, follow_of, takers_of, finals_for, rows_for}
use Rattle.expression_rule.specs.Layers.{Sets}
use Rattle.expression_rule.proofs.Fitting.{Between, finals_between}
use Rattle.expression_rule.proofs.Rules.{rule-matches, fit, read_too_long, read_too_many, read_nullable, read_accepted}
use Rattle.expression_rule.proofs.Compiled.{compiled_sets}
use Rattle.expression_rule.proofs.Reached.{states_of_lem, many_reached}
use Rattle.expression_rule.proofs.Answers.{wrong_rule_lem, text_long, text_read, text_wrong, expression_large, sets_many}
use Rattle.expression_rule.proofs.Answers.{sets_few, Makes, makes}
use Rattle.zagvulem.specs.Numbers.{compile_numbers}
use Rattle.demands.specs.Expressions.{refused_by, RefusedCompile, PastTheRule, Asked, Large, Small, TurnedAway}
use Rattle.demands.specs.Expressions.{CompileRefusals, Ends, CallEnds, ManyAreReached, SpelledOrFaulty}
use Rattle.demands.specs.Expressions.{FirstFaultRefused, Compiles, book_of, Rise}
use Rattle.demands.specs.Expressions.{Joined, Commands, ReadAlone, RuleOf, Written}
use Rattle.demands.specs.Expressions.{CompiledIsRead, CompiledIsSpelled, CompiledMatches, AnySpelling}
use Rattle.demands.proofs.Untouched.{Keeps, keeps_if, keeps_written, past_accepted}
use Rattle.demands.specs.Expressions as ends

-- ---- the order of the refusals

module _ (tag kind : ℕ) (text : List ℕ) where
  wrong_asked : (tag ≡ 0) ⊎ (1 < kind) → eqb tag 0 || ltb 1 kind ≡ true
  wrong_asked (inl z) = rw (eq-eqb tag 0 z)
  wrong_asked (inr l) = go (eqb tag 0)
    where
      go : (t : Bool) → t || ltb 1 kind ≡ true
      go true = refl
      go false = lt-ltb 1 kind l

  right_asked : 0 < tag → kind ≤ 1 → eqb tag 0 || ltb 1 kind ≡ false
  right_asked l k = rw (ne_eqb tag 0 (λ z. omega arith), le-ltb 1 kind k)

large : (e : Expression) → Large e → is_too_large e ≡ true
large e (inl l) = rw (lt-ltb max_positions (size e) l)
large e (inr l) = go (ltb max_positions (size e))
  where
    go : (t : Bool) → t || ltb max_depth (depth e) ≡ true
    go true = refl
    go false = lt-ltb max_depth (depth e) l

small : (e : Expression) → Small e → is_too_large e ≡ false
small e s = rw (le-ltb max_positions (size e) s.few, le-ltb max_depth (depth e) s.shallow)

small_size : (e : Expression) → is_too_large e ≡ false → size e ≤ max_positions
small_size e h = go (ltb max_positions (size e)) refl h
  where
    go : (t : Bool) → ltb max_positions (size e) ≡ t → t || ltb max_depth (depth e) ≡ false → size e ≤ max_positions
    go true q z = clash refl z
    go false q z = ltb-false max_positions (size e) q

pub compile_refusals : CompileRefusals
unfolding refused_if
compile_refusals tag kind text entry exit r k = record {
  tag_or_kind = λ w. answered (wrong_rule_lem tag kind text entry (wrong_asked tag kind text w));
  too_long = λ l m n. answered (text_long tag kind text entry (right_asked tag kind text l m) (lt-ltb max_expression (length text) n));
  faulty = λ a place f. answered (text_wrong tag kind text entry (rule a) (fits a) (first_wrong text f));
  too_large = λ a e s l. answered (expression_large tag kind text entry (rule a) (fits a) (spells-right text s) (large e l));
  too_many = λ a e s l m. answered (sets_many tag kind text entry (rule a) (fits a) (spells-right text s) (small e l) m);
  no_room = λ a e s l m n.
      answered (few a e s l m ∙ full (compiled tag kind e) (lt-ltb (length entry) (length (compiled tag kind e)) n));
  accepts = λ a e s l m n.
      k.answers
      ∙ ap (λ (o : PrintOutcome). o.answer)
      (few a e s l m ∙ room (compiled tag kind e) (le-ltb (length entry) (length (compiled tag kind e)) n));
}
  where
    answered : {reason : Reason} {place : ℕ} → compile_outcome tag kind text entry ≡ print_refused reason place entry
        → r ≡ refused_by reason place
    answered e = k.answers ∙ ap (λ (o : PrintOutcome). o.answer) e

    rule : Asked tag kind text → eqb tag 0 || ltb 1 kind ≡ false
    rule a = right_asked tag kind text a.some_tag a.known_kind

    fits : Asked tag kind text → ltb max_expression (length text) ≡ false
    fits a = le-ltb max_expression (length text) a.short

    few : Asked tag kind text → (e : Expression) → Spells alternatives e text → Small e → many_sets e ≡ false
        → compile_outcome tag kind text entry ≡ written (compiled tag kind e) entry
    few a e s l m = sets_few tag kind text entry (rule a) (fits a) (spells-right text s) (small e l) m

    full : (bytes : List ℕ) → ltb (length entry) (length bytes) ≡ true
        → written bytes entry ≡ print_refused OutputTooShort (length bytes) entry
    full bytes h = rw h

    room : (bytes : List ℕ) → ltb (length entry) (length bytes) ≡ false → written bytes entry ≡ print_accepted bytes entry
    room bytes h = rw h

pub many_are_reached : ManyAreReached
many_are_reached e l h = many_reached (compiled_sets e l.few) h

pub spelled-or_faulty : SpelledOrFaulty
spelled-or_faulty text = go (read_expression text) (reading_says text)
  where
    go : (r : reading.Reading) → Says text r → ((e : Expression) × Spells alternatives e text) ⊎ ((place : ℕ) × FirstFault text place)
    go (right e) s = inl (e, s)
    go (wrong place) f = inr (place, f)

pub call_ends : CallEnds
call_ends tag kind text entry exit r k =
    by_rule (eqb tag 0) refl (ltb 1 kind) refl (ltb max_expression (length text)) refl
  where
    t : TurnedAway tag kind text entry r
    t = compile_refusals tag kind text entry exit r k

    by_room : Asked tag kind text → (e : Expression) → Spells alternatives e text → Small e → many_sets e ≡ false
        → (f : Bool) → ltb (length entry) (length (compiled tag kind e)) ≡ f → Ends tag kind text entry r
    by_room a e s l m true h =
        let n = ltb-true (length entry) (length (compiled tag kind e)) h in ends.full a e s l m n (t.no_room a e s l m n)
    by_room a e s l m false h =
        let n = ltb-false (length entry) (length (compiled tag kind e)) h in ends.made a e s l m n (t.accepts a e s l m n)

    by_sets : Asked tag kind text → (e : Expression) → Spells alternatives e text → Small e → (m : Bool) → many_sets e ≡ m
        → Ends tag kind text entry r
    by_sets a e s l true h = ends.many a e s l h (t.too_many a e s l h)
    by_sets a e s l false h = by_room a e s l h (ltb (length entry) (length (compiled tag kind e))) refl

    by_size : Asked tag kind text → (e : Expression) → Spells alternatives e text → (p : Bool) → ltb max_positions (size e) ≡ p
        → (d : Bool) → ltb max_depth (depth e) ≡ d → Ends tag kind text entry r
    by_size a e s true h d g =
        let l : Large e = inl (ltb-true max_positions (size e) h) in ends.large a e s l (t.too_large a e s l)
    by_size a e s false h true g =
        let l : Large e = inr (ltb-true max_depth (depth e) g) in ends.large a e s l (t.too_large a e s l)
    by_size a e s false h false g =
        by_sets a e s (record { few = ltb-false max_positions (size e) h; shallow = ltb-false max_depth (depth e) g }) (many_sets e) refl

    by_text : Asked tag kind text → ((e : Expression) × Spells alternatives e text) ⊎ ((place : ℕ) × FirstFault text place)
        → Ends tag kind text entry r
    by_text a (inr (p, f)) = ends.fault a p f (t.faulty a p f)
    by_text a (inl (e, s)) = by_size a e s (ltb max_positions (size e)) refl (ltb max_depth (depth e)) refl

    by_rule : (z : Bool) → eqb tag 0 ≡ z → (o : Bool) → ltb 1 kind ≡ o → (l : Bool) → ltb max_expression (length text) ≡ l
        → Ends tag kind text entry r
    by_rule true h o g l f = let w : (tag ≡ 0) ⊎ (1 < kind) = inl (eqb-true tag 0 h) in ends.six w (t.tag_or_kind w)
    by_rule false h true g l f = let w : (tag ≡ 0) ⊎ (1 < kind) = inr (ltb-true 1 kind g) in ends.six w (t.tag_or_kind w)
    by_rule false h false g true f =
        let n = eqb-false tag 0 h in
        let some : 0 < tag = omega arith in
        let plain : kind ≤ 1 = ltb-false 1 kind g in
        let m : max_expression < length text = ltb-true max_expression (length text) f in
        ends.long some plain m (t.too_long some plain m)
    by_rule false h false g false f =
        let n = eqb-false tag 0 h in
        by_text (record {
          some_tag = omega arith;
          known_kind = ltb-false 1 kind g;
          short = ltb-false max_expression (length text) f;
        }) (spelled-or_faulty text)

-- ---- what a call leaves

keeps_reading : (tag kind : ℕ) (out : List ℕ) (r : reading.Reading) → Keeps out (compile_reading tag kind r out)
keeps_reading tag kind out (wrong place) = λ r e. refl
keeps_reading tag kind out (right e) = keeps_if out _ _ _ _ (keeps_if out _ _ _ _ (keeps_written out (compiled tag kind e)))

compile_leaves : (tag kind : ℕ) (text out : List ℕ) → Keeps out (compile_outcome tag kind text out)
unfolding compile_outcome
compile_leaves tag kind text out = keeps_if out _ _ _ _ (keeps_if out _ _ _ _ (keeps_reading tag kind out (read_expression text)))

-- a refusal by one of these numbers
abbrev Numbered : List ℕ → Result ℕ Refusal → Type 0
Numbered numbers (Ok n) = Unit {0}
Numbered numbers (Err f) = among (number_of f.reason) numbers ≡ true

numbered-if : (numbers : List ℕ) (t : Bool) (reason : Reason) (place : ℕ) (out : List ℕ) (next : PrintOutcome)
    → among (number_of reason) numbers ≡ true → Numbered numbers next.answer → Numbered numbers (refused_if t reason place out next).answer
unfolding refused_if
numbered-if numbers true _ place out next e n = e
numbered-if numbers false _ place out next e n = n

-- of a text that spells an expression
spelled-numbered : (numbers : List ℕ) → among 31 numbers ≡ true → among 32 numbers ≡ true → among 22 numbers ≡ true
    → (tag kind : ℕ) (e : Expression) (out : List ℕ) → Numbered numbers (compile_reading tag kind (right e) out).answer
spelled-numbered numbers a b c tag kind e out =
    numbered-if numbers _ LargeExpression 0 out _ a (numbered-if numbers _ TooManySets 0 out _ b
    (numbered-if numbers _ OutputTooShort (length (compiled tag kind e)) out (print_accepted (compiled tag kind e) out) c tt))

compile_numbered : (tag kind : ℕ) (text out : List ℕ) → Numbered compile_numbers (compile_outcome tag kind text out).answer
unfolding compile_outcome
compile_numbered tag kind text out =
    numbered-if compile_numbers _ OutOfRange 0 out _ refl
    (numbered-if compile_numbers _ LargeExpression 0 out _ refl (go (read_expression text)))
  where
    go : (r : reading.Reading) → Numbered compile_numbers (compile_reading tag kind r out).answer
    go (wrong place) = refl
    go (right e) = spelled-numbered compile_numbers refl refl refl tag kind e out

pub refused_compile : RefusedCompile
refused_compile tag kind text entry exit r k = (
  subst (Numbered compile_numbers) (sym k.answers) (compile_numbered tag kind text entry),
  k.leaves ∙ compile_leaves tag kind text entry r (sym k.answers),
)

pub past_the_rule : PastTheRule
past_the_rule tag kind text entry exit n k =
    let m = makes tag kind text entry n (sym k.answers) in
    ap (drop n) k.leaves ∙ past_accepted entry _ (compiled tag kind m.expression) n m.count m.outcome

-- ---- the first fault

pub first_fault_refused : FirstFaultRefused
first_fault_refused tag kind text entry exit r k a place =
    (λ e. go e (spelled-or_faulty text), λ f. (compile_refusals tag kind text entry exit r k).faulty a place f)
  where
    go : r ≡ refused_by NoExpression place
        → ((e : Expression) × Spells alternatives e text) ⊎ ((p : ℕ) × FirstFault text p) → FirstFault text place
    go e (inr (p, f)) =
        let q : refused_by NoExpression place ≡ refused_by NoExpression p =
        sym e ∙ (compile_refusals tag kind text entry exit r k).faulty a p f in
        let y : ◌≡◌ {A = Refusal} (record { reason = NoExpression; place = place }) (record { reason = NoExpression; place = p }) = cc in
        subst (FirstFault text) (sym (ap (λ (x : Refusal). x.place) y)) f
    go e (inl (x, s)) =
        let o : compile_outcome tag kind text entry ≡ compile_reading tag kind (right x) entry =
        text_read tag kind text entry (right_asked tag kind text a.some_tag a.known_kind)
        (le-ltb max_expression (length text) a.short)
        ∙ ap (λ (y : reading.Reading). compile_reading tag kind y entry) (spells-right text s) in
        let q : (compile_reading tag kind (right x) entry).answer ≡ refused_by NoExpression place =
        sym (ap (λ (y : PrintOutcome). y.answer) o) ∙ sym k.answers ∙ e in
        clash (subst (Numbered (31 ∷ 32 ∷ 22 ∷ [])) q (spelled-numbered (31 ∷ 32 ∷ 22 ∷ []) refl refl refl tag kind x entry)) refl

-- ---- what is written

rise_one : (xs : List ℕ) (y : ℕ) → Rise xs → All (λ (x : ℕ). x < y) xs → Rise (xs ++ (y ∷ []))
rise_one [] y r a = (tt, tt)
rise_one (x ∷ xs) y (h, r) (l, a) = (all_append (λ (z : ℕ). x < z) xs (y ∷ []) h (l, tt), rise_one xs y r a)

finals_rise : (lasts : ℕ) (known : List ℕ) (n : ℕ) → Rise (finals_below lasts known n)
unfolding finals_below
finals_rise lasts known zero = tt
finals_rise lasts known (suc k) = go (eqb (bit_and (get_or known k 0) lasts) 0) (finals_rise lasts known k)
  where
    go : (t : Bool) → Rise (finals_below lasts known k) → Rise (finals_below lasts known k ++ if t [] (suc k ∷ []))
    go true r = subst Rise (sym (append-nil (finals_below lasts known k))) r
    go false r =
        rise_one (finals_below lasts known k) (suc k) r
        (all_map (Between lasts known k) (λ (x : ℕ). x < suc k) (λ x h. omega (arith, h.1)) (finals_below lasts known k)
        (finals_between lasts known k))

rise_all : (lasts : ℕ) (empty : Bool) (known : List ℕ) → Rise (finals_of lasts empty known)
unfolding finals_of
rise_all lasts true known = (
  all_map (Between lasts known (length known)) (λ (x : ℕ). 0 < x) (λ x h. h.0) (finals_below lasts known (length known))
      (finals_between lasts known (length known)),
  finals_rise lasts known (length known),
)
rise_all lasts false known = finals_rise lasts known (length known)

-- what follows a SPAN directly leads elsewhere
not_joined : (rows : List (List ℕ)) (t u : Transition) → SpanOf rows t → SpanOf rows u → Joined t u → ⊥
not_joined rows t u a b j =
    a.longest.above
    (ap (λ (s : ℕ). get_or (get_or rows s []) (t.high + 1) 0) j.state ∙ ap (λ (i : ℕ). get_or (get_or rows u.from []) i 0) j.next
    ∙ b.longest.each u.low (omega arith) b.longest.ordered ∙ sym j.target)

none_joined : (rows : List (List ℕ))
    → All (λ (t : Transition). All (λ (u : Transition). Joined t u → ⊥) (spans_of 0 rows)) (spans_of 0 rows)
none_joined rows =
    all_map (SpanOf rows) (λ (t : Transition). All (λ (u : Transition). Joined t u → ⊥) (spans_of 0 rows))
    (λ t a. all_map (SpanOf rows) (λ (u : Transition). Joined t u → ⊥) (λ u b. not_joined rows t u a b) (spans_of 0 rows)
    (spans_longest rows))
    (spans_of 0 rows) (spans_longest rows)

not_nullable : (e : Expression) → (Matches e [] → ⊥) → nullable e ≡ false
not_nullable e n = go (nullable e) refl
  where
    go : (t : Bool) → nullable e ≡ t → t ≡ false
    go true h = absurd (n (nullable_empty e h))
    go false h = refl

right_tag : (tag kind : ℕ) → eqb tag 0 || ltb 1 kind ≡ false → 0 < tag
right_tag tag kind h = go (eqb tag 0) refl h
  where
    go : (t : Bool) → eqb tag 0 ≡ t → t || ltb 1 kind ≡ false → 0 < tag
    go true q z = clash refl z
    go false q z = let n = eqb-false tag 0 q in omega arith

right_kind : (tag kind : ℕ) → eqb tag 0 || ltb 1 kind ≡ false → kind ≤ 1
right_kind tag kind h = go (eqb tag 0) h
  where
    go : (t : Bool) → t || ltb 1 kind ≡ false → kind ≤ 1
    go true z = clash refl z
    go false z = ltb-false 1 kind z

module _ (tag kind : ℕ) (e : Expression) (few-positions : size e ≤ max_positions) (few : many_sets e ≡ false) (nonzero : 0 < tag)
    (below : tag < 65536) (plain : kind ≤ 1) where
  abbrev finals : List ℕ
  finals = finals_for e

  abbrev spans : List Transition
  spans = spans_of 0 (rows_for e)

  abbrev bytes : List ℕ
  bytes = rule_bytes tag kind finals spans

  sets : Sets e (firsts_of e) (set_of (last e)) (nullable e) (follow_of e) (takers_of e)
  sets = compiled_sets e few-positions

  commands : Commands tag kind bytes finals spans
  commands = record {
    are = refl;
    rise = rise_all (set_of (last e)) (nullable e) (states (firsts_of e) (follow_of e) (takers_of e));
    rows = rows_for e;
    by_state = refl;
    longest = none_joined (rows_for e);
    below_error = (fit sets few tag kind false nonzero below plain).ranged;
  }

  read_alone : (strict : Bool) → ReadAlone tag kind e bytes finals spans strict
  read_alone strict = record {
    too_long = λ l. read_too_long sets few tag kind strict nonzero below plain l;
    too_many = λ l m. read_too_many sets few tag kind strict nonzero below plain l m;
    takes_empty = λ l m h. read_nullable sets few tag kind strict nonzero below plain l m (empty_nullable e h);
    accepts = λ l m h. read_accepted sets few tag kind strict nonzero below plain l m (not_nullable e h);
  }

  written_by : Written tag kind e bytes
  written_by = record {
    finals = finals;
    spans = spans;
    commands = commands;
    read = read_alone;
    rule = record {
      tagged = refl;
      of_kind = refl;
      starts = refl;
      fails = refl;
      same = λ w a. rule-matches sets few tag kind w a;
      states = states_of_lem sets few tag kind finals;
    };
  }

compiled_is : (tag kind : ℕ) (e : Expression) → compiled tag kind e ≡ rule_bytes tag kind (finals_for e) (spans_of 0 (rows_for e))
unfolding compiled
compiled_is tag kind e = refl

taken : (n : ℕ) (front rest : List ℕ) → n ≡ length front → take n (front ++ rest) ≡ front
taken n front rest e = rw e (take-append_seam front rest)

module _ {tag kind : ℕ} {text bytes : List ℕ} (c : Compiles tag kind text bytes) where
  made : Makes tag kind text c.entry c.count
  made = makes tag kind text c.entry c.count (sym c.call.answers)

  bytes_are : bytes ≡ rule_bytes tag kind (finals_for made.expression) (spans_of 0 (rows_for made.expression))
  bytes_are =
      c.written ∙ ap (take c.count) (c.call.leaves ∙ ap (λ (o : PrintOutcome). o.out) made.outcome)
      ∙ taken c.count (compiled tag kind made.expression) (drop (length (compiled tag kind made.expression)) c.entry)
      made.count
      ∙ compiled_is tag kind made.expression

  made_written : Written tag kind made.expression bytes
  made_written =
      subst (Written tag kind made.expression) (sym bytes_are)
      (written_by tag kind made.expression (small_size made.expression made.small) made.few (right_tag tag kind made.rule)
      c.two_bytes (right_kind tag kind made.rule))

pub compiled_is_spelled : CompiledIsSpelled
compiled_is_spelled tag kind text _ c = ((made c).expression, right-spells text (made c).reads)

pub compiled_is_read : CompiledIsRead
compiled_is_read tag kind text bytes c e s =
    subst (λ (x : Expression). Written tag kind x bytes) (spells_one text (right-spells text (made c).reads) s) (made_written c)

-- ---- the rule that is read

pub compiled-matches : CompiledMatches
compiled-matches tag kind text bytes c e s rules h =
    by (ltb max_bytes (length book)) refl (ltb max_transitions (length w.spans)) refl (nullable e) refl
  where
    w : Written tag kind e bytes
    w = compiled_is_read tag kind text bytes c e s

    book : List ℕ
    book = book_of bytes

    refuses : {A : Type 0} {reason : Reason} {place : ℕ} → read_book book ≡ refused reason place → A
    refuses q = not_accepted (sym q ∙ h)

    by : (a : Bool) → ltb max_bytes (length book) ≡ a → (b : Bool) → ltb max_transitions (length w.spans) ≡ b
        → (n : Bool) → nullable e ≡ n → (r : Rule) × (rules ≡ r ∷ []) × RuleOf tag kind e r
    by true p b q n o = refuses ((w.read false).too_long (ltb-true max_bytes (length book) p))
    by false p true q n o =
        refuses ((w.read false).too_many (ltb-false max_bytes (length book) p) (ltb-true max_transitions (length w.spans) q))
    by false p false q true o =
        refuses ((w.read false).takes_empty (ltb-false max_bytes (length book) p) (ltb-false max_transitions (length w.spans) q)
        (nullable_empty e o))
    by false p false q false o =
        let g : read_book book ≡ accepted (rule_by tag kind w.finals w.spans ∷ []) =
        (w.read false).accepts (ltb-false max_bytes (length book) p) (ltb-false max_transitions (length w.spans) q)
        (λ m. clash (empty_nullable e m) o) in
        let z : accepted rules ≡ accepted (rule_by tag kind w.finals w.spans ∷ []) = sym h ∙ g in
        (rule_by tag kind w.finals w.spans, cc, w.rule)

-- of a book whose one rule is r
only-rule : {tag kind : ℕ} {text bytes : List ℕ} (c : Compiles tag kind text bytes) (e : Expression) → Spells alternatives e text
    → (r : Rule) → read_book (book_of bytes) ≡ accepted (r ∷ []) → RuleOf tag kind e r
only-rule {tag} {kind} {text} {bytes} c e s r h =
    let k = compiled-matches tag kind text bytes c e s (r ∷ []) h in
    let q : r ∷ [] ≡ k.0 ∷ [] = k.1 in
    let y : k.0 ≡ r = cc in
    subst (RuleOf tag kind e) y k.2

pub any_spelling : AnySpelling
any_spelling tag kind tag₁ kind₁ text _ text₁ _ c d e f s t same r q h g w a =
    let x = only-rule c e s r h in
    let y = only-rule d f t q g in
    (λ m. (y.same w a).1 ((same w).0 ((x.same w a).0 m)), λ m. (x.same w a).1 ((same w).1 ((y.same w a).0 m)))
