-- A call refuses by the numbers of its operation alone, and what it answers is held down by the limits. Assumes nothing.
use Rattle.answer.specs.declared.Reason.TheVariants.{BookTooLong, BytesAfterEnd, CutOff, ErrorFinal, LargeExpression}
use Rattle.answer.specs.declared.Reason.TheVariants.{LeavesError, Misplaced, NoExpression, NoRule, NoSeparator, NotAlone}
use Rattle.answer.specs.declared.Reason.TheVariants.{OutOfRange, OutputTooLong, OutputTooShort, Overlap, PastThePool}
use Rattle.answer.specs.declared.Reason.TheVariants.{PastTheText, ReadOn, Retired, SeparatorInList, SharedByte, StartFinal}
use Rattle.answer.specs.declared.Reason.TheVariants.{TagTaken, TextTooLong, TooFewRecords, TooMany, TooManySets}
use Rattle.answer.specs.declared.Reason.TheVariants.{TooManyTokens, TwiceOrMissing, UnknownMode, UnknownTag}
use Rattle.answer.specs.Refusals.{number_of}
use Rattle.answer.specs.declared.Cut.{Cut}
use Rattle.answer.specs.declared.Reason.{Reason}
use Rattle.answer.specs.declared.RuleName.{RuleName}
use Rattle.answer.specs.declared.Turn.{Turn}
use Rattle.std.specs.Prelude.{Result, Ok, Err}
use Rattle.answer.specs.Answers.{lexed, named}
use mathlib.Core.Path.{◌≡◌, refl, ap, subst}
use mathlib.Core.Logic.{inl, inr}
use mathlib.Core.Bool.{Bool, true, false, not, ◌&&◌, ◌||◌}
use mathlib.Core.Option.{Option, none, some}
use mathlib.Core.List.{List, [], ◌∷◌, ◌++◌}
use Prim.Native.Nat.{ℕ, zero, suc, ◌+◌, ◌<◌, ◌≤◌, max}
use native.Mathlib.Nat.{le-max_left, le-max_right}
use native.Mathlib.Omega.{arith}
use lib.Dec.{leb, ltb, eqb}
use lib.ListN.{length, drop, length-append, length-drop}
use borrow.Author.Tests.{leb-false, ltb-true, ltb-false, eqb-true}
use Rattle.answer.specs.declared.Refusal.{Refusal}
use Rattle.automaton.specs.Choice.{if, All, any, among}
use Rattle.automaton.specs.Rule.{Transition, Rule, overlaps}
use Rattle.automaton.proofs.Tests.{clash, all_map}
use Rattle.command.specs.declared.Command.{Command}
use Rattle.command.specs.declared.Command.TheVariants.{Rule as RULE, Start, Error, Final, Step, Span, Close, End}
use Rattle.command.specs.declared.Decoded.{Decoded}
use Rattle.command.specs.Commands.{byte_at, placed, operands_of, decode, retired, command_at}
use Rattle.book.specs.Limits.{max_bytes, max_rules, max_transitions, max_text, max_tokens}
use Rattle.book.specs.Draft.{Draft, between, is_set, is_unset, state_of, rule_of, tagged, is_empty}
use Rattle.book.specs.Draft.{Verdict, goes, accepts, refuses, check, no_state, move, apply}
use Rattle.reader.specs.Reading.{Reading, accepted, refused, go_on, take_in, read_from, read_by, read_book, read_strict, answer}
use Rattle.book_reader.specs.Rules.{numbered, rule_answer, rule_reading, rule_outcome}
use Rattle.reader.proofs.Accepted.{accepted_valid}
use Rattle.reader.proofs.Loading.{read_too_long}
use Rattle.reader.proofs.Walking.{Stricter, alike, retires, stricter}
use Rattle.rewriting.specs.Rewritten.{rewritten}
use Rattle.rewriting.specs.Outcome.{rewrite_reading, rewrite_outcome}
use Rattle.longest_match.specs.Lexer.{Token, lex, join, extends, or}
use Rattle.longest_match.proofs.Lexing.{lex_few}
use Rattle.record.specs.Records.{record_count}
use Rattle.record.specs.declared.TokenRecord.{TokenRecord}
use Rattle.record.specs.Tokens.{records_from, records_of, bytes_in, tokens_in, tokens_of}
use Rattle.lexer.specs.Outcome.{lex_refused, lex_accepted, lex_rules, lex_reading, lex_outcome}
use Rattle.lexer.specs.Masked.{masked_outcome}
use Rattle.lexer.proofs.Masking.{masked_refused_lem, masked_lexed}
use Rattle.turns.specs.Turn.{turn}
use Rattle.turns.specs.Outcome.{room_in, turn_refused, turn_accepted, turn_rules, turn_reading, turn_outcome}
use Rattle.turns.proofs.Turning.{turn_short}
use Rattle.token_list.specs.Faults.{alone_in, fault_of}
use Rattle.token_list.specs.Checks.{refuse, refuse_by, first_fault, first_extended}
use Rattle.output.specs.Outcome.{PrintOutcome, refused_if, unless, written, written_up_to}
use Rattle.printer.specs.Outcome.{print_checked, print_rules, print_reading, print_outcome}
use Rattle.printer.proofs.RoundTrip.{byte_below}
use Rattle.byte_set.specs.Lowest.{lowest_from}
use Rattle.shared_bytes.specs.Kinds.{separates}
use Rattle.shared_bytes.specs.Bytes.{shared, shared_byte}
use Rattle.spacing.specs.Separators.{spelled}
use Rattle.separated.specs.Refusals.{or_else, separator_fault, plain_fault, sharing, list_refusal, separated_refusal}
use Rattle.separated.specs.Outcome.{separated_rules, separated_reading, separated_outcome}
use Rattle.expression.specs.Reading.{right, wrong, read_expression}
use Rattle.expression.specs.Reading.{Reading as Expressed}
use Rattle.expression.proofs.Faults.{wrong_first}
use Rattle.expression_rule.specs.Outcome.{max_expression, is_too_large, many_sets, compiled, compile_reading, compile_outcome}
use Rattle.expression_rule.proofs.Compiled.{compiled_short}
use Rattle.zagvulem.specs.Numbers.{compile_numbers}
use Rattle.zagvulem.specs.Numbers.{book_numbers, strict_numbers, rewrite_numbers, rule_numbers, lex_numbers, turn_numbers}
use Rattle.zagvulem.specs.Numbers.{print_numbers, separated_numbers, Refused}

-- ---- what is said of an answer: its refusal is by one of these numbers at a place of at most `most`; its values are held down

abbrev pub BookWithin : List ℕ → Result ℕ Refusal → Type 0
BookWithin numbers (Ok rules) = rules ≤ max_rules
BookWithin numbers (Err f) = Refused numbers max_bytes f

abbrev pub RuleWithin : (ℕ → ℕ → Type 0) → Result RuleName Refusal → Type 0
RuleWithin P (Ok r) = P r.tag r.kind
RuleWithin P (Err f) = Refused rule_numbers max_bytes f

abbrev pub LexWithin : Result Cut Refusal → Type 0
LexWithin (Ok cut) = (cut.tokens ≤ max_text) × (cut.rest ≤ max_text)
LexWithin (Err f) = Refused lex_numbers max_text f

abbrev pub TurnWithin : Result Turn Refusal → Type 0
TurnWithin (Ok turn) = (turn.tokens ≤ max_text) × (turn.next ≤ max_text)
TurnWithin (Err f) = Refused turn_numbers max_text f

abbrev pub PrintWithin : List ℕ → ℕ → Result ℕ Refusal → Type 0
PrintWithin numbers most (Ok bytes) = bytes ≤ max_text
PrintWithin numbers most (Err f) = Refused numbers most f

-- ---- numbers

by : {numbers : List ℕ} {most : ℕ} (reason : Reason) (place : ℕ) → among (number_of reason) numbers ≡ true → place ≤ most
    → Refused numbers most (record { reason = reason; place = place })
by _ place e l = record { number_among = e; place-within = l }

among_more : (n : ℕ) (xs ys : List ℕ) → among n xs ≡ true → among n (xs ++ ys) ≡ true
among_more n [] ys e = clash e refl
among_more n (x ∷ xs) ys e = go (eqb n x) (among_more n xs ys) e
  where
    go : (t : Bool) → (among n xs ≡ true → among n (xs ++ ys) ≡ true) → t || among n xs ≡ true → t || among n (xs ++ ys) ≡ true
    go true ih z = refl
    go false ih z = ih z

-- a book's refusal is one of each operation that reads a book
of_book : {most : ℕ} {f : Refusal} (more : List ℕ) → max_bytes ≤ most → Refused book_numbers max_bytes f → Refused (book_numbers ++ more) most f
of_book {most} {f} more l r =
    record { number_among = among_more (number_of f.reason) book_numbers more r.number_among; place-within = omega (arith, r.place-within) }

-- ---- reading a book

-- the rules that a draft has, and the one that is open, are few enough
abbrev Room : Draft → Type 0
Room d = length d.rules + if d.inside 1 0 ≤ max_rules

abbrev Fair : ℕ → Verdict → Type 0
Fair len (goes d) = Room d
Fair len (accepts rules) = length rules ≤ max_rules
Fair len (refuses reason place) = Refused book_numbers len (record { reason = reason; place = place })

check_fair : {len : ℕ} (t : Bool) (reason : Reason) {place : ℕ} (v : Verdict) → among (number_of reason) book_numbers ≡ true → place ≤ len
    → (t ≡ false → Fair len v) → Fair len (check t reason place v)
unfolding check
check_fair true reason v e l h = by reason _ e l
check_fair false _ v e l h = h refl

module _ (d : Draft) (at len : ℕ) (room : Room d) (before : at < len) where
  here : at ≤ len
  here = omega arith

  move_fair : (from low high to : ℕ) → Fair len (move d at from low high to)
  unfolding move
  move_fair from low high to =
      check_fair (leb max_transitions (length d.transitions)) TooMany _ refl here (λ e.
      check_fair (ltb high low || (no_state from || no_state to)) OutOfRange _ refl here (λ e. room))

  apply_fair : (c : Command) → (c ≡ Close → d.inside ≡ true) → Fair len (apply d c at len)
  unfolding apply
  apply_fair (RULE tag kind) i =
      check_fair (leb max_rules (length d.rules)) TooMany _ refl here (λ few. check_fair (eqb tag 0 || ltb 1 kind) OutOfRange _ refl here (λ e.
      check_fair (tagged tag d.rules) TagTaken _ refl here (λ e. omega (arith, leb-false max_rules (length d.rules) few))))
  apply_fair (Start s) i =
      check_fair (no_state s) OutOfRange _ refl here (λ e. check_fair (is_set d.start) TwiceOrMissing _ refl here (λ e. room))
  apply_fair (Error s) i =
      check_fair (no_state s) OutOfRange _ refl here (λ e. check_fair (is_set d.error) TwiceOrMissing _ refl here (λ e. room))
  apply_fair (Final s) i = check_fair (no_state s) OutOfRange _ refl here (λ e. room)
  apply_fair (Step from byte to) i = move_fair from byte byte to
  apply_fair (Span from low high to) i = move_fair from low high to
  apply_fair Close i =
      check_fair (is_unset d.start || is_unset d.error) TwiceOrMissing _ refl here (λ e.
      check_fair (overlaps d.transitions) Overlap _ refl here (λ e.
      check_fair (any (λ (t : Transition). eqb t.from (state_of d.error)) d.transitions) LeavesError _ refl here (λ e.
      check_fair (among (state_of d.error) d.finals) ErrorFinal _ refl here (λ e.
      check_fair (among (state_of d.start) d.finals) StartFinal _ refl here (λ e.
      let r : length d.rules + 1 ≤ max_rules = rw (i refl) at room in
      omega (arith, length-append d.rules (rule_of d ∷ [])))))))
  apply_fair End i =
      check_fair (is_empty d.rules) NoRule _ refl here (λ e.
      check_fair (ltb (at + 1) len) BytesAfterEnd _ refl (omega arith) (λ e. omega arith))

-- CLOSE is found only inside a rule, and where nothing is found the ordinary reading refuses it by a number of its own
abbrev Closing : Bool → Result Decoded Reason → Type 0
Closing inside (Ok read) = read.command ≡ Close → inside ≡ true
Closing inside (Err reason) = among (number_of reason) book_numbers ≡ true

module _ (bytes : List ℕ) (at : ℕ) where
  close_inside : (code : ℕ) (inside : Bool) → placed code inside ≡ true → decode bytes at code ≡ Close → inside ≡ true
  unfolding placed decode
  close_inside code true p e = refl
  close_inside code false p e = go (eqb code 1) refl (eqb code 8) refl (leb 2 code && leb code 12) p
    where
      go : (a : Bool) → eqb code 1 ≡ a → (b : Bool) → eqb code 8 ≡ b → (m : Bool) → if (a || b) true (if m false false) ≡ true
          → false ≡ true
      go true q b r m z = let w = rw q at e in cc
      go false q true r m z = let c = eqb-true code 8 r in let w = rw c at e in cc
      go false q false r true z = z
      go false q false r false z = z

  command_closing : (inside : Bool) → Closing inside (command_at false bytes at inside)
  unfolding command_at retired
  command_closing inside =
      go (byte_at bytes at) (placed (byte_at bytes at) inside) refl (leb (at + 1 + operands_of (byte_at bytes at)) (length bytes))
    where
      go : (code : ℕ) (p : Bool) → placed code inside ≡ p → (l : Bool) → Closing inside
          (if p
          (if l (Ok (record { command = decode bytes at code; next = record { at = at + 1 + operands_of code } })) (Err CutOff)) (Err Misplaced))
      go code true e true = close_inside code inside e
      go code true e false = refl
      go code false e l = refl

-- what is read from a place on
abbrev ReadWithin : ℕ → Reading → Type 0
ReadWithin len (accepted rules) = length rules ≤ max_rules
ReadWithin len (refused reason place) = Refused book_numbers len (record { reason = reason; place = place })

read_within : (n : ℕ) (bytes : List ℕ) (at : ℕ) (d : Draft) → Room d → ReadWithin (length bytes) (read_from false n bytes at d)
unfolding read_from
read_within zero bytes at d r = by CutOff _ refl (omega arith)
read_within (suc n) bytes at d r =
    go (ltb at (length bytes)) refl (command_at false bytes at d.inside) (command_closing bytes at d.inside) (read_within n bytes)
  where
    Rest : Type 0
    Rest = (m : ℕ) (e : Draft) → Room e → ReadWithin (length bytes) (read_from false n bytes m e)

    decided : (v : Verdict) (m : ℕ) → Rest → Fair (length bytes) v → ReadWithin (length bytes) (go_on v (read_from false n bytes m))
    decided (goes e) m ih f = ih m e f
    decided (accepts rules) m ih f = f
    decided (refuses _ place) m ih f = f

    taken : (c : Result Decoded Reason) → Closing d.inside c → Rest → at < length bytes
        → ReadWithin (length bytes) (take_in c d at (length bytes) (read_from false n bytes))
    taken (Ok read) h ih l =
        decided (apply d read.command at (length bytes)) read.next.at ih (apply_fair d at (length bytes) r l read.command h)
    taken (Err reason) h ih l = by reason _ h (omega arith)

    go : (t : Bool) → ltb at (length bytes) ≡ t → (c : Result Decoded Reason) → Closing d.inside c → Rest
        → ReadWithin (length bytes) (if t (take_in c d at (length bytes) (read_from false n bytes)) (refused CutOff (length bytes)))
    go true e c h ih = taken c h ih (ltb-true at (length bytes) e)
    go false e c h ih = by CutOff _ refl (omega arith)

answer-within : (r : Reading) → ReadWithin max_bytes r → BookWithin book_numbers (answer r)
answer-within (accepted rules) w = w
answer-within (refused _ place) w = w

book_read : (book : List ℕ) → ReadWithin max_bytes (read_book book)
unfolding read_by
book_read book = go (ltb max_bytes (length book)) refl
  where
    shorter : (r : Reading) → length book ≤ max_bytes → ReadWithin (length book) r → ReadWithin max_bytes r
    shorter (accepted rules) l w = w
    shorter (refused reason place) l w = by reason place w.number_among (omega (arith, w.place-within))

    go : (t : Bool) → ltb max_bytes (length book) ≡ t
        → ReadWithin max_bytes (if t (refused BookTooLong 0) (read_from false (length book) book 0 (between [])))
    go true e = by BookTooLong 0 refl (omega arith)
    go false e =
        shorter (read_from false (length book) book 0 (between [])) (ltb-false max_bytes (length book) e)
        (read_within (length book) book 0 (between []) (omega arith))

pub book_within : (book : List ℕ) → BookWithin book_numbers (answer (read_book book))
book_within book = answer-within (read_book book) (book_read book)

pub strict_within : (book : List ℕ) → BookWithin strict_numbers (answer (read_strict book))
strict_within book = go (ltb max_bytes (length book)) refl (stricter book)
  where
    ordinary : (a : Result ℕ Refusal) → BookWithin book_numbers a → BookWithin strict_numbers a
    ordinary (Ok rules) w = w
    ordinary (Err f) w = of_book (33 ∷ []) (omega arith) w

    go : (t : Bool) → ltb max_bytes (length book) ≡ t → Stricter book (read_strict book) (read_book book)
        → BookWithin strict_numbers (answer (read_strict book))
    go t e (alike s) = rw s (ordinary (answer (read_book book)) (book_within book))
    go true e (retires place l b s) = rw (read_too_long true book (ltb-true max_bytes (length book) e)) (by BookTooLong 0 refl (omega arith))
    go false e (retires place l b s) = rw s (by Retired place refl (omega (arith, ltb-false max_bytes (length book) e)))

pub book_refused : (book : List ℕ) (f : Refusal) → answer (read_book book) ≡ Err f → Refused book_numbers max_bytes f
book_refused book f e = subst (BookWithin book_numbers) e (book_within book)

pub book_accepted : (book : List ℕ) (rules : ℕ) → answer (read_book book) ≡ Ok rules → rules ≤ max_rules
book_accepted book rules e = subst (BookWithin book_numbers) e (book_within book)

-- ---- a rule by its number

numbered_within : (P : ℕ → ℕ → Type 0) (book : List ℕ)
    → ((rules : List Rule) → read_book book ≡ accepted rules → All (λ (r : Rule). P r.tag r.kind) rules) → (index : ℕ)
    → RuleWithin P (rule_outcome book index)
unfolding rule_outcome numbered
numbered_within P book h index = go (read_book book) refl (book_read book)
  where
    told : (count : ℕ) → count ≤ max_rules → (rules : List Rule) (k : ℕ) → All (λ (r : Rule). P r.tag r.kind) rules
        → RuleWithin P (rule_answer (numbered rules k) count)
    told count l [] k a = by UnknownTag count refl (omega arith)
    told count l (r ∷ rs) zero (p, a) = p
    told count l (r ∷ rs) (suc k) (p, a) = told count l rs k a

    go : (o : Reading) → read_book book ≡ o → ReadWithin max_bytes o → RuleWithin P (rule_reading o index)
    go (accepted rules) e w = told (length rules) w rules index (h rules e)
    go (refused _ place) e w = of_book (18 ∷ []) (omega arith) w

pub rule_refused : (book : List ℕ) (index : ℕ) (f : Refusal) → rule_outcome book index ≡ Err f → Refused rule_numbers max_bytes f
rule_refused book index f e = subst (RuleWithin _) e (numbered_within (λ tag kind. Unit {0}) book (λ rules z. each rules) index)
  where
    each : (rules : List Rule) → All (λ (r : Rule). Unit {0}) rules
    each [] = tt
    each (r ∷ rs) = (tt, each rs)

-- of a book that is a run of bytes
abbrev pub TagAndKind : ℕ → ℕ → Type 0
TagAndKind tag kind = (tag < 65536) × (kind ≤ 1)

pub rule-within : (book : List ℕ) → All (λ (b : ℕ). b < 256) book → (index : ℕ) → RuleWithin TagAndKind (rule_outcome book index)
rule-within book bytes = numbered_within TagAndKind book (λ rules e.
    all_map _ _ (λ r v. (v.tag_below, v.kind)) rules (accepted_valid book rules (byte_below book bytes) e).rules_valid.each)

pub rule_accepted : (book : List ℕ) → All (λ (b : ℕ). b < 256) book → (index tag kind : ℕ) → rule_outcome book index ≡ named tag kind
    → (tag < 65536) × (kind ≤ 1)
rule_accepted book bytes index tag kind e = subst (RuleWithin TagAndKind) e (rule-within book bytes index)

-- ---- lexing

pub lex-within : (book text records : List ℕ) → LexWithin (lex_outcome book text records).answer
unfolding lex_outcome lex_rules
lex-within book text records = go (read_book book) (book_read book)
  where
    by_rules : (rules : List Rule) (long : Bool) → ltb max_text (length text) ≡ long → (few : Bool)
        → LexWithin (if long (lex_refused TextTooLong 0 records)
        (if few (lex_refused TooFewRecords (length (lex rules text).tokens) records) (lex_accepted (lex rules text) text records))).answer
    by_rules rules true e few = by TextTooLong 0 refl (omega arith)
    by_rules rules false e true = by TooFewRecords _ refl (omega (arith, lex_few rules text, ltb-false max_text (length text) e))
    by_rules rules false e false =
        let l : length text ≤ max_text = ltb-false max_text (length text) e in (omega (arith, lex_few rules text), omega arith)

    go : (r : Reading) → ReadWithin max_bytes r → LexWithin (lex_reading r text records).answer
    go (accepted rules) w = by_rules rules (ltb max_text (length text)) refl (ltb (record_count records) (length (lex rules text).tokens))
    go (refused _ place) w = of_book (14 ∷ 15 ∷ []) (omega arith) w

pub lex_refused_lem : (book text records : List ℕ) (f : Refusal) → (lex_outcome book text records).answer ≡ Err f
    → Refused lex_numbers max_text f
lex_refused_lem book text records f e = subst LexWithin e (lex-within book text records)

pub lex_accepted_lem : (book text records : List ℕ) (tokens rest : ℕ) → (lex_outcome book text records).answer ≡ lexed tokens rest
    → (tokens ≤ max_text) × (rest ≤ max_text)
lex_accepted_lem book text records tokens rest e = subst LexWithin e (lex-within book text records)

-- with masks
pub masked_within : (book text records masks : List ℕ) → LexWithin (masked_outcome book text records masks).answer
masked_within book text records masks = go (masked_outcome book text records masks).answer refl
  where
    go : (a : Result Cut Refusal) → (masked_outcome book text records masks).answer ≡ a → LexWithin a
    go (Ok cut) e =
        lex_accepted_lem book text records cut.tokens cut.rest (masked_lexed book text records masks cut.tokens cut.rest e).1.1.cut
    go (Err f) e = elim (masked_refused_lem book text records masks f e).why [
      | inl w ↦ lex_refused_lem book text records f w.0
      | inr w ↦ rw w.4 (by TooFewRecords w.0 refl (lex_accepted_lem book text records w.0 w.1 w.2).0)
    ]

-- ---- cutting in turns

module _ (book text : List ℕ) (place budget : ℕ) (records masks : List ℕ) where
  pub turn-within : TurnWithin (turn_outcome book text place budget records masks).answer
  unfolding turn_outcome turn_rules
  turn-within = go (read_book book) (book_read book)
    where
      by_rules : (rules : List Rule) (long : Bool) → ltb max_text (length text) ≡ long → (past few : Bool)
          → TurnWithin (if long (turn_refused TextTooLong 0 records masks) (if past (turn_refused PastTheText 0 records masks)
          (if few (turn_refused TooFewRecords (length (turn rules (drop place text) budget).tokens) records masks)
          (turn_accepted rules (turn rules (drop place text) budget) text place records masks)))).answer
      by_rules rules true e past few = by TextTooLong 0 refl (omega arith)
      by_rules rules false e true few = by PastTheText 0 refl (omega arith)
      by_rules rules false e false true =
          by TooFewRecords _ refl
          (omega (arith, simp length-drop at (turn_short rules (drop place text) budget), ltb-false max_text (length text) e))
      by_rules rules false e false false =
          let l : length text ≤ max_text = ltb-false max_text (length text) e in
          (omega (arith, simp length-drop at (turn_short rules (drop place text) budget)), omega arith)

      go : (r : Reading) → ReadWithin max_bytes r → TurnWithin (turn_reading r text place budget records masks).answer
      go (accepted rules) w = by_rules rules (ltb max_text (length text)) refl (ltb (length text) place)
          (ltb (room_in records masks) (length (turn rules (drop place text) budget).tokens))
      go (refused _ at) w = of_book (14 ∷ 27 ∷ 15 ∷ []) (omega arith) w

  pub turn_refused_lem : (f : Refusal) → (turn_outcome book text place budget records masks).answer ≡ Err f
      → Refused turn_numbers max_text f
  turn_refused_lem f e = subst TurnWithin e turn-within

-- ---- lists of tokens

length_from : (records : List ℕ) (k n : ℕ) → length (records_from records k n) ≡ n
unfolding records_from
length_from records k zero = refl
length_from records k (suc n) = ap suc (length_from records (suc k) n)

length_records : (records : List ℕ) → length (records_of records) ≡ record_count records
unfolding records_of
length_records records = length_from records 0 (record_count records)

length-tokens : (pool : List ℕ) (rs : List TokenRecord) → length (tokens_in pool rs) ≡ length rs
unfolding tokens_in
length-tokens pool [] = refl
length-tokens pool (r ∷ rs) = ap suc (length-tokens pool rs)

-- the refusal, or the reason, if there is one
abbrev Refusing : List ℕ → ℕ → Option Refusal → Type 0
Refusing numbers most none = Unit {0}
Refusing numbers most (some f) = Refused numbers most f

abbrev Numbered : List ℕ → Option Reason → Type 0
Numbered numbers none = Unit {0}
Numbered numbers (some reason) = among (number_of reason) numbers ≡ true

module _ (numbers : List ℕ) (most : ℕ) where
  refuse-within : (t : Bool) (reason : Reason) {place : ℕ} (next : Option Refusal) → among (number_of reason) numbers ≡ true → place ≤ most
      → (t ≡ false → Refusing numbers most next) → Refusing numbers most (refuse t reason place next)
  unfolding refuse
  refuse-within true reason next e l h = by reason _ e l
  refuse-within false _ next e l h = h refl

  refuse_by_within : (o : Option Reason) {place : ℕ} (next : Option Refusal) → Numbered numbers o → place ≤ most
      → Refusing numbers most next → Refusing numbers most (refuse_by o place next)
  unfolding refuse_by
  refuse_by_within (some reason) next e l h = by reason _ e l
  refuse_by_within none next e l h = h

  fault_within : (fault : TokenRecord → Option Reason) → ((r : TokenRecord) → Numbered numbers (fault r))
      → (rs : List TokenRecord) (k : ℕ) → k + length rs ≤ most → Refusing numbers most (first_fault fault rs k)
  unfolding first_fault
  fault_within fault e [] k l = tt
  fault_within fault e (r ∷ rs) k l =
      refuse_by_within (fault r) _ (e r) (omega arith) (fault_within fault e rs (suc k) (omega arith))

  extended_within : among 21 numbers ≡ true → (rules : List Rule) (ts : List Token) (k : ℕ) → k + length ts ≤ most
      → Refusing numbers most (first_extended rules ts k)
  unfolding first_extended
  extended_within e rules [] k l = tt
  extended_within e rules (t ∷ ts) k l =
      refuse-within (extends rules t.bytes (join ts)) ReadOn _ e (omega arith) (λ z. extended_within e rules ts (suc k) (omega arith))

  refused_if-within : (t : Bool) (reason : Reason) {place : ℕ} (out : List ℕ) (next : PrintOutcome)
      → among (number_of reason) numbers ≡ true → place ≤ most
      → (t ≡ false → PrintWithin numbers most next.answer) → PrintWithin numbers most (refused_if t reason place out next).answer
  unfolding refused_if
  refused_if-within true reason out next e l h = by reason _ e l
  refused_if-within false _ out next e l h = h refl

  unless-within : (o : Option Refusal) (out : List ℕ) (next : PrintOutcome) → Refusing numbers most o
      → PrintWithin numbers most next.answer → PrintWithin numbers most (unless o out next).answer
  unfolding unless
  unless-within (some f) out next r w = r
  unless-within none out next r w = w

  written-within : among 22 numbers ≡ true → (bytes out : List ℕ) → length bytes ≤ most → length bytes ≤ max_text
      → PrintWithin numbers most (written bytes out).answer
  written-within e bytes out l m = refused_if-within (ltb (length out) (length bytes)) OutputTooShort out _ e l (λ z. m)

  up_to_within : (limit : ℕ) (reason : Reason) → among (number_of reason) numbers ≡ true → among 22 numbers ≡ true
      → limit ≤ most → limit ≤ max_text → (bytes out : List ℕ) → PrintWithin numbers most (written_up_to limit reason bytes out).answer
  unfolding written_up_to
  up_to_within limit reason e f l m bytes out =
      refused_if-within (ltb limit (length bytes)) reason out _ e (omega arith) (λ z.
      let short : length bytes ≤ limit = ltb-false limit (length bytes) z in
      written-within f bytes out (omega arith) (omega arith))

fault_number : (numbers : List ℕ) → among 17 numbers ≡ true → among 18 numbers ≡ true → among 19 numbers ≡ true
    → (rules : List Rule) (pool : List ℕ) (r : TokenRecord) → Numbered numbers (fault_of rules pool r)
unfolding fault_of
fault_number numbers e f g rules pool r =
    go (ltb (length pool) (r.place + r.len)) (not (tagged r.tag rules)) (not (alone_in rules r.tag (bytes_in pool r)))
  where
    go : (a b c : Bool) → Numbered numbers (if a (some PastThePool) (if b (some UnknownTag) (if c (some NotAlone) none)))
    go true b c = e
    go false true c = f
    go false false true = g
    go false false false = tt

-- ---- rewriting a book

pub rewrite_within : (book out : List ℕ) → PrintWithin rewrite_numbers max_bytes (rewrite_outcome book out).answer
unfolding rewrite_outcome
rewrite_within book out = go (read_book book) (book_read book)
  where
    go : (r : Reading) → ReadWithin max_bytes r → PrintWithin rewrite_numbers max_bytes (rewrite_reading r book out).answer
    go (accepted rules) w =
        up_to_within rewrite_numbers max_bytes max_bytes BookTooLong refl refl (omega arith) (omega arith) (rewritten book) out
    go (refused _ place) w = of_book (22 ∷ []) (omega arith) w

-- ---- making a rule of an expression

-- bytes that a rule has at most, of 255 states and 256 SPANs of each
abbrev pub most_rule : ℕ
most_rule = 326919

-- the same of a call that makes a rule, which may be longer than a text
abbrev pub RuleMade : Result ℕ Refusal → Type 0
RuleMade (Ok bytes) = bytes ≤ most_rule
RuleMade (Err f) = Refused compile_numbers most_rule f

made_if : (t : Bool) (reason : Reason) {place : ℕ} (out : List ℕ) (next : PrintOutcome)
    → among (number_of reason) compile_numbers ≡ true → place ≤ most_rule
    → (t ≡ false → RuleMade next.answer) → RuleMade (refused_if t reason place out next).answer
unfolding refused_if
made_if true reason out next e l h = by reason _ e l
made_if false _ out next e l h = h refl

pub compile_within : (tag kind : ℕ) (text out : List ℕ) → RuleMade (compile_outcome tag kind text out).answer
unfolding compile_outcome
compile_within tag kind text out =
    made_if (eqb tag 0 || ltb 1 kind) OutOfRange out _ refl (omega arith) (λ x.
    made_if (ltb max_expression (length text)) LargeExpression out _ refl (omega arith) (λ y.
    go (read_expression text) refl (ltb-false max_expression (length text) y)))
  where
    go : (r : Expressed) → read_expression text ≡ r → length text ≤ max_expression → RuleMade (compile_reading tag kind r out).answer
    go (wrong place) e l = by NoExpression place refl (omega (arith, (wrong_first text e).within))
    go (right x) e l =
        made_if (is_too_large x) LargeExpression out _ refl (omega arith) (λ s.
        made_if (many_sets x) TooManySets out _ refl (omega arith) (λ t.
        let short : length (compiled tag kind x) ≤ most_rule = compiled_short tag kind x t in
        made_if (ltb (length out) (length (compiled tag kind x))) OutputTooShort out _ refl short (λ z. short)))

-- ---- printing

pub print_within : (book records pool out : List ℕ) → PrintWithin print_numbers max_text (print_outcome book records pool out).answer
unfolding print_outcome print_rules print_checked
print_within book records pool out = go (read_book book) (book_read book)
  where
    checked : (rules : List Rule) (ts : List Token) → length ts ≤ max_tokens
        → PrintWithin print_numbers max_text (print_checked rules ts out).answer
    checked rules ts few =
        refused_if-within print_numbers max_text (ltb max_text (length (join ts))) OutputTooLong out _ refl (omega arith) (λ e.
        let short : length (join ts) ≤ max_text = ltb-false max_text (length (join ts)) e in
        unless-within print_numbers max_text (first_extended rules ts 0) out _
        (extended_within print_numbers max_text refl rules ts 0 (omega arith))
        (written-within print_numbers max_text refl (join ts) out short short))

    by_rules : (rules : List Rule) → PrintWithin print_numbers max_text (print_rules rules records pool out).answer
    by_rules rules =
        refused_if-within print_numbers max_text (ltb max_tokens (record_count records)) TooManyTokens out _ refl (omega arith) (λ e.
        let l : record_count records ≤ max_tokens = ltb-false max_tokens (record_count records) e in
        let few : length (records_of records) ≤ max_tokens = omega (arith, length_records records) in
        unless-within print_numbers max_text (first_fault (fault_of rules pool) (records_of records) 0) out _
        (fault_within print_numbers max_text (fault_of rules pool) (fault_number print_numbers refl refl refl rules pool) (records_of records) 0
        (omega arith))
        (checked rules (tokens_of records pool) (omega (arith, length-tokens pool (records_of records)))))

    go : (r : Reading) → ReadWithin max_bytes r → PrintWithin print_numbers max_text (print_reading r records pool out).answer
    go (accepted rules) w = by_rules rules
    go (refused _ place) w = of_book (16 ∷ 17 ∷ 18 ∷ 19 ∷ 20 ∷ 21 ∷ 22 ∷ []) (omega arith) w

pub print_refused_lem : (book records pool out : List ℕ) (f : Refusal) → (print_outcome book records pool out).answer ≡ Err f
    → Refused print_numbers max_text f
print_refused_lem book records pool out f e = subst (PrintWithin print_numbers max_text) e (print_within book records pool out)

pub print_accepted_lem : (book records pool out : List ℕ) (bytes : ℕ) → (print_outcome book records pool out).answer ≡ Ok bytes
    → bytes ≤ max_text
print_accepted_lem book records pool out bytes e = subst (PrintWithin print_numbers max_text) e (print_within book records pool out)

-- ---- printing with separators

or_else_number : (numbers : List ℕ) (fault : Option Reason) (test : Bool) (reason : Reason) → Numbered numbers fault
    → among (number_of reason) numbers ≡ true → Numbered numbers (or_else fault test reason)
unfolding or_else
or_else_number numbers (some n) test _ f e = f
or_else_number numbers none true _ f e = e
or_else_number numbers none false _ f e = tt

shared-within : (most : ℕ) → 256 ≤ most → (rules : List Rule) → Refusing separated_numbers most (sharing (shared_byte rules))
unfolding shared_byte lowest_from sharing
shared-within most l rules = lowest (shared rules) 0 256 (omega arith)
  where
    lowest : (f : ℕ → Bool) (b n : ℕ) → b + n ≤ most → Refusing separated_numbers most (sharing (lowest_from f b n))
    lowest f b zero l = tt
    lowest f b (suc n) l = go (f b) (lowest f (suc b) n (omega arith))
      where
        go : (t : Bool) → Refusing separated_numbers most (sharing (lowest_from f (suc b) n))
            → Refusing separated_numbers most (sharing (if t (some b) (lowest_from f (suc b) n)))
        go true w = by SharedByte b refl (omega arith)
        go false w = w

-- the separator token is refused at the list's length
abbrev pub farthest : List ℕ → ℕ
farthest records = max max_tokens (record_count records)

pub separated-within : (book : List ℕ) (sep : TokenRecord) (mode : ℕ) (records pool out : List ℕ)
    → PrintWithin separated_numbers (farthest records) (separated_outcome book sep mode records pool out).answer
unfolding separated_outcome separated_rules separated_refusal list_refusal separator_fault plain_fault
separated-within book sep mode records pool out = go (read_book book) (book_read book)
  where
    most : ℕ
    most = farthest records

    limit : max_tokens ≤ most
    limit = le-max_left max_tokens (record_count records)

    count : record_count records ≤ most
    count = le-max_right max_tokens (record_count records)

    faults : (rules : List Rule) (r : TokenRecord) → Numbered separated_numbers (fault_of rules pool r)
    faults rules r = fault_number separated_numbers refl refl refl rules pool r

    tokens : (rules : List Rule) → Refusing separated_numbers most (first_fault (plain_fault rules pool) (records_of records) 0)
    tokens rules =
        fault_within separated_numbers most (plain_fault rules pool)
        (λ r. or_else_number separated_numbers (fault_of rules pool r) (separates rules r.tag) SeparatorInList (faults rules r) refl)
        (records_of records) 0 (omega (arith, length_records records, count))

    list : (rules : List Rule) → Refusing separated_numbers most (list_refusal rules sep mode records pool)
    list rules =
        refuse-within separated_numbers most (ltb 2 mode) UnknownMode _ refl (omega arith) (λ e.
        refuse_by_within separated_numbers most (separator_fault rules pool sep) _
        (or_else_number separated_numbers (fault_of rules pool sep) (not (separates rules sep.tag)) NoSeparator (faults rules sep) refl)
        count
        (refuse-within separated_numbers most (ltb max_tokens (record_count records)) TooManyTokens _ refl (omega arith) (λ z.
        tokens rules)))

    before : (o next : Option Refusal) → Refusing separated_numbers most o → Refusing separated_numbers most next
        → Refusing separated_numbers most (or o next)
    before (some f) next r w = r
    before none next r w = w

    go : (r : Reading) → ReadWithin max_bytes r
        → PrintWithin separated_numbers most (separated_reading r sep mode records pool out).answer
    go (accepted rules) w =
        unless-within separated_numbers most (separated_refusal rules sep mode records pool) out _
        (before (sharing (shared_byte rules)) _ (shared-within most (omega (arith, limit)) rules) (list rules))
        (up_to_within separated_numbers most max_text OutputTooLong refl refl (omega (arith, limit)) (omega arith)
        (spelled rules sep mode records pool) out)
    go (refused _ place) w = of_book (23 ∷ 24 ∷ 17 ∷ 18 ∷ 19 ∷ 25 ∷ 16 ∷ 26 ∷ 20 ∷ 22 ∷ []) (omega (arith, limit)) w

pub separated_refused : (book : List ℕ) (sep : TokenRecord) (mode : ℕ) (records pool out : List ℕ) (f : Refusal)
    → (separated_outcome book sep mode records pool out).answer ≡ Err f → Refused separated_numbers (farthest records) f
separated_refused book sep mode records pool out f e =
    subst (PrintWithin separated_numbers (farthest records)) e (separated-within book sep mode records pool out)

pub separated_accepted : (book : List ℕ) (sep : TokenRecord) (mode : ℕ) (records pool out : List ℕ) (bytes : ℕ)
    → (separated_outcome book sep mode records pool out).answer ≡ Ok bytes → bytes ≤ max_text
separated_accepted book sep mode records pool out bytes e =
    subst (PrintWithin separated_numbers (farthest records)) e (separated-within book sep mode records pool out)
