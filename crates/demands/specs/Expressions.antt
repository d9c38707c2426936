-- Document 02, wish 9: rules as extended regular expressions. What a call that makes a rule of one answers and writes, and what a reader
-- makes of the rule.
use Rattle.answer.specs.declared.Reason.{Reason}
use Rattle.answer.specs.Refusals.{number_of}
use Rattle.answer.specs.declared.Reason.TheVariants.{BookTooLong, LargeExpression, NoExpression, OutOfRange, OutputTooShort}
use Rattle.answer.specs.declared.Reason.TheVariants.{StartFinal, TooMany, TooManySets}
use Rattle.std.specs.Prelude.{◌≡◌, ◌⊎◌, ◌↔◌, Bool, true, false, List, [], ◌∷◌, ◌++◌, ℕ, ◌+◌, ◌*◌, ◌<◌, ◌≤◌, length, take}
use Rattle.std.specs.Prelude.{drop, Result, Ok, Err}
use Rattle.answer.specs.declared.Refusal.{Refusal}
use Rattle.automaton.specs.Choice.{All, among}
use Rattle.automaton.specs.Rule.{Transition, Rule, Ranged, matches}
use Rattle.book.specs.Limits.{max_bytes, max_transitions}
use Rattle.reader.specs.Reading.{accepted, refused, read_by, read_book}
use Rattle.expression.specs.Expression.{Expression, Matches}
use Rattle.expression.specs.Spelling.{alternatives, Spells}
use Rattle.expression.specs.Faults.{FirstFault}
use Rattle.positions.specs.Positions.{size, depth}
use Rattle.rule_commands.specs.Bytes.{rule_bytes}
use Rattle.rule_commands.specs.Spans.{spans_of}
use Rattle.rule_commands.specs.Fit.{error_state, rule_by}
use Rattle.zagvulem.specs.Numbers.{compile_numbers}
use Rattle.expression_rule.specs.Reached.{StatesOf, ManyReached}
use Rattle.expression_rule.specs.Outcome.{max_expression, max_positions, max_depth, many_sets, compiled}
use Rattle.demands.specs.Calls.{Compile}

abbrev pub refused_by : Reason → ℕ → Result ℕ Refusal
refused_by reason place = Err (record { reason = reason; place = place })

-- ---- what a call answers: "Turned away, in this order"

-- no refusal but these, and then nothing is written
abbrev pub RefusedCompile : Type 0
RefusedCompile =
    (tag kind : ℕ) (text entry exit : List ℕ) (r : Refusal) → Compile tag kind text entry exit (Err r)
    → (among (number_of r.reason) compile_numbers ≡ true) × (exit ≡ entry)

abbrev pub PastTheRule : Type 0
PastTheRule =
    (tag kind : ℕ) (text entry exit : List ℕ) (n : ℕ) → Compile tag kind text entry exit (Ok n) → drop n exit ≡ drop n entry

-- a tag and a kind that a rule may have, and a text that is not too long
pub record Asked (tag kind : ℕ) (text : List ℕ) : Type 0 where
  pub some_tag : 0 < tag
  pub known_kind : kind ≤ 1
  pub short : length text ≤ max_expression

-- "over 64 positions, or parentheses deeper than 16"
abbrev pub Large : Expression → Type 0
Large e = (max_positions < size e) ⊎ (max_depth < depth e)

pub record Small (e : Expression) : Type 0 where
  pub few : size e ≤ max_positions
  pub shallow : depth e ≤ max_depth

-- The order in which a call is turned away. Each line says that what the lines above it name is not so; one of them always holds, as a text
-- spells an expression or has a first fault (`SpelledOrFaulty`).
pub record TurnedAway (tag kind : ℕ) (text entry : List ℕ) (r : Result ℕ Refusal) : Type 0 where
  pub tag_or_kind : (tag ≡ 0) ⊎ (1 < kind) → r ≡ refused_by OutOfRange 0
  pub too_long : 0 < tag → kind ≤ 1 → max_expression < length text → r ≡ refused_by LargeExpression 0
  pub faulty : Asked tag kind text → (place : ℕ) → FirstFault text place → r ≡ refused_by NoExpression place
  pub too_large : Asked tag kind text → (e : Expression) → Spells alternatives e text → Large e → r ≡ refused_by LargeExpression 0
  pub too_many : Asked tag kind text → (e : Expression) → Spells alternatives e text → Small e → many_sets e ≡ true
      → r ≡ refused_by TooManySets 0
  pub no_room : Asked tag kind text → (e : Expression) → Spells alternatives e text → Small e → many_sets e ≡ false
      → length entry < length (compiled tag kind e) → r ≡ refused_by OutputTooShort (length (compiled tag kind e))
  pub accepts : Asked tag kind text → (e : Expression) → Spells alternatives e text → Small e → many_sets e ≡ false
      → length (compiled tag kind e) ≤ length entry → r ≡ Ok (length (compiled tag kind e))

abbrev pub CompileRefusals : Type 0
CompileRefusals =
    (tag kind : ℕ) (text entry exit : List ℕ) (r : Result ℕ Refusal) → Compile tag kind text entry exit r → TurnedAway tag kind text entry r

-- So each answer has its reason: a call ends in one of these ways.
pub data Ends (tag kind : ℕ) (text entry : List ℕ) (r : Result ℕ Refusal) : Type 0 where
  six : (tag ≡ 0) ⊎ (1 < kind) → r ≡ refused_by OutOfRange 0 → Ends tag kind text entry r
  long : 0 < tag → kind ≤ 1 → max_expression < length text → r ≡ refused_by LargeExpression 0 → Ends tag kind text entry r
  fault : Asked tag kind text → (place : ℕ) → FirstFault text place → r ≡ refused_by NoExpression place → Ends tag kind text entry r
  large : Asked tag kind text → (e : Expression) → Spells alternatives e text → Large e → r ≡ refused_by LargeExpression 0
      → Ends tag kind text entry r
  many : Asked tag kind text → (e : Expression) → Spells alternatives e text → Small e → many_sets e ≡ true → r ≡ refused_by TooManySets 0
      → Ends tag kind text entry r
  full : Asked tag kind text → (e : Expression) → Spells alternatives e text → Small e → many_sets e ≡ false
      → length entry < length (compiled tag kind e) → r ≡ refused_by OutputTooShort (length (compiled tag kind e))
      → Ends tag kind text entry r
  made : Asked tag kind text → (e : Expression) → Spells alternatives e text → Small e → many_sets e ≡ false
      → length (compiled tag kind e) ≤ length entry → r ≡ Ok (length (compiled tag kind e)) → Ends tag kind text entry r

abbrev pub CallEnds : Type 0
CallEnds =
    (tag kind : ℕ) (text entry exit : List ℕ) (r : Result ℕ Refusal) → Compile tag kind text entry exit r → Ends tag kind text entry r

-- 32 stands for "more than 254 reachable non-empty sets"; where there are not so many, `StatesOf` says that at most 254 are all.
abbrev pub ManyAreReached : Type 0
ManyAreReached = (e : Expression) → Small e → many_sets e ≡ true → ManyReached e

abbrev pub SpelledOrFaulty : Type 0
SpelledOrFaulty = (text : List ℕ) → ((e : Expression) × Spells alternatives e text) ⊎ ((place : ℕ) × FirstFault text place)

-- 30 stands at "the first byte at which no continuation could be right, or the text's length", and for nothing else
abbrev pub FirstFaultRefused : Type 0
FirstFaultRefused =
    (tag kind : ℕ) (text entry exit : List ℕ) (r : Result ℕ Refusal) → Compile tag kind text entry exit r → Asked tag kind text
    → (place : ℕ) → (r ≡ refused_by NoExpression place) ↔ FirstFault text place

-- ---- what is written

-- an accepted call with a tag of two bytes wrote these bytes
pub record Compiles (tag kind : ℕ) (text bytes : List ℕ) : Type 0 where
  pub two_bytes : tag < 65536
  pub entry : List ℕ
  pub exit : List ℕ
  pub count : ℕ
  pub call : Compile tag kind text entry exit (Ok count)
  pub written : bytes ≡ take count exit

-- "a book of it alone"
abbrev pub book_of : List ℕ → List ℕ
book_of bytes = bytes ++ (8 ∷ [])

abbrev pub Rise : List ℕ → Type 0
Rise [] = Unit {0}
Rise (x ∷ xs) = All (λ (y : ℕ). x < y) xs × Rise xs

-- the two could be one SPAN
pub record Joined (t u : Transition) : Type 0 where
  pub state : t.from ≡ u.from
  pub next : t.high + 1 ≡ u.low
  pub target : t.to ≡ u.to

-- "RULE, START 0, ERROR 255, FINALs rising, SPANs by state and byte, CLOSE": the SPANs are those of a row for each state, from 0 on; "each
-- SPAN is as long as can be, none goes to 255"
pub record Commands (tag kind : ℕ) (bytes finals : List ℕ) (spans : List Transition) : Type 0 where
  pub are : bytes ≡ rule_bytes tag kind finals spans
  pub rise : Rise finals
  pub rows : List (List ℕ)
  pub by_state : spans ≡ spans_of 0 rows
  pub longest : All (λ (t : Transition). All (λ (u : Transition). Joined t u → ⊥) spans) spans
  pub below_error : All (Ranged error_state) spans

-- What both readings make of a book of it alone: "1 applies above the book limit; failing that, a 513th move meets 5" (4,097th by wish 13);
-- "failing both, a rule that matches the empty string meets 12"; else it is accepted.
pub record ReadAlone (tag kind : ℕ) (e : Expression) (bytes finals : List ℕ) (spans : List Transition) (strict : Bool) : Type 0 where
  pub too_long : max_bytes < length (book_of bytes) → read_by strict (book_of bytes) ≡ refused BookTooLong 0
  pub too_many : length (book_of bytes) ≤ max_bytes → max_transitions < length spans
      → read_by strict (book_of bytes) ≡ refused TooMany (8 + 2 * length finals + 5 * max_transitions)
  pub takes_empty : length (book_of bytes) ≤ max_bytes → length spans ≤ max_transitions → Matches e []
      → read_by strict (book_of bytes) ≡ refused StartFinal (8 + 2 * length finals + 5 * length spans)
  pub accepts : length (book_of bytes) ≤ max_bytes → length spans ≤ max_transitions → (Matches e [] → ⊥)
      → read_by strict (book_of bytes) ≡ accepted (rule_by tag kind finals spans ∷ [])

-- Of this tag and kind, and its strings are the expression's: "those of the matching rules in 004, section 8.1". Its states are sets of
-- positions, "numbered from 1 by the shortest, then lowest, string that reaches them".
pub record RuleOf (tag kind : ℕ) (e : Expression) (r : Rule) : Type 0 where
  pub tagged : r.tag ≡ tag
  pub of_kind : r.kind ≡ kind
  pub starts : r.start ≡ 0
  pub fails : r.error ≡ 255
  pub same : (w : List ℕ) → All (λ (b : ℕ). b < 256) w → (matches r w ≡ true) ↔ Matches e w
  pub states : StatesOf e r

pub record Written (tag kind : ℕ) (e : Expression) (bytes : List ℕ) : Type 0 where
  pub finals : List ℕ
  pub spans : List Transition
  pub commands : Commands tag kind bytes finals spans
  pub read : (strict : Bool) → ReadAlone tag kind e bytes finals spans strict
  pub rule : RuleOf tag kind e (rule_by tag kind finals spans)

abbrev pub CompiledIsRead : Type 0
CompiledIsRead =
    (tag kind : ℕ) (text bytes : List ℕ) → Compiles tag kind text bytes → (e : Expression) → Spells alternatives e text
    → Written tag kind e bytes

-- an accepted call had an expression to compile
abbrev pub CompiledIsSpelled : Type 0
CompiledIsSpelled = (tag kind : ℕ) (text bytes : List ℕ) → Compiles tag kind text bytes → (e : Expression) × Spells alternatives e text

-- Whenever a book of it alone is accepted, it has one rule, which matches what the expression matches,
abbrev pub CompiledMatches : Type 0
CompiledMatches =
    (tag kind : ℕ) (text bytes : List ℕ) → Compiles tag kind text bytes → (e : Expression) → Spells alternatives e text
    → (rules : List Rule) → read_book (book_of bytes) ≡ accepted rules → (r : Rule) × (rules ≡ r ∷ []) × RuleOf tag kind e r

-- however it is spelled: texts of expressions that match the same strings give rules that match the same.
abbrev pub AnySpelling : Type 0
AnySpelling =
    (tag kind tag₁ kind₁ : ℕ) (text bytes text₁ bytes₁ : List ℕ) → Compiles tag kind text bytes → Compiles tag₁ kind₁ text₁ bytes₁
    → (e f : Expression) → Spells alternatives e text → Spells alternatives f text₁ → ((w : List ℕ) → Matches e w ↔ Matches f w)
    → (r s : Rule) → read_book (book_of bytes) ≡ accepted (r ∷ []) → read_book (book_of bytes₁) ≡ accepted (s ∷ [])
    → (w : List ℕ) → All (λ (b : ℕ). b < 256) w → (matches r w ≡ true) ↔ (matches s w ≡ true)
