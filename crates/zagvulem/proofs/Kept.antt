-- The answer of each call is had back from its word, which it fits. Assumes nothing.
use Rattle.answer.specs.declared.Cut.{Cut}
use Rattle.answer.specs.declared.RuleName.{RuleName}
use Rattle.answer.specs.declared.Turn.{Turn}
use Rattle.std.specs.Prelude.{Result, Ok, Err}
use mathlib.Core.Bool.{true, false}
use mathlib.Core.List.{List}
use Prim.Native.Nat.{ℕ, ◌≤◌}
use native.Mathlib.Nat.{max-le}
use native.Mathlib.Omega.{arith}
use Rattle.answer.specs.declared.Refusal.{Refusal}
use Rattle.book.specs.Limits.{max_bytes, max_text}
use Rattle.reader.specs.Reading.{read_book, read_strict, answer}
use Rattle.book_reader.specs.Rules.{rule_outcome}
use Rattle.rewriting.specs.Outcome.{rewrite_outcome}
use Rattle.expression_rule.specs.Outcome.{compile_outcome}
use Rattle.lexer.specs.Masked.{masked_outcome}
use Rattle.turns.specs.Outcome.{turn_outcome}
use Rattle.printer.specs.Outcome.{print_outcome}
use Rattle.separated.specs.Outcome.{separated_outcome}
use Rattle.answer_word.specs.Words.{largest_place}
use Rattle.answer_word.proofs.Kept.{RefusalFits, BookFits, RuleFits, LexFits, TurnFits, PrintFits}
use Rattle.answer_word.proofs.Kept.{book_kept, rule_kept, lex_kept, turn_kept, print_kept}
use Rattle.zagvulem.specs.Numbers.{book_numbers, strict_numbers, rewrite_numbers, print_numbers, separated_numbers, Refused}
use Rattle.zagvulem.specs.Kept.{BookWordKept, RewriteWordKept, CompileWordKept, RuleWordKept, LexWordKept}
use Rattle.zagvulem.specs.Kept.{TurnWordKept, PrintWordKept, SeparatedWordKept}
use Rattle.zagvulem.proofs.Refused.{BookWithin, RuleWithin, TagAndKind, LexWithin, TurnWithin, PrintWithin, farthest}
use Rattle.zagvulem.proofs.Refused.{RuleMade, compile_within, book_within, strict_within, rewrite_within, rule-within, masked_within}
use Rattle.zagvulem.proofs.Refused.{turn-within, print_within, separated-within}

-- ---- an answer of a call fits its word

refusal-fits : {numbers : List ℕ} {most : ℕ} {f : Refusal} → most ≤ largest_place → Refused numbers most f → RefusalFits f
refusal-fits l r = record { place-within = omega (arith, r.place-within) }

book_fits : (numbers : List ℕ) → (a : Result ℕ Refusal) → BookWithin numbers a → BookFits a
book_fits numbers (Ok n) w = omega arith
book_fits numbers (Err f) w = refusal-fits (omega arith) w

rule_fits : (a : Result RuleName Refusal) → RuleWithin TagAndKind a → RuleFits a
rule_fits (Ok r) (l, m) = (omega arith, omega arith)
rule_fits (Err f) w = refusal-fits (omega arith) w

lex-fits : (a : Result Cut Refusal) → LexWithin a → LexFits a
lex-fits (Ok cut) (l, m) = (omega arith, omega arith)
lex-fits (Err f) w = refusal-fits (omega arith) w

turn-fits : (a : Result Turn Refusal) → TurnWithin a → TurnFits a
turn-fits (Ok turn) (l, m) = omega arith
turn-fits (Err f) w = refusal-fits (omega arith) w

print_fits : (numbers : List ℕ) (most : ℕ) → most ≤ largest_place → (a : Result ℕ Refusal)
    → PrintWithin numbers most a → PrintFits a
print_fits numbers most l (Ok n) w = omega arith
print_fits numbers most l (Err f) w = refusal-fits l w

rule_made_fits : (a : Result ℕ Refusal) → RuleMade a → PrintFits a
rule_made_fits (Ok n) w = omega arith
rule_made_fits (Err f) w = refusal-fits (omega arith) w

-- ---- calls

pub book_word_kept : BookWordKept
book_word_kept false book = let a = answer (read_book book) in book_kept a (book_fits book_numbers a (book_within book))
book_word_kept true book = let a = answer (read_strict book) in book_kept a (book_fits strict_numbers a (strict_within book))

pub rewrite_word_kept : RewriteWordKept
rewrite_word_kept book out =
    let a = (rewrite_outcome book out).answer in
    print_kept a (print_fits rewrite_numbers max_bytes (omega arith) a (rewrite_within book out))

pub compile_word_kept : CompileWordKept
compile_word_kept tag kind text out =
    let a = (compile_outcome tag kind text out).answer in print_kept a (rule_made_fits a (compile_within tag kind text out))

pub rule-word_kept : RuleWordKept
rule-word_kept book bytes index = let a = rule_outcome book index in rule_kept a (rule_fits a (rule-within book bytes index))

pub lex-word_kept : LexWordKept
lex-word_kept book text records masks =
    let a = (masked_outcome book text records masks).answer in lex_kept a (lex-fits a (masked_within book text records masks))

pub turn-word_kept : TurnWordKept
turn-word_kept book text place budget records masks next examined =
    let a = (turn_outcome book text place budget records masks).answer in
    turn_kept a next examined (turn-fits a (turn-within book text place budget records masks))

pub print_word_kept : PrintWordKept
print_word_kept book records pool out =
    let a = (print_outcome book records pool out).answer in
    print_kept a (print_fits print_numbers max_text (omega arith) a (print_within book records pool out))

pub separated-word_kept : SeparatedWordKept
separated-word_kept book sep mode records pool out l =
    let a = (separated_outcome book sep mode records pool out).answer in
    print_kept a
    (print_fits separated_numbers (farthest records) (max-le (omega arith) l) a (separated-within book sep mode records pool out))
