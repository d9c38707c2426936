-- An answer's word loses nothing: read as C reads it, it says the answer of the call, in every case; and no word of another number says it.
use Rattle.std.specs.Prelude.{◌≡◌, Bool, List, ℕ, ◌<◌, ◌≤◌}
use Rattle.std.proofs.Math.Option.{some}
use Rattle.automaton.specs.Choice.{All}
use Rattle.reader.specs.Reading.{read_by, answer}
use Rattle.book_reader.specs.Rules.{rule_outcome}
use Rattle.record.specs.Records.{record_count}
use Rattle.record.specs.declared.TokenRecord.{TokenRecord}
use Rattle.rewriting.specs.Outcome.{rewrite_outcome}
use Rattle.expression_rule.specs.Outcome.{compile_outcome}
use Rattle.lexer.specs.Masked.{masked_outcome}
use Rattle.turns.specs.Outcome.{turn_outcome}
use Rattle.printer.specs.Outcome.{print_outcome}
use Rattle.separated.specs.Outcome.{separated_outcome}
use Rattle.answer_word.specs.Words.{largest_place, book_word, rule_word, lex_word, turn_word, next_after, examined_after, print_word}
use Rattle.answer_word.specs.Words.{book_answer_in, rule_answer_in, lex_answer_in, turn_answer_in, print_answer_in}

-- zgv_read_book, and zgv_read_book_strict, which is strict
abbrev pub BookWordKept : Type 0
BookWordKept = (strict : Bool) (book : List ℕ) → book_answer_in (book_word (answer (read_by strict book))) ≡ some (answer (read_by strict book))

-- zgv_rewrite_book
abbrev pub RewriteWordKept : Type 0
RewriteWordKept =
    (book out : List ℕ) → print_answer_in (print_word (rewrite_outcome book out).answer) ≡ some (rewrite_outcome book out).answer

-- zgv_compile
abbrev pub CompileWordKept : Type 0
CompileWordKept =
    (tag kind : ℕ) (text out : List ℕ)
    → print_answer_in (print_word (compile_outcome tag kind text out).answer) ≡ some (compile_outcome tag kind text out).answer

-- zgv_rule, of a book that is a run of bytes: two of them make a tag
abbrev pub RuleWordKept : Type 0
RuleWordKept =
    (book : List ℕ) → All (λ (b : ℕ). b < 256) book → (index : ℕ)
    → rule_answer_in (rule_word (rule_outcome book index)) ≡ some (rule_outcome book index)

-- zgv_lex, and zgv_lex_builtin, whose book is `builtin_bytes`
abbrev pub LexWordKept : Type 0
LexWordKept =
    (book text records masks : List ℕ)
    → lex_answer_in (lex_word (masked_outcome book text records masks).answer) ≡ some (masked_outcome book text records masks).answer

-- zgv_lex_within, with the numbers that it leaves beside the word, whatever stood there before
abbrev pub TurnWordKept : Type 0
TurnWordKept =
    (book text : List ℕ) (place budget : ℕ) (records masks : List ℕ) (next examined : ℕ)
    → turn_answer_in (turn_word (turn_outcome book text place budget records masks).answer)
    (next_after (turn_outcome book text place budget records masks).answer next)
    (examined_after (turn_outcome book text place budget records masks).answer examined)
    ≡ some (turn_outcome book text place budget records masks).answer

-- zgv_print
abbrev pub PrintWordKept : Type 0
PrintWordKept =
    (book records pool out : List ℕ)
    → print_answer_in (print_word (print_outcome book records pool out).answer) ≡ some (print_outcome book records pool out).answer

-- zgv_print_separated: the separator token is refused at the list's length, which no limit holds down
abbrev pub SeparatedWordKept : Type 0
SeparatedWordKept =
    (book : List ℕ) (sep : TokenRecord) (mode : ℕ) (records pool out : List ℕ) → record_count records ≤ largest_place
    → print_answer_in (print_word (separated_outcome book sep mode records pool out).answer)
    ≡ some (separated_outcome book sep mode records pool out).answer
