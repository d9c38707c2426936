-- What the layers of the code ask and answer between themselves. Nobody needs to believe it: the operations' contracts do not rest on it.
use Rattle.std.specs.Prelude.{◌≡◌, true, false, List, ℕ, ◌+◌, ◌%◌, ◌^◌, ◌<◌, ◌≤◌, ◌*◌, min, length, drop, take, get_or, ltb, eqb}
use Rattle.std.specs.Prelude.{Result, Err, Option, Some, None}
use Rattle.std.proofs.Math.Option.{Option as Maybe, none, some}
use Rattle.std.proofs.Math.Seq.{paste}
use Rattle.answer.specs.declared.Cut.{Cut}
use Rattle.answer.specs.declared.Reason.{Reason}
use Rattle.answer.specs.declared.Reason.TheVariants.{TooManyTokens, OutputTooLong, ReadOn}
use Rattle.answer.specs.declared.Refusal.{Refusal}
use Rattle.answer.specs.Answers.{lexed}
use Rattle.automaton.specs.Choice.{if}
use Rattle.automaton.specs.Rule.{Rule}
use Rattle.automaton.specs.Layers.{rule_at, Holds, Held}
use Rattle.book.specs.Limits.{max_text, max_tokens}
use Rattle.reader.specs.Reading.{read_book, accepted}
use Rattle.longest_match.specs.Lexer.{choose, lex}
use Rattle.longest_match.specs.Layers.{Chooses, Agrees}
use Rattle.record.specs.Records.{record_count}
use Rattle.record.specs.Masks.{mask_count}
use Rattle.record.specs.declared.TokenRecord.{TokenRecord}
use Rattle.record.specs.Encoding.{Fits}
use Rattle.record.specs.Layers.{no_record}
use Rattle.lexer.specs.Masked.{masked_rules, masked_outcome}
use Rattle.lexer.specs.Layers.{LexAnswered}
use Rattle.output.specs.Layers.{WritesOut, PrintAnswered}
use Rattle.token_list.specs.Faults.{fault_of}
use Rattle.token_list.specs.Layers.{Spanned, Faultless}
use Rattle.printer.specs.Outcome.{print_outcome}
use Rattle.slices.specs.declared.lexing.Pending.{Pending}
use Rattle.slices.specs.declared.printing.Stage.{Stage}

-- no token is at fault, and there are so many bytes, not too many
pub record Counted (rules : List Rule) (records pool : List ℕ) (total : ℕ) : Type 0 where
  pub faultless : Faultless rules records pool
  pub spanned : Spanned records pool total

-- the fields of every token fit their types
pub record EachFits (tokens : List TokenRecord) : Type 0 where
  pub each : (k : ℕ) → k < length tokens → Fits (get_or tokens k no_record)

-- ==== Module lexing: the room, and what is pending.

-- neither 14 nor 15 applies
pub record TokensFit (rules : List Rule) (text : List ℕ) (room : ℕ) : Type 0 where
  pub short : length text ≤ max_text
  pub enough : length (lex rules text).tokens ≤ room

-- f is answered by rules with records and masks of so much room, which stay as they were
abbrev pub RoomRefused : List Rule → List ℕ → ℕ → Refusal → Type 0
RoomRefused rules text room f =
    (records masks : List ℕ) → min (record_count records) (mask_count masks) ≡ room
    → LexAnswered (masked_rules rules text records masks) (Err f) records masks

abbrev pub refused_pending : Refusal → Pending
refused_pending f = record { more = false; index = 0; token = no_record; mask = 0; next = 0; refusal = Some f }

-- the refusal, if there is one, else the number of tokens and the place of the rest
abbrev pub answer_by : Option Refusal → ℕ → ℕ → Result Cut Refusal
answer_by (Some f) tokens rest = Err f
answer_by None tokens rest = lexed tokens rest

-- what is answered where no token is pending
abbrev pub answer_of : Pending → Result Cut Refusal
answer_of p = answer_by p.refusal p.index p.next

-- the pending token is the one that is chosen at `at`, and the mask that of the rules which agree on it
pub record Chosen (rules : List Rule) (text : List ℕ) (at : ℕ) (p : Pending) : Type 0 where
  pub rule : ℕ
  pub chooses : Chooses rules (drop at text) rule p.token.len
  pub some : 0 < p.token.len
  pub tag : p.token.tag ≡ (rule_at rules rule).tag % 65536
  pub place : p.token.place ≡ at
  pub agrees : Agrees rules (drop at text) p.token.len p.mask
  pub next : p.next ≡ at + p.token.len

-- p is pending after `index` tokens, where the text goes on at `at`
pub record PendingAt (rules : List Rule) (text : List ℕ) (index at : ℕ) (p : Pending) : Type 0 where
  pub plain : p.refusal ≡ None
  pub stored : p.index ≡ index
  pub stops : p.more ≡ false → (choose rules (drop at text) ≡ none) × (p.next ≡ at)
  pub goes : p.more ≡ true → Chosen rules text at p

-- the table and the text by which it goes on behind p
pub record Ready (tb text : List ℕ) (p : Pending) : Type 0 where
  pub held : Held tb
  pub counts : p.index + 1 < 2 ^ 64
  pub within : p.next ≤ length text
  pub short : length text ≤ max_text

-- ---- What is pending first.

-- neither 14 nor 15 applies, and p is pending at the start of the text
pub record Started (rules : List Rule) (text : List ℕ) (room : ℕ) (p : Pending) : Type 0 where
  pub short : length text ≤ max_text
  pub enough : length (lex rules text).tokens ≤ room
  pub pending : PendingAt rules text 0 0 p

-- by rules that the table holds: 14, 15, or the first token
pub record Opens (rules : List Rule) (text : List ℕ) (room : ℕ) (p : Pending) : Type 0 where
  pub idle : (f : Refusal) → p.refusal ≡ Some f → p.more ≡ false
  pub refuses : (f : Refusal) → p.refusal ≡ Some f → RoomRefused rules text room f
  pub starts : p.refusal ≡ None → Started rules text room p

-- by a book: refused, or the first token by its rules
pub record Begun (book text : List ℕ) (room : ℕ) (tb : List ℕ) (p : Pending) : Type 0 where
  pub idle : (f : Refusal) → p.refusal ≡ Some f → p.more ≡ false
  pub refuses : (f : Refusal) → p.refusal ≡ Some f → (records masks : List ℕ) → min (record_count records) (mask_count masks) ≡ room
      → LexAnswered (masked_outcome book text records masks) (Err f) records masks
  pub starts : p.refusal ≡ None → (rules : List Rule) × ((read_book book ≡ accepted rules) × (Holds tb rules × Started rules text room p))

-- ==== Module printing: the stages.

abbrev pub going : ℕ → ℕ → ℕ → ℕ → Stage
going pass index at total = record { more = true; pass = pass; index = index; at = at; total = total; refusal = None }

-- every token has passed; there are `total` bytes
abbrev pub done : ℕ → Stage
done total = record { more = false; pass = 0; index = 0; at = 0; total = total; refusal = None }

abbrev pub refused_stage : Refusal → Stage
refused_stage f = record { more = false; pass = 0; index = 0; at = 0; total = 0; refusal = Some f }

-- for this reason, at a place
abbrev pub stage_refused : Reason → ℕ → Stage
stage_refused reason place = refused_stage (record { reason = reason; place = place })

-- ---- From stage to stage.

-- a pass is over after `at` bytes: the first with 20 where they are too many
abbrev pub pass_over : ℕ → ℕ → ℕ → Stage
pass_over pass at total =
    if (eqb pass 0) (if (ltb max_text at) (stage_refused OutputTooLong 0) (going 1 0 0 at))
    (if (eqb pass 1) (going 2 0 0 total)
    (done total))

-- the stage after a token of `len` bytes
abbrev pub moved_on : Stage → ℕ → ℕ → Stage
moved_on s len count =
    if (ltb (s.index + 1) count) (going s.pass (s.index + 1) (s.at + len) s.total) (pass_over s.pass (s.at + len) s.total)

-- the first pass: the token's fault, if it has one
abbrev pub checked : Maybe Reason → Stage → ℕ → ℕ → Stage
checked none s len count = moved_on s len count
checked (some reason) s len count = stage_refused reason s.index

-- the third pass: as many bytes are chosen at the token's place as it has, or 21
pub record Reads (rules : List Rule) (text : List ℕ) (s : Stage) (len count : ℕ) (r : Stage) : Type 0 where
  pub rule : ℕ
  pub most : ℕ
  pub chooses : Chooses rules (drop s.at text) rule most
  pub result : r ≡ if (eqb most len) (moved_on s len count) (stage_refused ReadOn s.index)

-- what a step asks
pub record Steps (tb scratch pool : List ℕ) (s : Stage) (t : TokenRecord) : Type 0 where
  pub held : Held tb
  pub sized : length scratch ≡ max_text
  pub few : s.index < max_tokens
  pub checks : s.pass ≡ 0 → s.at ≤ s.index * 4294967295
  pub joins : s.pass ≡ 1 → (t.place + t.len ≤ length pool) × (s.at + t.len ≤ length scratch)
  pub reads : (s.pass ≡ 0 → ⊥) → (s.pass ≡ 1 → ⊥) → (s.at ≤ s.total) × (s.total ≤ max_text)

-- what a step does with token t
pub record Stepped (tb scratch after pool : List ℕ) (s : Stage) (t : TokenRecord) (count : ℕ) (r : Stage) : Type 0 where
  pub checks : s.pass ≡ 0 → (after ≡ scratch)
      × ((rules : List Rule) → Holds tb rules → r ≡ checked (fault_of rules pool t) s t.len count)
  pub joins : s.pass ≡ 1 → (after ≡ paste scratch s.at (drop t.place pool) t.len) × (r ≡ moved_on s t.len count)
  pub reads : (s.pass ≡ 0 → ⊥) → (s.pass ≡ 1 → ⊥) → (after ≡ scratch)
      × ((rules : List Rule) → Holds tb rules → Reads rules (take s.total scratch) s t.len count r)

-- ---- The first stage and the last.

abbrev pub first_stage : ℕ → Stage
first_stage count = if (eqb count 0) (done 0) (going 0 0 0 0)

-- 16 before it
abbrev pub begun : ℕ → Stage
begun count = if (ltb max_tokens count) (stage_refused TooManyTokens 0) (first_stage count)

-- the first stage of printing `count` tokens: refused by the book or by 16, or the first token
pub record Begins (book : List ℕ) (count : ℕ) (tb : List ℕ) (r : Stage) : Type 0 where
  pub refuses : (f : Refusal) → r.refusal ≡ Some f → (r ≡ refused_stage f)
      × ((records pool out : List ℕ) → record_count records ≡ count
      → PrintAnswered (print_outcome book records pool out) (Err f) out)
  pub starts : r.refusal ≡ None
      → (rules : List Rule) × ((read_book book ≡ accepted rules)
      × (Holds tb rules × ((count ≤ max_tokens) × (r ≡ first_stage count))))

-- the answer, by the joined bytes in the scratch
pub record Finishes (scratch : List ℕ) (s : Stage) (out : List ℕ) (r : Result ℕ Refusal) (exit : List ℕ) : Type 0 where
  pub refuses : (f : Refusal) → s.refusal ≡ Some f → (r ≡ Err f) × (exit ≡ out)
  pub writes : s.refusal ≡ None → WritesOut scratch 0 s.total out r exit
