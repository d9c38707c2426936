-- What stands in the lent buffers: after a refusal what stood there before, and past the count of an accepted call too. Assumes nothing.
use Rattle.answer.specs.declared.Reason.{Reason}
use Rattle.std.specs.Prelude.{Ok, Err}
use Rattle.answer.specs.declared.Reason.TheVariants.{BookTooLong, OutputTooLong, TextTooLong, TooFewRecords}
use mathlib.Core.Path.{◌≡◌, refl, sym, ◌∙◌, ap}
use mathlib.Core.Bool.{Bool, true, false}
use mathlib.Core.Option.{Option, none, some}
use mathlib.Core.List.{List}
use Prim.Native.Nat.{ℕ, ◌*◌}
use native.Mathlib.Omega.{arith}
use lib.Dec.{ltb}
use lib.ListN.{length, drop}
use lib.Seq.{drop_at}
use Rattle.answer.specs.declared.Refusal.{Refusal}
use Rattle.automaton.specs.Choice.{if}
use Rattle.book.specs.Limits.{max_bytes, max_text}
use Rattle.reader.specs.Reading.{Reading, accepted, refused, read_book}
use Rattle.longest_match.specs.Lexer.{lex, join}
use Rattle.record.specs.Records.{records_at, record_count}
use Rattle.record.specs.Tokens.{tokens_of}
use Rattle.record.specs.declared.TokenRecord.{TokenRecord}
use Rattle.record.proofs.Records.{length_records}
use Rattle.lexer.specs.Outcome.{LexOutcome, lex_refused, lex_accepted, lex_rules, lex_reading, lex_outcome}
use Rattle.output.specs.Outcome.{PrintOutcome, print_accepted, refused_if, unless, written, written_up_to}
use Rattle.rewriting.specs.Rewritten.{rewritten}
use Rattle.rewriting.specs.Outcome.{rewrite_reading, rewrite_outcome}
use Rattle.rewriting.proofs.Accepting.{rewrite_accepts}
use Rattle.printer.specs.Outcome.{print_checked, print_rules, print_reading, print_outcome}
use Rattle.printer.proofs.Accepting.{printed_accepts}
use Rattle.printer.proofs.RoundTrip.{Cut}
use Rattle.spacing.specs.Separators.{spelled}
use Rattle.separated.specs.Outcome.{separated_rules, separated_reading, separated_outcome}

-- ---- the cut

module _ (text records : List ℕ) where
  abbrev Leaves : LexOutcome → Type 0
  Leaves o = (r : Refusal) → o.answer ≡ Err r → o.records ≡ records

  leaves_reading : (o : Reading) → Leaves (lex_reading o text records)
  unfolding lex_rules
  leaves_reading (refused _ place) r e = refl
  leaves_reading (accepted rules) r e = go (ltb max_text (length text)) (ltb (record_count records) count) r e
    where
      count : ℕ
      count = length (lex rules text).tokens

      go : (b c : Bool) → Leaves (if b (lex_refused TextTooLong 0 records) (if c (lex_refused TooFewRecords count records)
          (lex_accepted (lex rules text) text records)))
      go true c r z = refl
      go false true r z = refl
      go false false r z = let y : ◌≡◌ {A = ℕ} 0 1 = cc in absurd (omega arith)

  pub cut_leaves : (book : List ℕ) → Leaves (lex_outcome book text records)
  unfolding lex_outcome
  cut_leaves book = leaves_reading (read_book book)

  pub cut_past : {book : List ℕ} {n place : ℕ} → Cut book text records n place
      → drop (10 * n) (lex_outcome book text records).records ≡ drop (10 * n) records
  cut_past {book} {n} {place} c =
      let ts = (lex c.rules text).tokens in
      let l : length (records_at 0 ts) ≡ 10 * n = length_records ts 0 ∙ rw c.count in
      rw c.outcome (drop_at (records_at 0 ts) (drop (10 * length ts) records) (10 * n) l
      ∙ ap (λ (m : ℕ). drop (10 * m) records) (sym c.count))

-- ---- the printers, and rewriting

abbrev pub Keeps : List ℕ → PrintOutcome → Type 0
Keeps out o = (r : Refusal) → o.answer ≡ Err r → o.out ≡ out

module _ (out : List ℕ) where
  pub keeps_if : (t : Bool) (reason : Reason) (place : ℕ) (next : PrintOutcome) → Keeps out next
      → Keeps out (refused_if t reason place out next)
  unfolding refused_if
  keeps_if true _ place next h r e = refl
  keeps_if false _ place next h r e = h r e

  keeps_unless : (o : Option Refusal) (next : PrintOutcome) → Keeps out next → Keeps out (unless o out next)
  unfolding unless
  keeps_unless (some f) next h r e = refl
  keeps_unless none next h r e = h r e

  keeps_accepted : (w : List ℕ) → Keeps out (print_accepted w out)
  keeps_accepted w r e = let y : ◌≡◌ {A = ℕ} 0 1 = cc in absurd (omega arith)

  pub keeps_written : (w : List ℕ) → Keeps out (written w out)
  keeps_written w = keeps_if _ _ _ _ (keeps_accepted w)

  keeps_up_to : (most : ℕ) (reason : Reason) (w : List ℕ) → Keeps out (written_up_to most reason w out)
  unfolding written_up_to
  keeps_up_to most _ w = keeps_if _ _ _ _ (keeps_written w)

  pub past_accepted : (o : PrintOutcome) (w : List ℕ) (n : ℕ) → n ≡ length w → o ≡ print_accepted w out → drop n o.out ≡ drop n out
  past_accepted o w n l e = rw (e, l) (drop_at w (drop (length w) out) (length w) refl)

  module _ (book : List ℕ) where
    keeps_rewrite : (o : Reading) → Keeps out (rewrite_reading o book out)
    keeps_rewrite (refused _ place) = λ r e. refl
    keeps_rewrite (accepted rules) = keeps_up_to max_bytes BookTooLong (rewritten book)

    pub rewrite_leaves : Keeps out (rewrite_outcome book out)
    unfolding rewrite_outcome
    rewrite_leaves = keeps_rewrite (read_book book)

    pub rewrite_past : (n : ℕ) → (rewrite_outcome book out).answer ≡ Ok n → drop n (rewrite_outcome book out).out ≡ drop n out
    rewrite_past n e = let a = rewrite_accepts book out n e in past_accepted _ (rewritten book) n a.count a.outcome

  module _ (records pool : List ℕ) where
    keeps_print : (o : Reading) → Keeps out (print_reading o records pool out)
    unfolding print_rules print_checked
    keeps_print (refused _ place) = λ r e. refl
    keeps_print (accepted rules) =
        keeps_if _ _ _ _ (keeps_unless _ _ (keeps_if _ _ _ _ (keeps_unless _ _ (keeps_written (join (tokens_of records pool))))))

    pub print_leaves : (book : List ℕ) → Keeps out (print_outcome book records pool out)
    unfolding print_outcome
    print_leaves book = keeps_print (read_book book)

    pub print_past : (book : List ℕ) (n : ℕ) → (print_outcome book records pool out).answer ≡ Ok n
        → drop n (print_outcome book records pool out).out ≡ drop n out
    print_past book n e =
        let a = printed_accepts book records pool out n e in
        past_accepted _ (join (tokens_of records pool)) n a.count a.outcome

    module _ (sep : TokenRecord) (mode : ℕ) where
      keeps_space : (o : Reading) → Keeps out (separated_reading o sep mode records pool out)
      unfolding separated_rules
      keeps_space (refused _ place) = λ r e. refl
      keeps_space (accepted rules) =
          keeps_unless _ _ (keeps_up_to max_text OutputTooLong (spelled rules sep mode records pool))

      pub space_leaves : (book : List ℕ) → Keeps out (separated_outcome book sep mode records pool out)
      unfolding separated_outcome
      space_leaves book = keeps_space (read_book book)
