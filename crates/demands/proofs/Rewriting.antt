-- STEP is retired: the stricter reading and rewriting keep what is asked of them. Assumes nothing.
use Rattle.answer.specs.declared.Cut.{Cut as Counts}
use Rattle.answer.specs.declared.Refusal.{Refusal}
use Rattle.answer.specs.declared.RuleName.{RuleName}
use Rattle.std.specs.Prelude.{Result}
use Rattle.answer.specs.declared.Reason.TheVariants.{Retired}
use mathlib.Core.Path.{◌≡◌, refl, sym, ap, subst, ◌∙◌}
use mathlib.Core.Bool.{true, false}
use mathlib.Core.List.{List}
use Prim.Native.Nat.{ℕ, ◌<◌, ◌≤◌}
use native.Mathlib.Omega.{arith}
use lib.ListN.{length, take, drop}
use lib.Seq.{take-append_seam}
use Rattle.automaton.proofs.Tests.{clash}
use Rattle.command.specs.Commands.{byte_at}
use Rattle.book.specs.Limits.{max_bytes}
use Rattle.book.specs.Draft.{apply}
use Rattle.reader.specs.Reading.{Reading, accepted, refused, read_book, read_strict, answer}
use Rattle.book_reader.specs.Rules.{rule_reading, rule_outcome}
use Rattle.reader.proofs.Walking.{Stricter, alike, retires, stricter, not_accepted}
use Rattle.record.specs.declared.TokenRecord.{TokenRecord}
use Rattle.output.specs.Outcome.{PrintOutcome}
use Rattle.rewriting.specs.Rewritten.{rewritten}
use Rattle.rewriting.proofs.Reading.{rewritten_read, rewritten_commands, no_step, rewritten_same, strict_plain, plain_strict}
use Rattle.rewriting.proofs.Accepting.{Accepts, book_rewritten, rewrite_accepts}
use Rattle.lexer.specs.Outcome.{lex_reading, lex_outcome, rest_of}
use Rattle.lexer.specs.Masked.{masked_reading, masked_outcome}
use Rattle.printer.specs.Outcome.{print_reading, print_outcome}
use Rattle.separated.specs.Outcome.{separated_reading, separated_outcome}
use Rattle.listing.specs.Lines.{listing}
use Rattle.zagvulem.specs.Numbers.{strict_numbers, rewrite_numbers}
use Rattle.zagvulem.proofs.Refused.{BookWithin, PrintWithin, book_refused, strict_within, rewrite_within}
use Rattle.demands.specs.Calls.{Form, Lent, records_in, mask_bytes_in, Read, Ask, Cut, MaskedCut, Print, Space}
use Rattle.demands.specs.Rewriting.{StepIsSpan, StrictAccepts, StrictRefusesStep, StrictRefusesAlike, RefusedStrictly}
use Rattle.demands.specs.Rewriting.{RefusedRewrite, PastTheRewritten, RewriteAccepts, Rewrites, SameCommands, NoStepLeft}
use Rattle.demands.specs.Rewriting.{NothingToRewrite, RewritesTheRules, OperationsAlike, RewrittenOnce}
use Rattle.demands.proofs.Untouched.{rewrite_leaves, rewrite_past}

-- ---- what a STEP means

pub step_is_span : StepIsSpan
unfolding apply
step_is_span d from byte to at len = refl

-- ---- the stricter reading

pub strict_accepts : StrictAccepts
strict_accepts book rules = (λ e. (ordinary (stricter book) e, strict_plain book e), λ k. plain_strict book k.0 k.1)
  where
    ordinary : Stricter book (read_strict book) (read_book book) → read_strict book ≡ accepted rules → read_book book ≡ accepted rules
    ordinary (alike s) e = sym s ∙ e
    ordinary (retires place l b s) e = not_accepted (sym s ∙ e)

pub strict_refuses_step : StrictRefusesStep
strict_refuses_step book place e = go (stricter book)
  where
    go : Stricter book (read_strict book) (read_book book) → (place < length book) × (byte_at book place ≡ 5)
    go (alike s) = clash (book_refused book _ (ap answer (sym s ∙ e))).number_among refl
    go (retires at l b s) =
        let q : refused Retired place ≡ refused Retired at = sym e ∙ s in
        let y : place ≡ at = cc in
        rw y (l, b)

pub strict_refuses_alike : StrictRefusesAlike
strict_refuses_alike book reason place e n = go (stricter book)
  where
    go : Stricter book (read_strict book) (read_book book) → read_book book ≡ refused reason place
    go (alike s) = sym s ∙ e
    go (retires at l b s) = let q : refused reason place ≡ refused Retired at = sym e ∙ s in absurd (n cc)

pub refused_strictly : RefusedStrictly
refused_strictly book r k = (subst (BookWithin strict_numbers) (sym k.answers) (strict_within book)).number_among

-- ---- calls of rewriting

pub refused_rewrite : RefusedRewrite
refused_rewrite book entry exit r k = (
  (subst (PrintWithin rewrite_numbers max_bytes) (sym k.answers) (rewrite_within book entry)).number_among,
  k.leaves ∙ rewrite_leaves entry book r (sym k.answers),
)

pub past_the_rewritten : PastTheRewritten
past_the_rewritten book entry exit n k = ap (drop n) k.leaves ∙ rewrite_past entry book n (sym k.answers)

pub rewrite_accepted : RewriteAccepts
rewrite_accepted book rules entry exit r k e l m =
    let o = book_rewritten book entry e l m in (
      k.answers ∙ ap (λ (x : PrintOutcome). x.answer) o,
      ap (take (length (rewritten book))) (k.leaves ∙ ap (λ (x : PrintOutcome). x.out) o)
          ∙ take-append_seam (rewritten book) (drop (length (rewritten book)) entry),
    )

-- ---- the rewritten book

module _ {old new : List ℕ} (w : Rewrites old new) where
  accepts : Accepts old w.entry w.count
  accepts = rewrite_accepts old w.entry w.count (sym w.call.answers)

  new_is : new ≡ rewritten old
  new_is =
      w.written ∙ ap (take w.count) (w.call.leaves ∙ ap (λ (x : PrintOutcome). x.out) accepts.outcome)
      ∙ rw accepts.count (take-append_seam (rewritten old) (drop (length (rewritten old)) w.entry))

pub same_commands : SameCommands
same_commands old new w = rw (new_is w) (rewritten_commands old (accepts w).reads)

pub no_step-left : NoStepLeft
no_step-left old new w = rw (new_is w) (no_step old (accepts w).reads)

pub nothing_to_rewrite : NothingToRewrite
nothing_to_rewrite old new w e = new_is w ∙ rewritten_same old e

pub rewrites_the_rules : RewritesTheRules
rewrites_the_rules old new w =
    let a = accepts w in (
      a.rules,
      record {
        before = a.reads;
        ordinary = ap read_book (new_is w) ∙ rewritten_read false old a.reads a.short;
        strict = ap read_strict (new_is w) ∙ rewritten_read true old a.reads a.short;
      },
    )

-- ---- every operation

-- What a call by one book answers and leaves, a call by another does that is read alike: each outcome asks the book for no more.
module _ (old new : List ℕ) (e : read_book old ≡ read_book new) where
  read_over : (r : Result ℕ Refusal) → Read false old r → Read false new r
  read_over r k = record { answers = k.answers ∙ ap answer e }

  ask_over : (index : ℕ) (r : Result RuleName Refusal) → Ask old index r → Ask new index r
  unfolding rule_outcome
  ask_over index r k = record { answers = k.answers ∙ ap (λ (o : Reading). rule_reading o index) e }

  cut_over : (f : Form) (text : List ℕ) (entry exit : Lent f) (r : Result Counts Refusal) → Cut f old text entry exit r
      → Cut f new text entry exit r
  unfolding lex_outcome
  cut_over f text entry exit r k =
      record {
        entry_typed = k.entry_typed;
        exit_typed = k.exit_typed;
        answers = k.answers ∙ ap (λ (o : Reading). (lex_reading o text (records_in f entry)).answer) e;
        leaves = k.leaves ∙ ap (λ (o : Reading). (lex_reading o text (records_in f entry)).records) e;
      }

  masked_over : (f : Form) (text : List ℕ) (entry exit : Lent f) (masks after : List ℕ) (r : Result Counts Refusal)
      → MaskedCut f old text entry exit masks after r → MaskedCut f new text entry exit masks after r
  unfolding masked_outcome
  masked_over f text entry exit masks after r k =
      record {
        entry_typed = k.entry_typed;
        exit_typed = k.exit_typed;
        masks_typed = k.masks_typed;
        after_typed = k.after_typed;
        answers = k.answers ∙ ap (λ (o : Reading). (masked_reading o text (records_in f entry) (mask_bytes_in f masks)).answer) e;
        leaves = k.leaves ∙ ap (λ (o : Reading). (masked_reading o text (records_in f entry) (mask_bytes_in f masks)).records) e;
        leaves_masks = k.leaves_masks ∙ ap (λ (o : Reading). (masked_reading o text (records_in f entry) (mask_bytes_in f masks)).masks) e;
      }

  rest_over : (text : List ℕ) → rest_of old text ≡ rest_of new text
  unfolding rest_of
  rest_over text = rw e

  print_over : (f : Form) (list : Lent f) (pool entry exit : List ℕ) (r : Result ℕ Refusal) → Print f old list pool entry exit r
      → Print f new list pool entry exit r
  unfolding print_outcome
  print_over f list pool entry exit r k =
      record {
        typed = k.typed;
        answers = k.answers ∙ ap (λ (o : Reading). (print_reading o (records_in f list) pool entry).answer) e;
        leaves = k.leaves ∙ ap (λ (o : Reading). (print_reading o (records_in f list) pool entry).out) e;
      }

  space_over : (sep : TokenRecord) (mode : ℕ) (records pool entry exit : List ℕ) (r : Result ℕ Refusal)
      → Space old sep mode records pool entry exit r → Space new sep mode records pool entry exit r
  unfolding separated_outcome
  space_over sep mode records pool entry exit r k =
      record {
        answers = k.answers ∙ ap (λ (o : Reading). (separated_reading o sep mode records pool entry).answer) e;
        leaves = k.leaves ∙ ap (λ (o : Reading). (separated_reading o sep mode records pool entry).out) e;
      }

  list_over : (text records : List ℕ) → listing old text records ≡ listing new text records
  unfolding listing lex_outcome
  list_over text records = rw e

pub operations_alike : OperationsAlike
operations_alike old new w =
    let k = (rewrites_the_rules old new w).1 in
    let e = k.before ∙ sym k.ordinary in
    let b = sym e in
    record {
      reads = λ r. (read_over old new e r, read_over new old b r);
      asks = λ index r. (ask_over old new e index r, ask_over new old b index r);
      cuts = λ f text entry exit r. (cut_over old new e f text entry exit r, cut_over new old b f text entry exit r);
      cuts_masked = λ f text entry exit masks after r.
          (masked_over old new e f text entry exit masks after r, masked_over new old b f text entry exit masks after r);
      rests = rest_over old new e;
      prints = λ f list pool entry exit r.
          (print_over old new e f list pool entry exit r, print_over new old b f list pool entry exit r);
      spaces = λ sep mode records pool entry exit r.
          (space_over old new e sep mode records pool entry exit r, space_over new old b sep mode records pool entry exit r);
      lists = list_over old new e;
    }

pub rewritten-once : RewrittenOnce
rewritten-once old new w entry exit r k room =
    let q = (rewrites_the_rules old new w).1 in
    let s = rewritten_same new (no_step-left old new w) in
    let short : length (rewritten new) ≤ max_bytes = omega (arith, ap length s, ap length (new_is w), (accepts w).short) in
    rw s at (rewrite_accepted new _ entry exit r k q.ordinary short (omega (arith, ap length s)))
