-- What the code answers is the outcome. Assumes nothing.
use Rattle.std.specs.Prelude.{Result, Ok, Err}
use Rattle.answer.specs.declared.Reason.TheVariants.{BookTooLong}
use mathlib.Core.Path.{◌≡◌, refl}
use mathlib.Core.List.{List}
use Prim.Native.Nat.{ℕ}
use Rattle.answer.specs.declared.Refusal.{Refusal}
use Rattle.book.specs.Limits.{max_bytes}
use Rattle.reader.specs.Reading.{read_book, answer}
use Rattle.reader.proofs.Loaded.{answer_accepted, answer_refused}
use Rattle.output.specs.Outcome.{written_up_to}
use Rattle.output.specs.Layers.{PrintAnswered}
use Rattle.rewriting.specs.Rewritten.{rewritten}
use Rattle.rewriting.specs.Outcome.{rewrite_outcome}
use Rattle.rewriting.specs.Layers.{Readable}
use Rattle.rewriting.proofs.Reading.{book_readable}

module _ (bytes : List ℕ) {n : ℕ} (a : Ok n ≡ answer (read_book bytes)) where
  pub accepted_readable : Readable bytes
  accepted_readable = book_readable bytes (answer_accepted (read_book bytes) a).1

  pub answered_accepted : (out : List ℕ) {r : Result ℕ Refusal} {exit : List ℕ}
      → PrintAnswered (written_up_to max_bytes BookTooLong (rewritten bytes) out) r exit → PrintAnswered (rewrite_outcome bytes out) r exit
  unfolding rewrite_outcome
  answered_accepted out h = rw (answer_accepted (read_book bytes) a).1 h

pub answered_refused : (bytes : List ℕ) {f : Refusal} → Err f ≡ answer (read_book bytes) → (out : List ℕ)
    → PrintAnswered (rewrite_outcome bytes out) (Err f) out
unfolding rewrite_outcome
answered_refused bytes a out = rw (answer_refused (read_book bytes) a) (record { answer = refl; out = refl })
