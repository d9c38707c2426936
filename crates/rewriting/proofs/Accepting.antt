-- What an accepted call of rewriting has written. Assumes nothing.
use Rattle.answer.specs.declared.Reason.TheVariants.{BookTooLong}
use Rattle.std.specs.Prelude.{Ok}
use mathlib.Core.Path.{◌≡◌, refl, sym, ap, ◌∙◌}
use mathlib.Core.List.{List}
use Prim.Native.Nat.{ℕ, ◌≤◌}
use native.Mathlib.Omega.{arith}
use lib.ListN.{length}
use Rattle.automaton.specs.Rule.{Rule}
use Rattle.book.specs.Limits.{max_bytes}
use Rattle.reader.specs.Reading.{Reading, accepted, refused, read_book}
use Rattle.output.specs.Outcome.{PrintOutcome, print_accepted}
use Rattle.output.proofs.Written.{up_to_accepts, up_to_printed}
use Rattle.rewriting.specs.Rewritten.{rewritten}
use Rattle.rewriting.specs.Outcome.{rewrite_reading, rewrite_outcome}

pub record Accepts (book out : List ℕ) (n : ℕ) : Type 0 where
  pub rules : List Rule
  pub reads : read_book book ≡ accepted rules
  pub short : length (rewritten book) ≤ max_bytes
  pub count : n ≡ length (rewritten book)
  pub outcome : rewrite_outcome book out ≡ print_accepted (rewritten book) out

pub book_rewritten : (book out : List ℕ) {rules : List Rule} → read_book book ≡ accepted rules → length (rewritten book) ≤ max_bytes
    → length (rewritten book) ≤ length out → rewrite_outcome book out ≡ print_accepted (rewritten book) out
unfolding rewrite_outcome
book_rewritten book out e l m = rw e (up_to_accepts max_bytes BookTooLong (rewritten book) out l m)

pub rewrite_accepts : (book out : List ℕ) (n : ℕ) → (rewrite_outcome book out).answer ≡ Ok n → Accepts book out n
unfolding rewrite_outcome
rewrite_accepts book out n e = go (read_book book) refl e
  where
    go : (o : Reading) → read_book book ≡ o → (rewrite_reading o book out).answer ≡ Ok n → Accepts book out n
    go (refused _ _) q z = let y : ◌≡◌ {A = ℕ} 0 1 = cc in absurd (omega arith)
    go (accepted rules) q z =
        let a = up_to_printed max_bytes BookTooLong (rewritten book) out z in
        let o = book_rewritten book out q a.0 a.1 in
        let y : Ok n ≡ Ok (length (rewritten book)) = sym e ∙ ap (λ (x : PrintOutcome). x.answer) o in
        record { rules = rules; reads = q; short = a.0; count = cc; outcome = o }
