-- How the answers of the code come to the outcome of document 01. Assumes nothing.
use Rattle.std.specs.Prelude.{Result, Err}
use Rattle.answer.specs.declared.Reason.TheVariants.{OutputTooLong, TooManyTokens}
use mathlib.Core.Path.{◌≡◌, refl, ap}
use mathlib.Core.Bool.{Bool, true, false}
use mathlib.Core.Option.{Option, none, some}
use mathlib.Core.List.{List}
use Prim.Native.Nat.{ℕ, ◌<◌, ◌≤◌}
use native.Mathlib.Omega.{arith}
use lib.Dec.{ltb}
use lib.ListN.{length}
use borrow.Author.Tests.{lt-ltb, le-ltb}
use Rattle.answer.specs.declared.Refusal.{Refusal}
use Rattle.automaton.specs.Rule.{Rule}
use Rattle.book.specs.Limits.{max_text, max_tokens}
use Rattle.longest_match.specs.Lexer.{or, Token, join}
use Rattle.record.specs.Records.{record_count}
use Rattle.record.specs.Tokens.{records_of, tokens_of}
use Rattle.output.specs.Layers.{WritesOut}
use Rattle.output.proofs.Written.{written_out}
use Rattle.token_list.specs.Faults.{fault_of}
use Rattle.token_list.specs.Checks.{refuse, first_fault, first_extended}
use Rattle.output.specs.Layers.{PrintAnswered}
use Rattle.printer.specs.Layers.{trouble, Clean}
use Rattle.output.specs.Outcome.{PrintOutcome, refused_if, unless, written}
use Rattle.printer.specs.Outcome.{print_checked, print_rules}

-- ---- of tokens without fault

module _ (rules : List Rule) (tokens : List Token) (out : List ℕ) {total : ℕ} (e : total ≡ length (join tokens)) where
  pub answered_long : max_text < total → {r : Result ℕ Refusal} → r ≡ Err (record { reason = OutputTooLong; place = 0 })
      → PrintAnswered (print_checked rules tokens out) r out
  unfolding print_checked refused_if
  answered_long l a = rw (← e, lt-ltb _ _ l) (record { answer = a; out = refl })

  module _ (short : total ≤ max_text) where
    pub answered_extended : {f : Refusal} → first_extended rules tokens 0 ≡ some f → {r : Result ℕ Refusal} → r ≡ Err f
        → PrintAnswered (print_checked rules tokens out) r out
    unfolding print_checked refused_if unless
    answered_extended f a = rw (← e, le-ltb _ _ short, f) (record { answer = a; out = refl })

    pub answered_apart : first_extended rules tokens 0 ≡ none → {r : Result ℕ Refusal} {exit : List ℕ}
        → PrintAnswered (written (join tokens) out) r exit → PrintAnswered (print_checked rules tokens out) r exit
    unfolding print_checked refused_if unless
    answered_apart apart a = let l : length (join tokens) ≤ max_text = omega arith in rw (le-ltb _ _ l, apart) a

-- ---- of records

module _ (rules : List Rule) (records pool out : List ℕ) where
  pub answered_many : max_tokens < record_count records → {r : Result ℕ Refusal} → r ≡ Err (record { reason = TooManyTokens; place = 0 })
      → PrintAnswered (print_rules rules records pool out) r out
  unfolding print_rules refused_if
  answered_many l a = rw (lt-ltb _ _ l) (record { answer = a; out = refl })

  module _ (few : record_count records ≤ max_tokens) where
    pub answered_fault : {f : Refusal} → first_fault (fault_of rules pool) (records_of records) 0 ≡ some f
        → PrintAnswered (print_rules rules records pool out) (Err f) out
    unfolding print_rules refused_if unless
    answered_fault q = rw (le-ltb _ _ few, q) (record { answer = refl; out = refl })

    pub answered_checked : {r : Result ℕ Refusal} {exit : List ℕ} → first_fault (fault_of rules pool) (records_of records) 0 ≡ none
        → PrintAnswered (print_checked rules (tokens_of records pool) out) r exit → PrintAnswered (print_rules rules records pool out) r exit
    unfolding print_rules refused_if unless
    answered_checked q a = rw (le-ltb _ _ few, q) a

    pub answered_troubled : {f : Refusal} → trouble rules records pool ≡ some f
        → PrintAnswered (print_rules rules records pool out) (Err f) out
    unfolding print_rules print_checked refused_if unless trouble refuse
    answered_troubled {f} e =
        rw (le-ltb _ _ few)
        (go (first_fault (fault_of rules pool) (records_of records) 0) (ltb max_text (length (join (tokens_of records pool))))
        (first_extended rules (tokens_of records pool) 0) e)
      where
        rest : PrintOutcome
        rest = written (join (tokens_of records pool)) out

        go : (a : Option Refusal) (b : Bool) (d : Option Refusal) → or a (refuse b OutputTooLong 0 d) ≡ some f
            → PrintAnswered (unless a out (refused_if b OutputTooLong 0 out (unless d out rest))) (Err f) out
        go (some g) b d z = let y : f ≡ g = cc in record { answer = ap Err y; out = refl }
        go none true d z = let y : f ≡ record { reason = OutputTooLong; place = 0 } = cc in record { answer = ap Err y; out = refl }
        go none false (some g) z = let y : f ≡ g = cc in record { answer = ap Err y; out = refl }
        go none false none z = cc

    -- a list with which nothing is wrong
    pub clean_written : {scratch : List ℕ} {total : ℕ} → Clean rules records pool scratch total → {r : Result ℕ Refusal} {exit : List ℕ}
        → WritesOut scratch 0 total out r exit → PrintAnswered (print_rules rules records pool out) r exit
    clean_written {scratch} w h =
        answered_checked w.settled.faultless
        (answered_apart rules (tokens_of records pool) out w.spanned.bytes w.spanned.short w.settled.apart
        (written_out (join (tokens_of records pool)) out w.spanned.bytes scratch 0 w.laid h))
