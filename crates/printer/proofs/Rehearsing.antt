-- The rehearsal: from the extent, the joined bytes and the first token that is not read back; and what is wrong with a list.
-- Assumes nothing.
use Rattle.answer.specs.declared.Reason.TheVariants.{OutputTooLong, ReadOn}
use Rattle.std.specs.Prelude.{Ok, Err}
use mathlib.Core.Path.{◌≡◌, refl, ap, ◌∙◌, subst}
use mathlib.Core.Option.{Option, none, some}
use mathlib.Core.List.{List}
use Prim.Native.Nat.{ℕ, ◌<◌, ◌≤◌}
use native.Mathlib.Omega.{arith}
use lib.Dec.{ltb}
use lib.ListN.{length, take}
use lib.Seq.{take-append_seam}
use borrow.Author.Tests.{lt-ltb, le-ltb}
use Rattle.answer.specs.declared.Refusal.{Refusal}
use Rattle.automaton.specs.Choice.{All}
use Rattle.automaton.specs.Rule.{Rule}
use Rattle.book.specs.Limits.{max_text}
use Rattle.longest_match.specs.Lexer.{or, join}
use Rattle.record.specs.Records.{record_count}
use Rattle.record.specs.Tokens.{records_of, tokens_of, InPool}
use Rattle.token_list.specs.Faults.{fault_of}
use Rattle.token_list.specs.Checks.{refuse, first_fault, first_extended}
use Rattle.token_list.specs.Layers.{checked_of, Fitting, Joined, Spanned, Spread, Faultless, ReadsBack}
use Rattle.token_list.proofs.Passes.{faultless_pool}
use Rattle.printer.specs.Layers.{trouble, Clean, Rehearses, Roomy}

-- ---- what is wrong

module _ (rules : List Rule) (records pool : List ℕ) where
  -- the first token at fault comes before all else
  pub trouble_fault : {f : Refusal} → Err f ≡ checked_of (first_fault (fault_of rules pool) (records_of records) 0)
      → trouble rules records pool ≡ some f
  unfolding trouble
  trouble_fault {f} e = go (first_fault (fault_of rules pool) (records_of records) 0) e
    where
      go : (o : Option Refusal) → Err f ≡ checked_of o
          → or o (refuse (ltb max_text (length (join (tokens_of records pool)))) OutputTooLong 0 (first_extended rules (tokens_of records pool) 0))
          ≡ some f
      go none z = cc
      go (some g) z = cc

  pub passed_faultless : Ok tt ≡ checked_of (first_fault (fault_of rules pool) (records_of records) 0) → Faultless rules records pool
  passed_faultless e = go (first_fault (fault_of rules pool) (records_of records) 0) refl e
    where
      go : (o : Option Refusal) → first_fault (fault_of rules pool) (records_of records) 0 ≡ o → Ok tt ≡ checked_of o
          → Faultless rules records pool
      go none q z = q
      go (some g) q z = cc

  module _ (f : Faultless rules records pool) where
    trouble_long : max_text < length (join (tokens_of records pool)) → trouble rules records pool ≡ some (record { reason = OutputTooLong; place = 0 })
    unfolding trouble refuse
    trouble_long l = rw (f, lt-ltb _ _ l)

    trouble_on : {g : Refusal} → length (join (tokens_of records pool)) ≤ max_text → first_extended rules (tokens_of records pool) 0 ≡ some g
        → trouble rules records pool ≡ some g
    unfolding trouble refuse
    trouble_on l e = rw (f, le-ltb _ _ l, e)

-- ---- the rehearsal

module _ (rules : List Rule) (records pool scratch : List ℕ) where
  rehearses_wrong : (f : Refusal) → (Faultless rules records pool → trouble rules records pool ≡ some f)
      → Rehearses rules records pool scratch (Err f)
  rehearses_wrong f t = record { clean = λ n e. cc; wrong = λ g e n. let y : f ≡ g = cc in t n ∙ ap some y }

  pub rehearses_beyond : (All (InPool pool) (records_of records) → max_text < length (join (tokens_of records pool)))
      → Rehearses rules records pool scratch (Err (record { reason = OutputTooLong; place = 0 }))
  rehearses_beyond s = rehearses_wrong _
      (λ f. trouble_long rules records pool f (s (faultless_pool rules pool (records_of records) 0 f)))

  module _ {n k : ℕ} (s : Spanned records pool n) (b : ReadsBack rules records pool k) where
    pub rehearses_on : k < record_count records
        → Rehearses rules records pool scratch (Err (record { reason = ReadOn; place = k }))
    rehearses_on l = rehearses_wrong _ (λ f. trouble_on rules records pool f (omega (arith, s.bytes, s.short)) (b.first l f))

    pub rehearses_clean : record_count records ≤ k → take n scratch ≡ join (tokens_of records pool)
        → Rehearses rules records pool scratch (Ok n)
    rehearses_clean l t =
        record {
          clean = λ m e. let y : n ≡ m = cc in
              subst (Clean rules records pool scratch) y (record { settled = b.settled l; spanned = s; laid = t });
          wrong = λ f e. cc;
        }

-- ---- the scratch

-- one that has room for every text
pub roomy_large : {records pool scratch : List ℕ} → max_text ≤ length scratch → Roomy records pool scratch
roomy_large l = record { room = λ n s. omega (arith, s.short) }

module _ {records pool : List ℕ} {n : ℕ} (s : Spanned records pool n) where
  -- one that has room for the bytes of this list
  pub roomy_small : {scratch : List ℕ} → n ≤ length scratch → Roomy records pool scratch
  roomy_small l = record { room = λ m t. omega (arith, s.bytes, t.bytes) }

  pub spanned_fitting : {scratch : List ℕ} → n ≤ length scratch → Fitting records pool scratch
  spanned_fitting l = record { each = s.each; room = omega (arith, s.bytes) }

  module _ {entry exit : List ℕ} (j : Joined (join (tokens_of records pool)) entry exit) where
    pub spanned_laid : take n exit ≡ join (tokens_of records pool)
    spanned_laid = rw (s.bytes, j.written, take-append_seam)

    pub spanned_spread : Spread records pool (take n exit)
    spanned_spread = record { each = s.each; written = spanned_laid }
