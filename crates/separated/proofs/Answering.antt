-- What the code answers is the outcome. Assumes nothing.
use Rattle.std.specs.Prelude.{Result, Ok, Err, Option as Maybe, Some, None}
use Rattle.answer.specs.declared.Reason.TheVariants.{OutputTooLong}
use mathlib.Core.Path.{◌≡◌, refl, ap, subst}
use mathlib.Core.Bool.{Bool, true, false}
use mathlib.Core.Option.{Option, none, some}
use mathlib.Core.List.{List}
use Prim.Native.Nat.{ℕ, ◌<◌, ◌≤◌}
use native.Mathlib.Omega.{arith}
use lib.ListN.{length, drop}
use lib.Seq.{take-length}
use lib.Dec.{ltb}
use borrow.Author.Tests.{ltb-true, ltb-false}
use Rattle.answer.specs.declared.Refusal.{Refusal}
use Rattle.automaton.specs.Rule.{Rule}
use Rattle.automaton.specs.Layers.{Holds}
use Rattle.automaton.proofs.Tests.{all_map}
use Rattle.book.specs.Limits.{max_text}
use Rattle.reader.specs.Layers.{Loaded}
use Rattle.record.specs.declared.TokenRecord.{TokenRecord}
use Rattle.record.specs.Tokens.{records_of}
use Rattle.reader.proofs.Loaded.{loaded_rules, loaded_refusal}
use Rattle.output.specs.Layers.{WritesOut, Stands}
use Rattle.token_list.proofs.Alone.{alone_first}
use Rattle.output.specs.Outcome.{unless}
use Rattle.output.proofs.Written.{written_out, up_to_long, up_to_fitting}
use Rattle.output.specs.Layers.{PrintAnswered}
use Rattle.spacing.specs.Separators.{spelled}
use Rattle.spacing.specs.Layers.{Spaceable}
use Rattle.token_list.specs.Layers.{checked_of}
use Rattle.separated.specs.Refusals.{separated_refusal}
use Rattle.separated.specs.Layers.{Passed, Roomy}
use Rattle.separated.specs.Outcome.{writing, separated_rules, separated_outcome}
use Rattle.separated.proofs.Unrefused.{CallPasses, passes}

-- ---- what is written

-- what `write` makes of the bytes of a scratch from `at` on
pub answered_written : (scratch : List ℕ) (at : ℕ) (out : List ℕ) {total : ℕ} {r : Result ℕ Refusal} {exit : List ℕ}
    → total ≡ length (drop at scratch) → total ≤ max_text
    → WritesOut scratch at total out r exit → PrintAnswered (writing (drop at scratch) out) r exit
answered_written scratch at out e short h =
    up_to_fitting max_text OutputTooLong (drop at scratch) out (omega arith)
    (written_out (drop at scratch) out e scratch at (rw e (take-length (drop at scratch))) h)

-- ---- what stands at the end of a scratch

pub answered_at : {p : Maybe ℕ} {start : ℕ} {scratch : List ℕ} (bytes out : List ℕ) {exit : List ℕ} → Stands p bytes scratch
    → p ≡ Some start → {r : Result ℕ Refusal} → PrintAnswered (writing (drop start scratch) out) r exit
    → PrintAnswered (writing bytes out) r exit
answered_at bytes out {exit} s e {r} a = subst (λ (x : List ℕ). PrintAnswered (writing x out) r exit) (s.at _ e).laid a

module _ {sep : TokenRecord} {mode : ℕ} {records pool entry : List ℕ} (k : Roomy sep mode records pool entry) where
  -- a list that finds no room is too long
  pub answered_full : (rules : List Rule) (out : List ℕ) {p : Maybe ℕ} {scratch : List ℕ} → length scratch ≡ length entry
      → Stands p (spelled rules sep mode records pool) scratch → p ≡ None → {r : Result ℕ Refusal}
      → r ≡ Err (record { reason = OutputTooLong; place = 0 }) → PrintAnswered (writing (spelled rules sep mode records pool) out) r out
  answered_full rules out q s e a = up_to_long max_text OutputTooLong (spelled rules sep mode records pool) out (go _ refl) a
    where
      go : (t : Bool) → ltb max_text (length (spelled rules sep mode records pool)) ≡ t
          → max_text < length (spelled rules sep mode records pool)
      go true l = ltb-true _ _ l
      go false l = let m = k.room rules (ltb-false _ _ l) in absurd (omega (arith, s.full e))

-- ---- by rules

module _ (rules : List Rule) (sep : TokenRecord) (mode : ℕ) (records pool : List ℕ) where
  -- no refusal, where the checks pass
  pub unrefused : Ok tt ≡ checked_of (separated_refusal rules sep mode records pool)
      → separated_refusal rules sep mode records pool ≡ none
  unrefused e = go (separated_refusal rules sep mode records pool) refl e
    where
      go : (o : Option Refusal) → separated_refusal rules sep mode records pool ≡ o → Ok tt ≡ checked_of o
          → separated_refusal rules sep mode records pool ≡ none
      go none q z = q
      go (some f) q z = let y : ◌≡◌ {A = ℕ} 0 1 = cc in absurd (omega arith)

  module _ (out : List ℕ) where
    pub answered_fault : {f : Refusal} → Err f ≡ checked_of (separated_refusal rules sep mode records pool)
        → PrintAnswered (separated_rules rules sep mode records pool out) (Err f) out
    unfolding separated_rules unless
    answered_fault {f} e = go (separated_refusal rules sep mode records pool) refl e
      where
        go : (o : Option Refusal) → separated_refusal rules sep mode records pool ≡ o → Err f ≡ checked_of o
            → PrintAnswered (separated_rules rules sep mode records pool out) (Err f) out
        go none q z = let y : ◌≡◌ {A = ℕ} 0 1 = cc in absurd (omega arith)
        go (some g) q z = let y : f ≡ g = cc in rw q (record { answer = ap Err y; out = refl })

    pub answered_passed : {r : Result ℕ Refusal} {exit : List ℕ} → Ok tt ≡ checked_of (separated_refusal rules sep mode records pool)
        → PrintAnswered (writing (spelled rules sep mode records pool) out) r exit
        → PrintAnswered (separated_rules rules sep mode records pool out) r exit
    unfolding separated_rules unless
    answered_passed e a = rw (unrefused e) a

-- ---- by a book

module _ {bytes tb : List ℕ} {b : Result ℕ Refusal} {n : ℕ} (l : Loaded bytes b tb) (a : b ≡ Ok n) where
  pub answered_book : (sep : TokenRecord) (mode : ℕ) (records pool out exit : List ℕ) (r : Result ℕ Refusal)
      → ((rules : List Rule) → Holds tb rules → PrintAnswered (separated_rules rules sep mode records pool out) r exit)
      → PrintAnswered (separated_outcome bytes sep mode records pool out) r exit
  unfolding separated_outcome
  answered_book sep mode records pool out exit r h = let k = loaded_rules l a in rw k.1.0 (h k.0 k.1.1)

module _ {bytes tb : List ℕ} {b : Result ℕ Refusal} {f : Refusal} (l : Loaded bytes b tb) (a : b ≡ Err f) where
  pub answered_refused : (sep : TokenRecord) (mode : ℕ) (records pool out : List ℕ)
      → PrintAnswered (separated_outcome bytes sep mode records pool out) (Err f) out
  unfolding separated_outcome
  answered_refused sep mode records pool out = rw (loaded_refusal l a) (record { answer = refl; out = refl })

-- ---- what is put together

-- a call that is not refused can be put together
pub passed_spaceable : {tb : List ℕ} {sep : TokenRecord} {mode : ℕ} {records pool : List ℕ}
    → Passed tb sep mode records pool
    → Spaceable tb sep records pool
passed_spaceable {tb} {sep} {mode} {records} {pool} p =
    record {
      held = p.held;
      separator = record { in_pool = (fine p.held.holds).separator.faultless.in_pool };
      inside = all_map _ _ (λ r t. record { in_pool = t.faultless.in_pool }) (records_of records) (fine p.held.holds).tokens;
      alone = λ rules h. all_map _ _ (λ r t. alone_first rules r.tag _ t.faultless.alone) (records_of records) (fine h).tokens;
    }
  where
    fine : {rules : List Rule} → Holds tb rules → CallPasses rules sep mode records pool
    fine {rules} h = passes rules sep mode records pool (p.unrefused rules h)
