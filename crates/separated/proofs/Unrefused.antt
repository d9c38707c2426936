-- A call is accepted exactly where it passes the checks and its bytes are few enough for 20 and 22. Assumes nothing.
use Rattle.answer.specs.declared.Reason.TheVariants.{NoSeparator, OutputTooLong, SeparatorInList, TooManyTokens, UnknownMode}
use Rattle.answer.specs.declared.Reason.{Reason}
use Rattle.std.specs.Prelude.{Ok}
use mathlib.Core.Path.{◌≡◌, refl, ap}
use mathlib.Core.Bool.{Bool, true, false, not}
use mathlib.Core.Option.{Option, none, some}
use mathlib.Core.List.{List, [], ◌∷◌}
use Prim.Native.Nat.{ℕ, zero, suc, ◌+◌, ◌≤◌, ◌<◌}
use native.Mathlib.Omega.{arith}
use lib.Dec.{ltb, eqb}
use lib.ListN.{length}
use borrow.Author.Tests.{le-ltb, ltb-false, eqb-true, eqb-false}
use Rattle.answer.specs.declared.Refusal.{Refusal}
use Rattle.automaton.specs.Choice.{if, All}
use Rattle.automaton.specs.Rule.{Rule}
use Rattle.automaton.proofs.Tests.{clash, all_map}
use Rattle.book.specs.Limits.{max_text, max_tokens}
use Rattle.reader.specs.Reading.{accepted, read_book}
use Rattle.longest_match.specs.Lexer.{or}
use Rattle.longest_match.proofs.First.{nothing}
use Rattle.record.specs.Records.{record_count}
use Rattle.record.specs.declared.TokenRecord.{TokenRecord}
use Rattle.record.specs.Tokens.{records_of}
use Rattle.token_list.specs.Faults.{fault_of}
use Rattle.token_list.specs.Checks.{refuse, refuse_by, first_fault}
use Rattle.token_list.proofs.Passes.{faultless_front}
use Rattle.token_list.proofs.Faulting.{Fine, fine, fault_none}
use Rattle.output.specs.Outcome.{print_accepted, unless}
use Rattle.output.proofs.Written.{unless_printed, up_to_accepts, up_to_printed}
use Rattle.byte_set.specs.Lowest.{lowest_from}
use Rattle.shared_bytes.specs.Kinds.{separates}
use Rattle.shared_bytes.specs.Bytes.{shared, shared_byte}
use Rattle.spacing.specs.Separators.{spelled}
use Rattle.separated.specs.Refusals.{or_else, separator_fault, plain_fault, sharing, list_refusal, separated_refusal}
use Rattle.separated.specs.Outcome.{separated_rules, separated_outcome}

-- ---- the lowest byte

lowest_none : (f : ℕ → Bool) (b n : ℕ) → lowest_from f b n ≡ none → (i : ℕ) → b ≤ i → i < b + n → f i ≡ false
unfolding lowest_from
lowest_none f b zero e i l m = absurd (omega arith)
lowest_none f b (suc n) e i l m = go (f b) refl (lowest_none f (suc b) n) (eqb i b) refl e
  where
    go : (t : Bool) → f b ≡ t → (lowest_from f (suc b) n ≡ none → (j : ℕ) → suc b ≤ j → j < suc b + n → f j ≡ false)
        → (s : Bool) → eqb i b ≡ s → if t (some b) (lowest_from f (suc b) n) ≡ none → f i ≡ false
    go true q ih s p z = nothing z refl
    go false q ih true p z = rw (eqb-true i b p) q
    go false q ih false p z = let ne = eqb-false i b p in ih z i (omega arith) (omega arith)

none_lowest : (f : ℕ → Bool) (b n : ℕ) → ((i : ℕ) → b ≤ i → i < b + n → f i ≡ false) → lowest_from f b n ≡ none
unfolding lowest_from
none_lowest f b zero h = refl
none_lowest f b (suc n) h = rw (h b (omega arith) (omega arith)) (none_lowest f (suc b) n (λ i l m. h i (omega arith) (omega arith)))

-- no byte is used by both kinds
unshared : (rules : List Rule) → shared_byte rules ≡ none → (b : ℕ) → b < 256 → shared rules b ≡ false
unfolding shared_byte
unshared rules e b l = lowest_none (shared rules) 0 256 e b (omega arith) (omega arith)

shared-none : (rules : List Rule) → ((b : ℕ) → b < 256 → shared rules b ≡ false) → shared_byte rules ≡ none
unfolding shared_byte
shared-none rules h = none_lowest (shared rules) 0 256 (λ i l m. h i (omega arith))

sharing_none : (o : Option ℕ) → sharing o ≡ none → o ≡ none
unfolding sharing
sharing_none none e = refl
sharing_none (some b) e = nothing e refl

-- ---- the faults of tokens

module _ (test : Bool) (reason : Reason) where
  or_else_none : (fault : Option Reason) → fault ≡ none → test ≡ false → or_else fault test reason ≡ none
  unfolding or_else
  or_else_none fault e f = rw (e, f)

  none_or_else : (fault : Option Reason) → or_else fault test reason ≡ none → (fault ≡ none) × (test ≡ false)
  unfolding or_else
  none_or_else (some n) e = nothing e refl
  none_or_else none e = (refl, go test e)
    where
      go : (b : Bool) → if b (some reason) none ≡ none → b ≡ false
      go true z = nothing z refl
      go false z = refl

-- a token in none of the cases of 17, 18 and 19, of separator kind or not
pub record Taken (rules : List Rule) (pool : List ℕ) (separator : Bool) (r : TokenRecord) : Type 0 where
  pub faultless : Fine rules pool r
  pub kind : separates rules r.tag ≡ separator

not_not : (b : Bool) → not b ≡ false → b ≡ true
not_not true e = refl
not_not false e = clash refl e

module _ (rules : List Rule) (pool : List ℕ) (r : TokenRecord) where
  of_faultless : Fine rules pool r → fault_of rules pool r ≡ none
  of_faultless f = fault_none rules pool r f.in_pool f.known f.alone

  separator_taken : separator_fault rules pool r ≡ none → Taken rules pool true r
  unfolding separator_fault
  separator_taken e =
      let p = none_or_else (not (separates rules r.tag)) NoSeparator (fault_of rules pool r) e in
      record { faultless = fine rules pool r p.0; kind = not_not _ p.1 }

  taken_separator : Taken rules pool true r → separator_fault rules pool r ≡ none
  unfolding separator_fault
  taken_separator t = or_else_none _ NoSeparator _ (of_faultless t.faultless) (ap not t.kind)

  plain_taken : plain_fault rules pool r ≡ none → Taken rules pool false r
  unfolding plain_fault
  plain_taken e =
      let p = none_or_else (separates rules r.tag) SeparatorInList (fault_of rules pool r) e in
      record { faultless = fine rules pool r p.0; kind = p.1 }

  taken_plain : Taken rules pool false r → plain_fault rules pool r ≡ none
  unfolding plain_fault
  taken_plain t = or_else_none _ SeparatorInList _ (of_faultless t.faultless) t.kind

-- the list has no fault
faults_none : (fault : TokenRecord → Option Reason) (rs : List TokenRecord) (k : ℕ) → first_fault fault rs k ≡ none
    → All (λ (r : TokenRecord). fault r ≡ none) rs
faults_none fault [] k e = tt
faults_none fault (r ∷ rs) k e = let f = faultless_front fault r rs k e in (f.0, faults_none fault rs (suc k) f.1)

none_faults : (fault : TokenRecord → Option Reason) (rs : List TokenRecord) (k : ℕ) → All (λ (r : TokenRecord). fault r ≡ none) rs
    → first_fault fault rs k ≡ none
unfolding first_fault refuse_by
none_faults fault [] k h = refl
none_faults fault (r ∷ rs) k (e, h) = rw (e, none_faults fault rs (suc k) h)

-- ---- the checks of an accepted call

refuse_none : (t : Bool) (reason : Reason) (place : ℕ) (next : Option Refusal) → refuse t reason place next ≡ none → (t ≡ false) × (next ≡ none)
unfolding refuse
refuse_none true why place next e = nothing e refl
refuse_none false why place next e = (refl, e)

refuse_by_none : (o : Option Reason) (place : ℕ) (next : Option Refusal) → refuse_by o place next ≡ none → (o ≡ none) × (next ≡ none)
unfolding refuse_by
refuse_by_none (some n) place next e = nothing e refl
refuse_by_none none place next e = (refl, e)

or_none_both : (x y : Option Refusal) → or x y ≡ none → (x ≡ none) × (y ≡ none)
or_none_both none y e = (refl, e)
or_none_both (some f) y e = nothing e refl

-- a call that is not refused before anything is put together
pub record CallPasses (rules : List Rule) (sep : TokenRecord) (mode : ℕ) (records pool : List ℕ) : Type 0 where
  pub unshared : (b : ℕ) → b < 256 → shared rules b ≡ false
  pub known_mode : mode ≤ 2
  pub separator : Taken rules pool true sep
  pub few : record_count records ≤ max_tokens
  pub tokens : All (Taken rules pool false) (records_of records)

module _ (rules : List Rule) (sep : TokenRecord) (mode : ℕ) (records pool : List ℕ) where
  pub passes : separated_refusal rules sep mode records pool ≡ none → CallPasses rules sep mode records pool
  unfolding separated_refusal list_refusal
  passes e =
      let a = or_none_both (sharing (shared_byte rules)) _ e in
      let b = refuse_none (ltb 2 mode) UnknownMode 0 _ a.1 in
      let c = refuse_by_none (separator_fault rules pool sep) (record_count records) _ b.1 in
      let d = refuse_none (ltb max_tokens (record_count records)) TooManyTokens 0 _ c.1 in
      record {
        unshared = unshared rules (sharing_none _ a.0);
        known_mode = ltb-false 2 mode b.0;
        separator = separator_taken rules pool sep c.0;
        few = ltb-false _ _ d.0;
        tokens = all_map _ _ (plain_taken rules pool) (records_of records) (faults_none _ (records_of records) 0 d.1);
      }

  passes_none : CallPasses rules sep mode records pool → separated_refusal rules sep mode records pool ≡ none
  unfolding separated_refusal list_refusal sharing refuse refuse_by
  passes_none p =
      rw (
        shared-none rules p.unshared,
        le-ltb 2 mode p.known_mode,
        taken_separator rules pool sep p.separator,
        le-ltb max_tokens (record_count records) p.few,
      )
      (none_faults _ (records_of records) 0 (all_map _ _ (taken_plain rules pool) (records_of records) p.tokens))

module _ (rules : List Rule) (sep : TokenRecord) (mode : ℕ) (records pool : List ℕ) where
  abbrev bytes : List ℕ
  bytes = spelled rules sep mode records pool

  module _ (book out : List ℕ) (reads : read_book book ≡ accepted rules) where
    pub passes_accepted : CallPasses rules sep mode records pool → length bytes ≤ max_text → length bytes ≤ length out
        → separated_outcome book sep mode records pool out ≡ print_accepted bytes out
    unfolding separated_outcome separated_rules unless
    passes_accepted p short room = rw (reads, passes_none rules sep mode records pool p) (up_to_accepts max_text OutputTooLong bytes out short room)

    pub accepted_passes : {n : ℕ} → (separated_outcome book sep mode records pool out).answer ≡ Ok n
        → CallPasses rules sep mode records pool × (length bytes ≤ max_text) × (length bytes ≤ length out)
    unfolding separated_outcome separated_rules
    accepted_passes {n} e =
        let a = unless_printed (separated_refusal rules sep mode records pool) out _ n (rw reads at e) in
        let b = up_to_printed max_text OutputTooLong bytes out a.1 in
        (passes rules sep mode records pool a.0, b.0, b.1)
