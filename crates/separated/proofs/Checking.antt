-- The checks of the code: the search for a separator rule, the faults of tokens, the passes over a list. Assumes nothing.
use Rattle.answer.specs.declared.Reason.TheVariants.{NoSeparator, SeparatorInList, SharedByte, TooManyTokens, UnknownMode}
use Rattle.std.specs.Prelude.{Result, Err, Option as Maybe, Some, None}
use Rattle.answer.specs.declared.Reason.{Reason}
use Rattle.answer.specs.declared.Refusal.{Refusal}
use mathlib.Core.Path.{◌≡◌, refl, sym, ◌∙◌}
use mathlib.Core.Bool.{Bool, true, false, ◌&&◌, beq}
use mathlib.Core.Option.{Option, none, some}
use mathlib.Core.List.{List, [], ◌∷◌}
use Prim.Native.Nat.{ℕ, zero, suc, ◌+◌, ◌<◌, ◌≤◌}
use native.Mathlib.Omega.{arith}
use lib.Dec.{eqb}
use lib.ListN.{length}
use borrow.Author.Count.{below_more}
use borrow.Author.Tests.{lt-ltb, le-ltb, eq-eqb, ne_eqb}
use Rattle.automaton.specs.Choice.{if, any}
use Rattle.automaton.specs.Rule.{Rule}
use Rattle.automaton.specs.Layers.{rule_at}
use Rattle.automaton.proofs.Tests.{or_true, and_false_right}
use Rattle.book.specs.Limits.{max_tokens}
use Rattle.longest_match.specs.Lexer.{or}
use Rattle.record.specs.Records.{record_count}
use Rattle.record.specs.declared.TokenRecord.{TokenRecord}
use Rattle.record.specs.Tokens.{records_of}
use Rattle.token_list.specs.Faults.{fault_of}
use Rattle.token_list.specs.Checks.{refuse, refuse_by, first_fault}
use Rattle.byte_set.specs.Layers.{lowest_of}
use Rattle.shared_bytes.specs.Kinds.{separator_kind, separates}
use Rattle.shared_bytes.specs.Bytes.{shared_byte}
use Rattle.separated.specs.Refusals.{or_else, separator_fault, plain_fault, sharing, list_refusal, separated_refusal}
use Rattle.separated.specs.Layers.{differs}
use Rattle.token_list.specs.Layers.{checked_of, fault_for}
use Rattle.token_list.proofs.Passes.{by_reason, by_none}

-- ---- the search for a separator rule

abbrev separator : ℕ → Rule → Bool
separator tag r = eqb r.tag tag && eqb r.kind separator_kind

any_at : (f : Rule → Bool) (rules : List Rule) (k : ℕ) → k < length rules → f (rule_at rules k) ≡ true → any f rules ≡ true
any_at f [] k l e = absurd (omega arith)
any_at f (r ∷ rs) zero l e = rw e
any_at f (r ∷ rs) (suc k) l e = rw (any_at f rs k (omega arith) e, or_true)

any_never : (f : Rule → Bool) (rules : List Rule) → ((j : ℕ) → j < length rules → f (rule_at rules j) ≡ false) → any f rules ≡ false
any_never f [] h = refl
any_never f (r ∷ rs) h = rw (h 0 (omega arith)) (any_never f rs (λ j l. h (suc j) (omega arith)))

-- none of the first k rules is a separator of the tag
pub record Plainly (rules : List Rule) (tag k : ℕ) : Type 0 where
  pub passed : (j : ℕ) → j < k → separator tag (rule_at rules j) ≡ false

pub plainly_start : (rules : List Rule) (tag : ℕ) → Plainly rules tag 0
plainly_start rules tag = record { passed = λ j l. absurd (omega arith) }

module _ {rules : List Rule} {tag k : ℕ} (w : Plainly rules tag k) where
  next : separator tag (rule_at rules k) ≡ false → Plainly rules tag (k + 1)
  next e = record { passed = below_more (λ j. separator tag (rule_at rules j) ≡ false) k w.passed e }

  pub plainly_other : ((rule_at rules k).tag ≡ tag → ⊥) → Plainly rules tag (k + 1)
  plainly_other ne = next (rw (ne_eqb (rule_at rules k).tag tag ne))

  pub plainly_plain : ((rule_at rules k).kind ≡ separator_kind → ⊥) → Plainly rules tag (k + 1)
  plainly_plain ne = next (rw (ne_eqb (rule_at rules k).kind separator_kind ne, and_false_right))

  pub plainly_end : length rules ≤ k → false ≡ separates rules tag
  unfolding separates
  plainly_end l = sym (any_never (separator tag) rules (λ j p. w.passed j (omega arith)))

pub separator-found : (rules : List Rule) (tag k : ℕ) → k < length rules → (rule_at rules k).tag ≡ tag
    → (rule_at rules k).kind ≡ separator_kind → true ≡ separates rules tag
unfolding separates
separator-found rules tag k l e f =
    sym (any_at (separator tag) rules k l
    (rw (eq-eqb (rule_at rules k).tag tag e, eq-eqb (rule_at rules k).kind separator_kind f)))

-- ---- the fault of a token, or its kind

pub or_fault : {reason : Reason} (first : Option Reason) (test : Bool) (other : Reason) → Some reason ≡ fault_for first
    → Some reason ≡ fault_for (or_else first test other)
unfolding or_else
or_fault first test other e = rw (by_reason first e)

pub or_kind : {same : Bool} (first : Option Reason) (kind wanted : Bool) (other : Reason) → None ≡ fault_for first
    → beq kind wanted ≡ same → fault_for (if same none (some other)) ≡ fault_for (or_else first (differs wanted kind) other)
unfolding or_else differs
or_kind {same} first kind wanted other e q = rw (by_none first e) (go kind wanted q)
  where
    go : (k w : Bool) → beq k w ≡ same → fault_for (if same none (some other)) ≡ fault_for (if (differs w k) (some other) none)
    go true true z = rw (← z)
    go true false z = rw (← z)
    go false true z = rw (← z)
    go false false z = rw (← z)

module _ (rules : List Rule) (pool : List ℕ) (r : TokenRecord) {f : Maybe Reason} where
  pub separator_fault_lem : f ≡ fault_for (or_else (fault_of rules pool r) (differs true (separates rules r.tag)) NoSeparator)
      → f ≡ fault_for (separator_fault rules pool r)
  unfolding separator_fault differs
  separator_fault_lem e = e

  pub plain_fault_lem : f ≡ fault_for (or_else (fault_of rules pool r) (differs false (separates rules r.tag)) SeparatorInList)
      → f ≡ fault_for (plain_fault rules pool r)
  unfolding plain_fault differs
  plain_fault_lem e = e

-- ---- the checks of a call

module _ (rules : List Rule) (sep : TokenRecord) (mode : ℕ) (records pool : List ℕ) where
  pub list_mode : 2 < mode → {c : Result Unit Refusal} → c ≡ Err (record { reason = UnknownMode; place = 0 }) → c
      ≡ checked_of (list_refusal rules sep mode records pool)
  unfolding list_refusal refuse
  list_mode l a = a ∙ rw (lt-ltb 2 mode l)

  module _ (known : mode ≤ 2) where
    pub list_separator : {reason : Reason} → Some reason ≡ fault_for (separator_fault rules pool sep) → {c : Result Unit Refusal} → c
        ≡ Err (record { reason = reason; place = record_count records })
        → c ≡ checked_of (list_refusal rules sep mode records pool)
    unfolding list_refusal refuse refuse_by
    list_separator e a = a ∙ rw (le-ltb 2 mode known, by_reason (separator_fault rules pool sep) e)

    module _ (e : None ≡ fault_for (separator_fault rules pool sep)) where
      pub list_many : max_tokens < record_count records → {c : Result Unit Refusal} → c ≡ Err (record { reason = TooManyTokens; place = 0 })
          → c ≡ checked_of (list_refusal rules sep mode records pool)
      unfolding list_refusal refuse refuse_by
      list_many l a = a ∙ rw (le-ltb 2 mode known, by_none (separator_fault rules pool sep) e, lt-ltb max_tokens (record_count records) l)

      pub list_tokens : record_count records ≤ max_tokens → {c : Result Unit Refusal} → c
          ≡ checked_of (first_fault (plain_fault rules pool) (records_of records) 0)
          → c ≡ checked_of (list_refusal rules sep mode records pool)
      unfolding list_refusal refuse refuse_by
      list_tokens l a = a ∙ rw (le-ltb 2 mode known, by_none (separator_fault rules pool sep) e, le-ltb max_tokens (record_count records) l)

  pub call_shared : {b : ℕ} → Some b ≡ lowest_of (shared_byte rules) → {c : Result Unit Refusal} → c
      ≡ Err (record { reason = SharedByte; place = b })
      → c ≡ checked_of (separated_refusal rules sep mode records pool)
  unfolding separated_refusal sharing
  call_shared {b} e {c} a = go (shared_byte rules) refl e
    where
      go : (o : Option ℕ) → shared_byte rules ≡ o → Some b ≡ lowest_of o → c
          ≡ checked_of (or (sharing (shared_byte rules)) (list_refusal rules sep mode records pool))
      go none q z = let y : ◌≡◌ {A = ℕ} 0 1 = cc in absurd (omega arith)
      go (some x) q z = let y : b ≡ x = cc in a ∙ rw (q, y)

  pub call_list : None ≡ lowest_of (shared_byte rules) → {c : Result Unit Refusal} → c ≡ checked_of (list_refusal rules sep mode records pool)
      → c ≡ checked_of (separated_refusal rules sep mode records pool)
  unfolding separated_refusal sharing
  call_list e {c} a = go (shared_byte rules) refl e
    where
      go : (o : Option ℕ) → shared_byte rules ≡ o → None ≡ lowest_of o → c
          ≡ checked_of (or (sharing (shared_byte rules)) (list_refusal rules sep mode records pool))
      go none q z = a ∙ rw q
      go (some x) q z = let y : ◌≡◌ {A = ℕ} 0 1 = cc in absurd (omega arith)
