-- The first and the third pass of printing over the records that the tokens say: faults found and bytes counted; what reads on. The second
-- is token_list's `Joining`.
use Rattle.answer.specs.declared.Reason.{Reason}
use Rattle.answer.specs.declared.Reason.TheVariants.{ReadOn}
use Rattle.answer.specs.declared.Refusal.{Refusal}
use Rattle.std.specs.Prelude.{Ok, Err}
use mathlib.Core.Path.{◌≡◌, refl, sym, ap, ◌∙◌, subst}
use mathlib.Core.Option.{Option, none, some}
use mathlib.Core.List.{List, [], ◌∷◌, ◌++◌}
use Prim.Native.Nat.{ℕ, suc, ◌+◌, ◌*◌, ◌<◌, ◌≤◌}
use native.Mathlib.Omega.{arith}
use native.Mathlib.Numerals.{add-one}
use lib.ListN.{length, get_or, take, drop, length-append, length-drop}
use lib.Seq.{drop-drop, drop_at}
use Rattle.automaton.specs.Rule.{Rule}
use Rattle.book.specs.Limits.{max_tokens}
use Rattle.longest_match.specs.Lexer.{first_match, join}
use Rattle.longest_match.specs.Layers.{Chooses}
use Rattle.longest_match.proofs.First.{nothing}
use Rattle.record.specs.Records.{record_count}
use Rattle.record.specs.declared.TokenRecord.{TokenRecord}
use Rattle.record.specs.Tokens.{record_at, records_of, bytes_in, tokens_in, tokens_of}
use Rattle.record.specs.Encoding.{encoded, Fits}
use Rattle.record.specs.Layers.{no_record}
use Rattle.record.proofs.Encoding.{count_encoded, record_encoded}
use Rattle.output.specs.Layers.{PrintAnswered}
use Rattle.token_list.specs.Faults.{fault_of}
use Rattle.token_list.specs.Checks.{refuse, refuse_by, first_fault, first_extended}
use Rattle.token_list.specs.Layers.{Faultless, checked_of, fault_for}
use Rattle.token_list.proofs.Alone.{alone_first}
use Rattle.token_list.proofs.Faulting.{Fine, fine, bytes_length}
use Rattle.token_list.proofs.Extended.{read_no_more, read_on}
use Rattle.token_list.proofs.Passes.{left, left-start, left_next, left_end, faultless_front, Passing, passing_start, passing_next}
use Rattle.printer.specs.Outcome.{print_rules}
use Rattle.printer.specs.Layers.{Clean}
use Rattle.printer.proofs.ByRules.{answered_extended, answered_checked}
use Rattle.slices.specs.Layers.{Counted}

-- ---- a token and its record

-- tokens whose fields fit their types are those that their records say
module _ (ts : List TokenRecord) {k : ℕ} (l : k < length ts) where
  pub more : k < record_count (encoded ts)
  more = omega (arith, count_encoded ts)

  pub here : Fits (get_or ts k no_record) → get_or ts k no_record ≡ record_at (encoded ts) k
  here f = sym (record_encoded ts k l f)

pub no_more : (ts : List TokenRecord) {k : ℕ} → length ts ≤ k → record_count (encoded ts) ≤ k
no_more ts l = omega (arith, count_encoded ts)

-- ---- the first pass

-- the first k tokens have no fault, and `total` bytes
pub record Measuring (rules : List Rule) (records pool : List ℕ) (total k : ℕ) : Type 0 where
  pub passing : Passing (fault_of rules pool) records k
  pub few : total ≤ k * 4294967295
  pub sum : length (join (tokens_of records pool)) ≡ total + length (join (tokens_in pool (left records k)))

pub measuring_start : (rules : List Rule) (records pool : List ℕ) → Measuring rules records pool 0 0
measuring_start rules records pool =
    record { passing = passing_start (fault_of rules pool) records; few = omega arith; sum = rw left-start (omega arith) }

module _ {rules : List Rule} {records pool : List ℕ} {total k : ℕ} (w : Measuring rules records pool total k) where
  module _ (more : k < record_count records) {r : TokenRecord} (e : r ≡ record_at records k) where
    pub measuring_refused : {reason : Reason} → fault_of rules pool r ≡ some reason
        → first_fault (fault_of rules pool) (records_of records) 0 ≡ some (record { reason = reason; place = k })
    unfolding first_fault refuse_by
    measuring_refused f = w.passing.first ∙ rw (left_next records k more, ← e, f)

    pub measuring_next : fault_of rules pool r ≡ none → r.len < 4294967296 → Measuring rules records pool (total + r.len) (k + 1)
    unfolding tokens_in
    measuring_next z small =
        let l : length (bytes_in pool (record_at records k)) ≡ r.len = rw (← e) (bytes_length pool r (fine rules pool r z).in_pool) in
        let s = rw (left_next records k more) at w.sum in
        record {
          passing = passing_next w.passing more e (ap fault_for (sym z));
          few = omega (arith, w.few);
          sum = omega (arith, length-append (bytes_in pool (record_at records k)) (join (tokens_in pool (left records (k + 1)))));
        }

  pub measuring_end : record_count records ≤ k → Faultless rules records pool × (total ≡ length (join (tokens_of records pool)))
  unfolding first_fault tokens_in
  measuring_end l =
      let s = rw (left_end records k l) at w.sum in
      (w.passing.first ∙ rw (left_end records k l), omega arith)

-- ---- the third pass

-- the first k tokens, `at` bytes, are not read on
pub record Extending (rules : List Rule) (records pool text : List ℕ) (at k : ℕ) : Type 0 where
  pub within : at ≤ length text
  pub behind : drop at text ≡ join (tokens_in pool (left records k))
  pub faultless : first_fault (fault_of rules pool) (left records k) k ≡ none
  pub first : first_extended rules (tokens_of records pool) 0 ≡ first_extended rules (tokens_in pool (left records k)) k

pub extending_start : {rules : List Rule} {records pool text : List ℕ} → Faultless rules records pool → text ≡ join (tokens_of records pool)
    → Extending rules records pool text 0 0
extending_start {records = records} f e =
    record { within = omega arith; behind = rw left-start at e; faultless = rw left-start at f; first = rw left-start }

module _ {rules : List Rule} {records pool text : List ℕ} {at k : ℕ} (w : Extending rules records pool text at k) where
  module _ (empty : first_match rules [] ≡ none) (more : k < record_count records) {r : TokenRecord} (e : r ≡ record_at records k)
      {rule len : ℕ} (c : Chooses rules (drop at text) rule len) where
    abbrev after : List ℕ
    after = join (tokens_in pool (left records (k + 1)))

    front_is : left records k ≡ r ∷ left records (k + 1)
    front_is = left_next records k more ∙ ap (λ (q : TokenRecord). q ∷ left records (k + 1)) (sym e)

    faults : (fault_of rules pool r ≡ none) × (first_fault (fault_of rules pool) (left records (k + 1)) (suc k) ≡ none)
    faults = faultless_front (fault_of rules pool) r (left records (k + 1)) k (rw front_is at w.faultless)

    token_fine : Fine rules pool r
    token_fine = fine rules pool r faults.0

    split : drop at text ≡ bytes_in pool r ++ after
    unfolding tokens_in
    split = rw front_is at w.behind

    long : length (bytes_in pool r) ≡ r.len
    long = bytes_length pool r token_fine.in_pool

    matched : first_match rules (bytes_in pool r) ≡ some r.tag
    matched = alone_first rules r.tag (bytes_in pool r) token_fine.alone

    pub some_byte : 0 ≡ r.len → ⊥
    some_byte q = let m : first_match rules [] ≡ some r.tag = rw (← q) at matched in nothing (sym m ∙ empty) refl

    chosen_here : Chooses rules (bytes_in pool r ++ after) rule len
    chosen_here = subst (λ (x : List ℕ). Chooses rules x rule len) split c

    pub extending_found : (len ≡ r.len → ⊥) → first_extended rules (tokens_of records pool) 0 ≡ some (record { reason = ReadOn; place = k })
    unfolding first_extended tokens_in refuse
    extending_found ne =
        w.first ∙ rw (front_is, read_on rules (bytes_in pool r) after r.tag empty matched chosen_here (λ q. ne (q ∙ long)))

    pub extending_next : len ≡ r.len → Extending rules records pool text (at + r.len) (k + 1)
    unfolding first_extended tokens_in refuse
    extending_next q =
        let l = simp (length-drop, length-append) at (ap length split) in
        record {
          within = omega (arith, w.within, long);
          behind = sym (drop-drop r.len at text) ∙ rw split (drop_at (bytes_in pool r) after r.len long);
          faultless = ap (first_fault (fault_of rules pool) (left records (k + 1))) (add-one k) ∙ faults.1;
          first =
              w.first ∙ rw (front_is, read_no_more rules (bytes_in pool r) after r.tag empty matched chosen_here (q ∙ sym long))
              (ap (first_extended rules (tokens_in pool (left records (k + 1)))) (sym (add-one k)));
        }

  pub extending_end : record_count records ≤ k → first_extended rules (tokens_of records pool) 0 ≡ none
  unfolding first_extended tokens_in
  extending_end l = w.first ∙ rw (left_end records k l)

-- ---- what the passes come to

by_refusal : {f : Refusal} (o : Option Refusal) → Err f ≡ checked_of o → o ≡ some f
by_refusal none e = let z : ◌≡◌ {A = ℕ} 0 1 = cc in absurd (omega arith)
by_refusal {f} (some g) e = let y : f ≡ g = cc in ap some (sym y)

by_pass : (o : Option Refusal) → Ok tt ≡ checked_of o → o ≡ none
by_pass none e = refl
by_pass (some g) e = let z : ◌≡◌ {A = ℕ} 0 1 = cc in absurd (omega arith)

module _ {rules : List Rule} {records pool : List ℕ} {total : ℕ} (w : Counted rules records pool total) where
  pub counted_clean : {scratch : List ℕ} → take total scratch ≡ join (tokens_of records pool)
      → Ok tt ≡ checked_of (first_extended rules (tokens_of records pool) 0) → Clean rules records pool scratch total
  counted_clean l e = record {
    settled = record { faultless = w.faultless; apart = by_pass _ e };
    spanned = w.spanned;
    laid = l;
  }

  pub counted_extended : {f : Refusal} (out : List ℕ) → record_count records ≤ max_tokens
      → Err f ≡ checked_of (first_extended rules (tokens_of records pool) 0)
      → PrintAnswered (print_rules rules records pool out) (Err f) out
  counted_extended out few e =
      answered_checked rules records pool out few w.faultless
      (answered_extended rules (tokens_of records pool) out w.spanned.bytes w.spanned.short (by_refusal _ e) refl)
