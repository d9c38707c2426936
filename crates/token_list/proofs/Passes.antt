-- The passes over a list of tokens: what holds at the head of each loop, and how a turn keeps it. Assumes nothing.
use Rattle.answer.specs.declared.Reason.{Reason}
use Rattle.std.specs.Prelude.{Ok, Err, Some, None}
use mathlib.Core.Path.{◌≡◌, refl, sym, ap, ◌∙◌, subst}
use mathlib.Core.Option.{Option, none, some}
use mathlib.Core.List.{List, [], ◌∷◌, ◌++◌}
use Prim.Native.Nat.{ℕ, zero, suc, ◌+◌, ◌-◌, ◌*◌, ◌<◌, ◌≤◌}
use native.Mathlib.Omega.{arith}
use native.Mathlib.Numerals.{add-one}
use lib.ListN.{length, get_or, drop}
use Rattle.record.specs.Encoding.{Fits}
use lib.Seq.{paste}
use Rattle.automaton.specs.Choice.{All}
use Rattle.automaton.specs.Rule.{Rule}
use Rattle.longest_match.specs.Lexer.{join}
use Rattle.longest_match.proofs.First.{nothing}
use Rattle.record.specs.Records.{record_count}
use Rattle.record.specs.declared.TokenRecord.{TokenRecord}
use Rattle.record.specs.Tokens.{record_at, records_from, records_of, bytes_in, tokens_in, tokens_of, InPool}
use Rattle.output.proofs.Filling.{Filling, filling_start, filling_room, filling_next, filling_end}
use Rattle.token_list.specs.Faults.{fault_of}
use Rattle.token_list.specs.Checks.{refuse_by, first_fault}
use Rattle.token_list.specs.Layers.{checked_of, fault_for, Fitting, Joined}
use Rattle.token_list.proofs.Faulting.{fine, bytes_length}

-- ---- the records from number k on

unfoldable pub left : List ℕ → ℕ → List TokenRecord
left records k = records_from records k (record_count records - k)

pub left-start : (records : List ℕ) → records_of records ≡ left records 0
unfolding records_of left
left-start records = let q : record_count records ≡ record_count records - 0 = omega arith in ap (records_from records 0) q

pub left_next : (records : List ℕ) (k : ℕ) → k < record_count records → left records k ≡ record_at records k ∷ left records (k + 1)
unfolding left records_from
left_next records k l = let q : record_count records - k ≡ suc (record_count records - (k + 1)) = omega arith in rw (q, add-one)

pub left_end : (records : List ℕ) (k : ℕ) → record_count records ≤ k → left records k ≡ []
unfolding left records_from
left_end records k l = let q : record_count records - k ≡ 0 = omega arith in rw q

-- what holds of every record holds of record number k
pub record_at_lem : (P : TokenRecord → Type 0) (records : List ℕ) → All P (records_of records) → (k : ℕ) → k < record_count records
    → P (record_at records k)
record_at_lem P records h k l = (subst (All P) (left_next records k l) (from k (omega arith))).0
  where
    from : (j : ℕ) → j ≤ record_count records → All P (left records j)
    from zero p = subst (All P) (left-start records) h
    from (suc j) p =
        let q : j < record_count records = omega arith in
        subst (λ (i : ℕ). All P (left records i)) (add-one j) (subst (All P) (left_next records j q) (from j (omega arith))).1

-- a record of bytes has fields that fit their types
pub record_fits : (records : List ℕ) (k : ℕ) {r : TokenRecord} → r ≡ record_at records k → ((i : ℕ) → get_or records i 0 < 256) → Fits r
unfolding record_at
record_fits records k e b =
    subst Fits (sym e)
    (record {
      tag = omega (arith, b (10 * k), b (10 * k + 1));
      place = omega (arith, b (10 * k + 2), b (10 * k + 2 + 1), b (10 * k + 2 + 2), b (10 * k + 2 + 3));
      len = omega (arith, b (10 * k + 6), b (10 * k + 6 + 1), b (10 * k + 6 + 2), b (10 * k + 6 + 3));
    })

-- ---- the first fault

pub by_reason : {reason : Reason} (o : Option Reason) → Some reason ≡ fault_for o → o ≡ some reason
by_reason none e = cc
by_reason (some n) e = cc

pub by_none : (o : Option Reason) → None ≡ fault_for o → o ≡ none
by_none none e = refl
by_none (some n) e = cc

-- the first k tokens have no fault
pub record Passing (fault : TokenRecord → Option Reason) (records : List ℕ) (k : ℕ) : Type 0 where
  pub within : k ≤ record_count records
  pub first : first_fault fault (records_of records) 0 ≡ first_fault fault (left records k) k

pub passing_start : (fault : TokenRecord → Option Reason) (records : List ℕ) → Passing fault records 0
passing_start fault records = record { within = omega arith; first = rw left-start }

module _ {fault : TokenRecord → Option Reason} {records : List ℕ} {k : ℕ} (w : Passing fault records k) where
  module _ (more : k < record_count records) {r : TokenRecord} (e : r ≡ record_at records k) where
    fault_here : first_fault fault (records_of records) 0 ≡ refuse_by (fault r) k (first_fault fault (left records (k + 1)) (k + 1))
    unfolding first_fault
    fault_here = w.first ∙ rw (left_next records k more, ← e, add-one)

    pub passing_refused : {reason : Reason} → Some reason ≡ fault_for (fault r)
        → Err (record { reason = reason; place = k }) ≡ checked_of (first_fault fault (records_of records) 0)
    unfolding refuse_by
    passing_refused f = rw (fault_here, by_reason (fault r) f)

    pub passing_next : None ≡ fault_for (fault r) → Passing fault records (k + 1)
    unfolding refuse_by
    passing_next f = record { within = omega arith; first = fault_here ∙ rw (by_none (fault r) f) }

  pub passing_end : record_count records ≤ k → Ok tt ≡ checked_of (first_fault fault (records_of records) 0)
  unfolding first_fault
  passing_end l = rw (w.first, left_end records k l)

-- no fault in a list: none at its front and none behind
pub faultless_front : (fault : TokenRecord → Option Reason) (r : TokenRecord) (rs : List TokenRecord) (k : ℕ) → first_fault fault (r ∷ rs) k
    ≡ none
    → (fault r ≡ none) × (first_fault fault rs (suc k) ≡ none)
unfolding first_fault refuse_by
faultless_front fault r rs k e = go (fault r) refl e
  where
    go : (o : Option Reason) → fault r ≡ o → refuse_by o k (first_fault fault rs (suc k)) ≡ none
        → (fault r ≡ none) × (first_fault fault rs (suc k) ≡ none)
    go (some n) q z = nothing z refl
    go none q z = (q, z)

-- tokens without fault lie in the pool
pub faultless_pool : (rules : List Rule) (pool : List ℕ) (rs : List TokenRecord) (k : ℕ) → first_fault (fault_of rules pool) rs k ≡ none
    → All (InPool pool) rs
faultless_pool rules pool [] k e = tt
faultless_pool rules pool (r ∷ rs) k e =
    let f = faultless_front (fault_of rules pool) r rs k e in
    (record { in_pool = (fine rules pool r f.0).in_pool }, faultless_pool rules pool rs (suc k) f.1)

-- ---- joining

-- the first k tokens are written, `at` bytes
pub record Joining (records pool entry out : List ℕ) (at k : ℕ) : Type 0 where
  pub within : k ≤ record_count records
  pub each : All (InPool pool) (left records k)
  pub filling : Filling (join (tokens_of records pool)) (join (tokens_in pool (left records k))) entry out at

pub joining_start : (records pool out : List ℕ) → Fitting records pool out → Joining records pool out out 0 0
joining_start records pool out f =
    record {
      within = omega arith;
      each = rw left-start at f.each;
      filling = rw (← (left-start records)) (filling_start _ out f.room);
    }

module _ {records pool entry out : List ℕ} {at k : ℕ} (w : Joining records pool entry out at k) where
  module _ (more : k < record_count records) {r : TokenRecord} (e : r ≡ record_at records k) where
    here : left records k ≡ r ∷ left records (k + 1)
    here = left_next records k more ∙ ap (λ (q : TokenRecord). q ∷ left records (k + 1)) (sym e)

    each_here : All (InPool pool) (r ∷ left records (k + 1))
    each_here = subst (All (InPool pool)) here w.each

    pub joining_pool : r.place + r.len ≤ length pool
    joining_pool = each_here.0.in_pool

    abbrev after : List ℕ
    after = join (tokens_in pool (left records (k + 1)))

    parts : join (tokens_in pool (left records k)) ≡ bytes_in pool r ++ after
    unfolding tokens_in
    parts = rw here

    pub joining_room : at + r.len ≤ length out
    joining_room = omega (arith, filling_room w.filling (bytes_in pool r) after parts, bytes_length pool r joining_pool)

    pub joining_next : {next : List ℕ} → next ≡ paste out at (drop r.place pool) r.len
        → Joining records pool entry next (at + r.len) (k + 1)
    joining_next p =
        record {
          within = omega arith;
          each = each_here.1;
          filling =
              filling_next w.filling (bytes_in pool r) after parts (drop r.place pool) (sym (bytes_length pool r joining_pool)) refl p;
        }

  pub joining_end : record_count records ≤ k → Joined (join (tokens_of records pool)) entry out
  unfolding tokens_in
  joining_end l = record { written = filling_end w.filling (rw (left_end records k l)) }
