-- A call of the spacing printer meets none of its refusals exactly where it passes the checks of crates/separated. Assumes nothing.
use Rattle.std.specs.Prelude.{Ok}
use mathlib.Core.Path.{◌≡◌, refl, sym, ◌∙◌, ap}
use mathlib.Core.Bool.{Bool, true, false, ◌&&◌}
use mathlib.Core.List.{List}
use Prim.Native.Nat.{ℕ, ◌<◌, ◌≤◌}
use native.Mathlib.Omega.{arith}
use lib.Dec.{eqb}
use lib.ListN.{length, drop}
use borrow.Author.Tests.{eqb-true, eq-eqb}
use Rattle.automaton.specs.Choice.{All}
use Rattle.automaton.specs.Rule.{Rule, Uses, used}
use Rattle.automaton.proofs.Tests.{clash, and_true, all_map, all_with, any_each, any_some}
use Rattle.automaton.proofs.Used.{uses_used, used_uses, uses_byte}
use Rattle.book.specs.Limits.{max_text}
use Rattle.book.specs.Valid.{ValidRule}
use Rattle.reader.specs.Reading.{Reading, accepted, refused, read_book}
use Rattle.record.specs.declared.TokenRecord.{TokenRecord}
use Rattle.record.specs.Tokens.{records_of, token_in, tokens_of}
use Rattle.token_list.proofs.Faulting.{Fine}
use Rattle.shared_bytes.specs.Kinds.{plain_kind, separator_kind}
use Rattle.shared_bytes.specs.Bytes.{used_by_kind, shared}
use Rattle.spacing.specs.Separators.{spelled}
use Rattle.spacing.proofs.Modes.{most_in_one}
use Rattle.separated.proofs.Unrefused.{Taken, CallPasses, passes_accepted, accepted_passes}
use Rattle.output.specs.Outcome.{PrintOutcome, print_accepted}
use Rattle.separated.specs.Outcome.{separated_reading, separated_outcome}
use Rattle.demands.specs.Words.{Fit, Unused, Unrefused}
use Rattle.demands.proofs.Untouched.{past_accepted}

-- ---- the parts of a call

module _ (rules : List Rule) (valid : All ValidRule rules) (b : ℕ) where
  -- a rule that uses b makes its kind use it,
  kind_each : (kind : ℕ) → All (λ (r : Rule). r.kind ≡ kind → Uses r b → used_by_kind kind rules b ≡ true) rules
  unfolding used_by_kind
  kind_each kind = all_with ValidRule _ _ (λ r v f k u. f (rw (eq-eqb r.kind kind k, uses_used r v.sound b u)))
      rules valid (any_each (λ (r : Rule). eqb r.kind kind && used r b) rules)

  -- and nothing else does
  kind_some : {C : Type 0} (kind : ℕ) → All (λ (r : Rule). r.kind ≡ kind → Uses r b → C) rules → used_by_kind kind rules b ≡ true → C
  unfolding used_by_kind
  kind_some {C} kind h = any_some (λ (r : Rule). eqb r.kind kind && used r b) rules (all_with ValidRule _ _ (λ r v f e.
      let p = and_true (eqb r.kind kind) _ e in f (eqb-true _ _ p.0) (used_uses r v.sound b p.1)) rules valid h)

  apart_of : (b < 256 → shared rules b ≡ false) → All (λ (p : Rule). p.kind ≡ plain_kind → Uses p b → Unused separator_kind rules b) rules
  unfolding shared
  apart_of h = all_map _ _ (λ p f k u. all_map _ _ (λ s g l w. clash (rw (f k u, g l w)) (h (uses_byte u))) rules (kind_each separator_kind))
      rules (kind_each plain_kind)

  of_apart : All (λ (p : Rule). p.kind ≡ plain_kind → Uses p b → Unused separator_kind rules b) rules → shared rules b ≡ false
  unfolding shared
  of_apart h = go (used_by_kind plain_kind rules b) (used_by_kind separator_kind rules b)
      (λ x y. kind_some plain_kind (all_map _ _ (λ p f k u. kind_some separator_kind (f k u) y) rules h) x)
    where
      go : (x y : Bool) → (x ≡ true → y ≡ true → ⊥) → x && y ≡ false
      go true true k = absurd (k refl refl)
      go true false k = refl
      go false y k = refl

module _ {rules : List Rule} {pool : List ℕ} {r : TokenRecord} where
  fit_of : {s : Bool} → Taken rules pool s r → Fit rules pool r
  fit_of t = record { not_17 = t.faultless.in_pool; not_18 = t.faultless.known; not_19 = t.faultless.alone }

  of_fit : Fit rules pool r → Fine rules pool r
  of_fit f = record { in_pool = f.not_17; known = f.not_18; alone = f.not_19 }

-- ---- the call

module _ {rules : List Rule} (valid : All ValidRule rules) {sep : TokenRecord} {mode : ℕ} {records pool out : List ℕ} where
  pub unrefused_passes : Unrefused rules sep mode records pool out → CallPasses rules sep mode records pool
  unrefused_passes u = record {
    unshared = λ b l. of_apart rules valid b (u.not_23 b);
    known_mode = u.not_24;
    separator = record { faultless = of_fit u.separator.fit; kind = u.separator.not_25 };
    few = u.not_16;
    tokens = all_map _ _ (λ r f. record { faultless = of_fit f.fit; kind = f.not_26 }) (records_of records) u.tokens;
  }

  pub passes_unrefused : CallPasses rules sep mode records pool → length (spelled rules sep mode records pool) ≤ max_text
      → length (spelled rules sep mode records pool) ≤ length out → Unrefused rules sep mode records pool out
  passes_unrefused p short room = record {
    not_23 = λ b. apart_of rules valid b (p.unshared b);
    not_24 = p.known_mode;
    separator = record { fit = fit_of p.separator; not_25 = p.separator.kind };
    not_16 = p.few;
    tokens = all_map _ _ (λ r t. record { fit = fit_of t; not_26 = t.kind }) (records_of records) p.tokens;
    not_20 = short;
    not_22 = room;
  }

-- ---- what is written

module _ (book : List ℕ) (rules : List Rule) (reads : read_book book ≡ accepted rules)
    (sep : TokenRecord) (mode : ℕ) (records pool out : List ℕ) where
  abbrev bytes : List ℕ
  bytes = spelled rules sep mode records pool

  -- an accepted call
  printed_passes : (n : ℕ) → (separated_outcome book sep mode records pool out).answer ≡ Ok n
      → CallPasses rules sep mode records pool × (length bytes ≤ max_text) × (length bytes ≤ length out) × (n ≡ length bytes)
  printed_passes n e =
      let (p, short, room) = accepted_passes rules sep mode records pool book out reads e in
      let o = passes_accepted rules sep mode records pool book out reads p short room in
      let q : Ok n ≡ Ok (length bytes) = sym e ∙ ap (λ (x : PrintOutcome). x.answer) o in
      (p, short, room, cc)

  module _ (valid : All ValidRule rules) where
    pub unrefused_outcome : Unrefused rules sep mode records pool out
        → separated_outcome book sep mode records pool out ≡ print_accepted bytes out
    unrefused_outcome u =
        passes_accepted rules sep mode records pool book out reads (unrefused_passes valid u) u.not_20 u.not_22

    pub printed_unrefused : (n : ℕ) → (separated_outcome book sep mode records pool out).answer ≡ Ok n
        → Unrefused rules sep mode records pool out × (n ≡ length bytes)
    printed_unrefused n e = let (p, short, room, long) = printed_passes n e in (passes_unrefused valid p short room, long)

-- ---- accepted calls

module _ (book : List ℕ) (sep : TokenRecord) (mode : ℕ) (records pool out : List ℕ) (n : ℕ)
    (e : (separated_outcome book sep mode records pool out).answer ≡ Ok n) where
  accepted_book : (rules : List Rule) × (read_book book ≡ accepted rules)
  unfolding separated_outcome
  accepted_book = go (read_book book) refl
    where
      go : (o : Reading) → read_book book ≡ o → (rules : List Rule) × (read_book book ≡ accepted rules)
      go (refused reason place) q =
          let z : (separated_reading (refused reason place) sep mode records pool out).answer ≡ Ok n = rw q at e in
          let y : ◌≡◌ {A = ℕ} 0 1 = cc in
          absurd (omega arith)
      go (accepted rules) q = (rules, q)

  -- what lies past its bytes
  pub space_past : drop n (separated_outcome book sep mode records pool out).out ≡ drop n out
  space_past =
      let (rules, reads) = accepted_book in
      let (p, short, room, long) = printed_passes book rules reads sep mode records pool out n e in
      past_accepted out _ (spelled rules sep mode records pool) n long
      (passes_accepted rules sep mode records pool book out reads p short room)

-- a call that is accepted in mode 1, in another mode
pub most_outcome : (book : List ℕ) (sep : TokenRecord) (records pool out : List ℕ) (n : ℕ)
    → (separated_outcome book sep 1 records pool out).answer ≡ Ok n
    → (mode : ℕ) → mode ≤ 2 → (m : ℕ) × ((separated_outcome book sep mode records pool out).answer ≡ Ok m) × (m ≤ n)
most_outcome book sep records pool out n e mode known =
    let (rules, reads) = accepted_book book sep 1 records pool out n e in
    let (p, short, room, long) = printed_passes book rules reads sep 1 records pool out n e in
    let l = most_in_one rules (token_in pool sep) mode (tokens_of records pool) in
    let q : CallPasses rules sep mode records pool = record {
      unshared = p.unshared;
      known_mode = known;
      separator = p.separator;
      few = p.few;
      tokens = p.tokens;
    } in (
      length (spelled rules sep mode records pool),
      ap (λ (x : PrintOutcome). x.answer)
          (passes_accepted rules sep mode records pool book out reads q (omega (arith, l, short)) (omega (arith, l, room))),
      omega arith,
    )
