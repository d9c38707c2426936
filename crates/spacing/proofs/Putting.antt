-- Putting tokens and separators together from the last token back. Assumes nothing.
use mathlib.Core.Path.{◌≡◌, sym, ap, ◌∙◌, subst}
use mathlib.Core.Bool.{Bool, true, false}
use mathlib.Core.List.{List, ◌∷◌, ◌++◌}
use Prim.Native.Nat.{ℕ, ◌+◌, ◌-◌, ◌<◌, ◌≤◌}
use native.Mathlib.Omega.{arith}
use lib.ListN.{length, drop, length-append}
use lib.Seq.{drop-length}
use Rattle.automaton.specs.Rule.{Rule}
use Rattle.automaton.specs.Layers.{Holds}
use Rattle.longest_match.specs.Lexer.{Token, Alone, join}
use Rattle.record.specs.Records.{record_count}
use Rattle.record.specs.declared.TokenRecord.{TokenRecord}
use Rattle.record.specs.Tokens.{record_at, bytes_in, token_in, tokens_in, InPool}
use Rattle.std.specs.Prelude.{Option, Some, None}
use Rattle.output.specs.Layers.{Stands}
use Rattle.output.proofs.Placing.{stands_at, stands_full}
use Rattle.token_list.proofs.Faulting.{bytes_length}
use Rattle.token_list.proofs.Passes.{left, left-start, left_end, record_at_lem}
use Rattle.spacing.specs.Separators.{follows, put, separated, spelled}
use Rattle.spacing.specs.Layers.{is_last, Ahead, Spaceable}
use Rattle.spacing.proofs.Separated as list

-- ---- one token

module _ (rules : List Rule) (mode : ℕ) (pool : List ℕ) (token sep : TokenRecord) (us : List Token) where
  -- the token, the separator where one is due, and what is put behind
  abbrev pub text : List ℕ
  text = join (token_in pool token ∷ put (follows rules mode (token_in pool token) us) (token_in pool sep) us)

  module _ (behind : List ℕ) (e : behind ≡ join us) where
    pub token_alone : {p q : Option ℕ} {exit : List ℕ} → false ≡ follows rules mode (token_in pool token) us
        → p ≡ q → Stands p (bytes_in pool token ++ behind) exit → Stands q text exit
    token_alone f z s = rw (← z, ← f, ← e) s

    pub token_both : {p : Option ℕ} {exit : List ℕ} → true ≡ follows rules mode (token_in pool token) us
        → Stands p (bytes_in pool token ++ (bytes_in pool sep ++ behind)) exit → Stands p text exit
    token_both f s = rw (← f, ← e) s

    -- no room for the token alone
    pub token_full : {p : Option ℕ} {exit : List ℕ} → p ≡ None → Stands p (bytes_in pool token ++ behind) exit
        → Stands None text exit
    token_full {p} {exit} q s =
        let k : length exit < length (bytes_in pool token) + length (join us) = rw (length-append, e) at (s.full q) in
        stands_full text exit
        (omega (arith, k, list.put_least (token_in pool token) (token_in pool sep) us (follows rules mode (token_in pool token) us)))

    pub token-ahead : {last : Bool} {whole : List ℕ} → Alone rules (token_in pool token) → InPool pool token → last ≡ is_last us
        → whole ≡ bytes_in pool token ++ behind → Ahead rules (token_in pool token) us token.len last whole
    token-ahead a i l t =
        record {
          laid = t ∙ ap (λ (x : List ℕ). bytes_in pool token ++ x) e;
          long = bytes_length pool token i.in_pool;
          alone = a;
          ends
              = l;
        }

-- ---- the list

-- the records from number k on are put together, with their separators, from `at` on
pub record Putting (rules : List Rule) (sep : TokenRecord) (mode : ℕ) (records pool scratch : List ℕ) (at k : ℕ) : Type 0 where
  pub within : at ≤ length scratch
  pub few : k ≤ record_count records
  pub laid : drop at scratch ≡ join (separated rules (token_in pool sep) mode (tokens_in pool (left records k)))

module _ {tb : List ℕ} {sep : TokenRecord} {records pool : List ℕ} (p : Spaceable tb sep records pool) {k : ℕ}
    (l : k < record_count records)
    {r : TokenRecord} (e : r ≡ record_at records k) where
  pub spaced_inside : InPool pool r
  spaced_inside = rw e (record_at_lem (InPool pool) records p.inside k l)

  pub spaced_alone : (rules : List Rule) → Holds tb rules → Alone rules (token_in pool r)
  spaced_alone rules h = rw e (record_at_lem (λ (q : TokenRecord). Alone rules (token_in pool q)) records (p.alone rules h) k l)

module _ (rules : List Rule) (sep : TokenRecord) (mode : ℕ) (records pool : List ℕ) where
  abbrev from : ℕ → List Token
  from = list.from rules sep mode records pool

  pub putting_start : (scratch : List ℕ) (n : ℕ) → n ≡ record_count records → Putting rules sep mode records pool scratch (length scratch) n
  unfolding separated tokens_in
  putting_start scratch n e =
      record { within = omega arith; few = omega arith; laid = rw (left_end records n (omega arith)) (drop-length scratch) }

  module _ {scratch : List ℕ} {at k : ℕ} (w : Putting rules sep mode records pool scratch at k) (some : 0 < k) {r : TokenRecord}
      (e : r ≡ record_at records (k - 1)) where
    here : from (k - 1) ≡ token_in pool r ∷ put (follows rules mode (token_in pool r) (from k)) (token_in pool sep) (from k)
    here =
        let q : k - 1 + 1 ≡ k = omega arith in
        let z = list.from_next rules sep mode records pool (k - 1) (omega (arith, w.few)) e in
        subst (λ (i : ℕ). from (k - 1) ≡ token_in pool r ∷ put (follows rules mode (token_in pool r) (from i)) (token_in pool sep) (from i))
        q z

    module _ {p : Option ℕ} {exit : List ℕ} (s : Stands p (join
        (token_in pool r ∷ put (follows rules mode (token_in pool r) (from k)) (token_in pool sep) (from k))) exit) where
      pub putting_next : {start : ℕ} → p ≡ Some start → Putting rules sep mode records pool exit start (k - 1)
      putting_next q = let t = s.at _ q in record { within = t.within; few = omega (arith, w.few); laid = t.laid ∙ ap join (sym here) }

      pub putting_full : p ≡ None → Stands None (spelled rules sep mode records pool) exit
      putting_full q =
          let l = s.full q in
          let m : length (join (from (k - 1))) ≤ length (spelled rules sep mode records pool) = list.from-whole rules sep mode records
          pool (k - 1) (omega (arith, w.few)) in
          let z = ap (λ (ts : List Token). length (join ts)) here in
          stands_full (spelled rules sep mode records pool) exit (omega arith)

  pub putting_end : {scratch : List ℕ} {at k : ℕ} → Putting rules sep mode records pool scratch at k → k ≡ 0
      → Stands (Some at) (spelled rules sep mode records pool) scratch
  putting_end {k = k} w z =
      stands_at (record { within = w.within; laid = w.laid ∙ rw (z, ← left-start records) })
