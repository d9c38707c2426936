-- How long a list with separators is, and the tokens of a list with their separators from a record on. Assumes nothing.
use mathlib.Core.Path.{◌≡◌, refl}
use mathlib.Core.Bool.{Bool, true, false}
use mathlib.Core.List.{List, ◌∷◌}
use Prim.Native.Nat.{ℕ, zero, suc, ◌+◌, ◌<◌, ◌≤◌}
use native.Mathlib.Omega.{arith}
use native.Mathlib.Numerals.{add-one}
use lib.Dec.{eqb}
use lib.ListN.{length, length-append}
use borrow.Author.Tests.{eqb-true, eqb-false}
use Rattle.automaton.specs.Rule.{Rule}
use Rattle.longest_match.specs.Lexer.{Token, join}
use Rattle.record.specs.Records.{record_count}
use Rattle.record.specs.declared.TokenRecord.{TokenRecord}
use Rattle.record.specs.Tokens.{record_at, token_in, tokens_in}
use Rattle.token_list.proofs.Passes.{left, left-start, left_next, left_end}
use Rattle.spacing.specs.Separators.{follows, put, separated, spelled}
use Rattle.spacing.specs.Layers.{is_last}

-- a token in front of a list, with a separator between or without
module _ (t sep : Token) (us : List Token) where
  pub put_least : (c : Bool) → length t.bytes + length (join us) ≤ length (join (t ∷ put c sep us))
  put_least true = simp length-append (omega arith)
  put_least false = simp length-append (omega arith)

  pub put_most : (c : Bool) → length (join (t ∷ put c sep us)) ≤ length t.bytes + (length sep.bytes + length (join us))
  put_most true = simp length-append (omega arith)
  put_most false = simp length-append (omega arith)

module _ (rules : List Rule) (sep : TokenRecord) (mode : ℕ) (records pool : List ℕ) where
  -- the tokens from number k on, with their separators
  abbrev pub from : ℕ → List Token
  from k = separated rules (token_in pool sep) mode (tokens_in pool (left records k))

  pub from_next : (k : ℕ) → k < record_count records → {r : TokenRecord} → r ≡ record_at records k
      → from k ≡ token_in pool r ∷ put (follows rules mode (token_in pool r) (from (k + 1))) (token_in pool sep) (from (k + 1))
  unfolding separated tokens_in
  from_next k l e = rw (left_next records k l, e)

  from_grows : (k : ℕ) → k < record_count records → length (join (from (k + 1))) ≤ length (join (from k))
  from_grows k l =
      let t = token_in pool (record_at records k) in
      rw (from_next k l refl) (omega (arith, put_least t (token_in pool sep) (from (k + 1)) (follows rules mode t (from (k + 1)))))

  pub from-whole : (k : ℕ) → k ≤ record_count records → length (join (from k)) ≤ length (spelled rules sep mode records pool)
  from-whole zero l = rw (left-start records) (omega arith)
  from-whole (suc k) l =
      let g : length (join (from (suc k))) ≤ length (join (from k)) = rw add-one at (from_grows k (omega arith)) in
      omega (arith, from-whole k (omega arith))

  pub from_last : (k : ℕ) → k ≤ record_count records → eqb k (record_count records) ≡ is_last (from k)
  unfolding separated tokens_in
  from_last k l = go (eqb k (record_count records)) refl
    where
      go : (t : Bool) → eqb k (record_count records) ≡ t → t ≡ is_last (from k)
      go true e = rw (left_end records k (omega (arith, eqb-true k (record_count records) e)))
      go false e = let ne = eqb-false k (record_count records) e in rw (left_next records k (omega arith))
