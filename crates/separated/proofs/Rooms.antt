-- Which scratch is large enough for what is put together. Assumes nothing.
use mathlib.Core.List.{List, ◌∷◌}
use mathlib.Core.Path.{◌≡◌}
use Prim.Native.Nat.{ℕ, zero, suc, ◌+◌, ◌*◌, ◌≤◌}
use native.Mathlib.Nat.{suc-mul}
use native.Mathlib.Omega.{arith}
use lib.ListN.{length, length-append, length-take}
use Rattle.automaton.specs.Rule.{Rule}
use Rattle.book.specs.Limits.{max_text}
use Rattle.longest_match.specs.Lexer.{join}
use Rattle.record.specs.Records.{record_count}
use Rattle.record.specs.declared.TokenRecord.{TokenRecord}
use Rattle.record.specs.Tokens.{record_at, records_from, records_of, bytes_in, token_in, tokens_in}
use Rattle.token_list.specs.Layers.{Spanned}
use Rattle.spacing.specs.Separators.{follows, separated}
use Rattle.spacing.proofs.Separated.{put_most}
use Rattle.separated.specs.Layers.{Roomy}

module _ (sep : TokenRecord) (mode : ℕ) (records pool : List ℕ) where
  pub roomy_large : {scratch : List ℕ} → length scratch ≡ max_text → Roomy sep mode records pool scratch
  roomy_large e = record { short = omega arith; room = λ rules l. omega arith }

  -- each token has one separator behind it at most
  spelled-within : (rules : List Rule) (k n : ℕ)
      → length (join (separated rules (token_in pool sep) mode (tokens_in pool (records_from records k n))))
      ≤ length (join (tokens_in pool (records_from records k n))) + n * sep.len
  unfolding separated tokens_in records_from
  spelled-within rules k zero = omega arith
  spelled-within rules k (suc n) =
      let t = token_in pool (record_at records k) in
      let later = tokens_in pool (records_from records (suc k) n) in
      let us = separated rules (token_in pool sep) mode later in
      let one : length (bytes_in pool sep) ≤ sep.len = simp length-take (omega arith) in
      let all : length (join (t ∷ later)) ≡ length t.bytes + length (join later) = length-append t.bytes (join later) in
      rw suc-mul (omega (arith, one, all, put_most t (token_in pool sep) us (follows rules mode t us), spelled-within rules (suc k) n))

  pub roomy_small : {total : ℕ} {scratch : List ℕ} → Spanned records pool total → total + record_count records * sep.len ≤ length scratch
      → length scratch ≤ max_text → Roomy sep mode records pool scratch
  unfolding records_of
  roomy_small s l m =
      record { short = m; room = λ rules n. omega (arith, spelled-within rules 0 (record_count records), s.bytes) }
