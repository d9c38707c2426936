-- How long a list with copies of a separator in its gaps is, and that the spacing printer's list is one. Assumes nothing.
use mathlib.Core.Path.{◌≡◌, refl}
use mathlib.Core.Bool.{Bool, true, false}
use mathlib.Core.List.{List, [], ◌∷◌, ◌++◌}
use Prim.Native.Nat.{ℕ, zero, suc, ◌+◌, ◌*◌}
use native.Mathlib.Omega.{arith}
use native.Mathlib.Nat.{suc-mul, add-mul}
use lib.ListN.{length, length-append, replicate, length-replicate}
use Rattle.automaton.specs.Rule.{Rule}
use Rattle.longest_match.specs.Lexer.{Token, join}
use Rattle.longest_match.proofs.Lexing.{join-append}
use Rattle.spacing.specs.Separators.{follows, put, separated}
use Rattle.demands.specs.Gaps.{Way, later, behind, scattered, in_all, once, puts}

module _ (sep : Token) where
  pub copies_tokens : (k : ℕ) (ts : List Token) → length (replicate k sep ++ ts) ≡ k + length ts
  copies_tokens k ts = rw (length-append, length-replicate)

  pub scattered-tokens : (way : Way) (ts : List Token) → length (scattered sep way ts) ≡ length ts + in_all way ts
  scattered-tokens way [] = refl
  scattered-tokens way (t ∷ ts) =
      omega (arith, copies_tokens (behind way ts) (scattered sep (later way) ts), scattered-tokens (later way) ts)

  copies_bytes : (k : ℕ) → length (join (replicate k sep)) ≡ k * length sep.bytes
  copies_bytes zero = omega arith
  copies_bytes (suc k) = simp (length-append, suc-mul) (omega (arith, copies_bytes k))

  pub scattered_bytes : (way : Way) (ts : List Token)
      → length (join (scattered sep way ts)) ≡ length (join ts) + in_all way ts * length sep.bytes
  scattered_bytes way [] = omega arith
  scattered_bytes way (t ∷ ts) =
      simp (join-append, length-append, copies_bytes, add-mul) (omega (arith, scattered_bytes (later way) ts))

module _ (rules : List Rule) (sep : Token) (mode : ℕ) where
  put-once : (c : Bool) (us : List Token) → put c sep us ≡ replicate (once c) sep ++ us
  put-once true us = refl
  put-once false us = refl

  pub separated-puts : (ts : List Token) → separated rules sep mode ts ≡ scattered sep (puts rules sep mode ts) ts
  unfolding separated follows
  separated-puts [] = refl
  separated-puts (t ∷ []) = refl
  separated-puts (t ∷ u ∷ us) = rw (put-once (follows rules mode t (separated rules sep mode (u ∷ us))) _, separated-puts (u ∷ us))
