-- What a mode stands for, that this alone decides where separators are put, and that mode 1 puts the most. Assumes nothing.
use mathlib.Core.Path.{◌≡◌, refl}
use mathlib.Core.Bool.{Bool}
use mathlib.Core.List.{List, [], ◌∷◌}
use Prim.Native.Nat.{ℕ, zero, suc, ◌+◌, ◌≤◌}
use native.Mathlib.Omega.{arith}
use lib.ListN.{length, length-append}
use Rattle.automaton.specs.Rule.{Rule}
use Rattle.longest_match.specs.Lexer.{Token, join}
use Rattle.spacing.specs.Separators.{meaning, follows, put, separated}
use Rattle.spacing.proofs.Separated.{put_most}

pub meaning_zero : (mode : ℕ) → mode ≡ 0 → 2 ≡ meaning mode
unfolding meaning
meaning_zero mode e = rw e

pub meaning_other : (mode : ℕ) → (mode ≡ 0 → ⊥) → mode ≡ meaning mode
unfolding meaning
meaning_other zero ne = absurd (ne refl)
meaning_other (suc mode) ne = refl

-- modes that stand for the same put the same separators
module _ (rules : List Rule) (mode other : ℕ) (same : meaning mode ≡ meaning other) where
  same_follows : (t : Token) (us : List Token) → follows rules mode t us ≡ follows rules other t us
  unfolding follows
  same_follows t [] = refl
  same_follows t (u ∷ us) = rw same

  same_separated : (sep : Token) (ts : List Token) → separated rules sep mode ts ≡ separated rules sep other ts
  unfolding separated
  same_separated sep [] = refl
  same_separated sep (t ∷ ts) = rw (same_separated sep ts, same_follows t (separated rules sep other ts))

-- mode 0 puts those of mode 2
pub zero_spares : (rules : List Rule) (sep : Token) (ts : List Token) → separated rules sep 0 ts ≡ separated rules sep 2 ts
unfolding meaning
zero_spares rules = same_separated rules 0 2 refl

grows : (sep t : Token) (c : Bool) (us vs : List Token) → length (join us) ≤ length (join vs)
    → length (join (t ∷ put c sep us)) ≤ length (join (t ∷ sep ∷ vs))
grows sep t c us vs l =
    let e : length (join (t ∷ sep ∷ vs)) ≡ length t.bytes + (length sep.bytes + length (join vs)) = simp length-append (omega arith) in
    omega (arith, e, put_most t sep us c)

-- a list takes the most bytes in mode 1
module _ (rules : List Rule) (sep : Token) (mode : ℕ) where
  pub most_in_one : (ts : List Token) → length (join (separated rules sep mode ts)) ≤ length (join (separated rules sep 1 ts))
  unfolding separated follows meaning
  most_in_one [] = omega arith
  most_in_one (t ∷ []) = omega arith
  most_in_one (t ∷ u ∷ ts) =
      let us = separated rules sep mode (u ∷ ts) in
      grows sep t (follows rules mode t us) us (separated rules sep 1 (u ∷ ts)) (most_in_one (u ∷ ts))
