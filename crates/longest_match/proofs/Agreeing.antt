-- The rules that agree on a token: the bits of their mask, and the mask from the lengths of their longest prefixes. Assumes nothing.
use mathlib.Core.Path.{◌≡◌, refl, sym, ◌∙◌, subst}
use mathlib.Core.Bool.{Bool, true, false}
use mathlib.Core.List.{List, [], ◌∷◌}
use Prim.Native.Nat.{ℕ, zero, suc, ◌+◌, ◌*◌, ◌^◌, ◌/◌, ◌<◌, ◌≤◌}
use native.Mathlib.Nat.{pow-succ', two-pow-succ, div-div-eq-div-mul, zero-mod, div-one, zero-div}
use native.Mathlib.Numerals.{add-one}
use native.Mathlib.Omega.{arith}
use lib.Dec.{eqb}
use lib.ListN.{length, get_or, take, drop, drop_of_length-le}
use lib.Seq.{drop-cons}
use borrow.Author.Tests.{eqb-true, eqb-false, ne_eqb}
use Rattle.automaton.specs.Rule.{Rule, matches, longest}
use Rattle.automaton.specs.Layers.{rule_at}
use Rattle.longest_match.specs.Steps.{prefixes, greatest}
use Rattle.longest_match.specs.Masks.{bit, bit_at, agreeing, mask_of}
use Rattle.longest_match.specs.Layers.{Chooses, Agrees, Picks}
use Rattle.longest_match.proofs.Picking.{longest-matches, longest_most, most, steps-choose}

-- ---- bits

bit_below : (b : Bool) → bit b < 2
bit_below true = omega arith
bit_below false = omega arith

-- the lowest bit, and those above it
module _ (b m : ℕ) (l : b < 2) where
  lowest : bit_at (b + 2 * m) 0 ≡ b
  lowest = rw div-one (omega arith)

  higher : (k : ℕ) → bit_at (b + 2 * m) (suc k) ≡ bit_at m k
  higher k =
      let half : (b + 2 * m) / 2 ≡ m = omega arith in
      rw (pow-succ', ← div-div-eq-div-mul, half)

-- Bit k of the mask is set just where rule number k matches the whole of w,
pub agreeing-bit : (rules : List Rule) (w : List ℕ) (k : ℕ) → k < length rules
    → bit_at (agreeing rules w) k ≡ bit (matches (rule_at rules k) w)
unfolding agreeing
agreeing-bit [] w k l = absurd (omega arith)
agreeing-bit (r ∷ rs) w zero l = lowest (bit (matches r w)) (agreeing rs w) (bit_below (matches r w))
agreeing-bit (r ∷ rs) w (suc k) l =
    higher (bit (matches r w)) (agreeing rs w) (bit_below (matches r w)) k ∙ agreeing-bit rs w k (omega arith)

-- and no bit is where no rule is.
pub agreeing-past : (rules : List Rule) (w : List ℕ) (k : ℕ) → length rules ≤ k → bit_at (agreeing rules w) k ≡ 0
unfolding agreeing
agreeing-past [] w k l = rw (zero-div, zero-mod)
agreeing-past (r ∷ rs) w zero l = absurd (omega arith)
agreeing-past (r ∷ rs) w (suc k) l =
    higher (bit (matches r w)) (agreeing rs w) (bit_below (matches r w)) k ∙ agreeing-past rs w k (omega arith)

pub agreeing_below : (rules : List Rule) (w : List ℕ) → agreeing rules w < 2 ^ length rules
unfolding agreeing
agreeing_below [] w = omega arith
agreeing_below (r ∷ rs) w = rw two-pow-succ (omega (arith, bit_below (matches r w), agreeing_below rs w))

-- ---- from the lengths

pub mask_below : (n : ℕ) (ms : List ℕ) → mask_of n ms < 2 ^ length ms
unfolding mask_of
mask_below n [] = omega arith
mask_below n (m ∷ ms) = rw two-pow-succ (omega (arith, bit_below (eqb m n), mask_below n ms))

pub mask_next : (n : ℕ) (ms : List ℕ) (k : ℕ) → k < length ms
    → mask_of n (drop k ms) ≡ bit (eqb (get_or ms k 0) n) + 2 * mask_of n (drop (k + 1) ms)
unfolding mask_of
mask_next n ms k l = rw (drop-cons ms k 0 l, add-one)

pub mask_end : (n : ℕ) (ms : List ℕ) (k : ℕ) → length ms ≤ k → mask_of n (drop k ms) ≡ 0
unfolding mask_of
mask_end n ms k l = rw (drop_of_length-le ms l)

-- none is so long
pub mask_none : (n : ℕ) (ms : List ℕ) → greatest ms < n → mask_of n ms ≡ 0
unfolding mask_of greatest
mask_none n [] l = refl
mask_none n (m ∷ ms) l =
    let e : m ≡ n → ⊥ = λ z. omega arith in
    rw (ne_eqb m n e, mask_none n ms (omega arith))

-- the greatest of the lengths from k on, and the mask of those that are as great, where any is more than 0
pub record Passed (ns : List ℕ) (k len mask : ℕ) : Type 0 where
  pub longest : len ≡ greatest (drop k ns)
  pub some : 0 < len → mask ≡ mask_of len (drop k ns)
  pub none : len ≡ 0 → mask ≡ 0

-- A rule agrees on a stretch just where its longest prefix is as long, if it is not longer.
agrees-longest : (r : Rule) (text : List ℕ) (len : ℕ) → 0 < len → len ≤ length text → longest r text ≤ len
    → eqb (longest r text) len ≡ matches r (take len text)
agrees-longest r text len p within l = go (eqb (longest r text) len) refl
  where
    go : (b : Bool) → eqb (longest r text) len ≡ b → b ≡ matches r (take len text)
    go true e =
        let q : longest r text ≡ len = eqb-true _ _ e in
        sym (subst (λ (n : ℕ). matches r (take n text) ≡ true) q (longest-matches r text (length text) (rw q p)))
    go false e =
        let q : longest r text ≡ len → ⊥ = eqb-false _ _ e in
        sym (longest_most r text (length text) len (omega arith) within)

-- So the mask of the lengths is that of the rules.
mask_agrees : (text : List ℕ) (len : ℕ) → 0 < len → len ≤ length text → (rules : List Rule)
    → ((k : ℕ) → k < length rules → longest (rule_at rules k) text ≤ len)
    → mask_of len (prefixes rules text) ≡ agreeing rules (take len text)
unfolding mask_of agreeing
mask_agrees text len p within [] h = refl
mask_agrees text len p within (r ∷ rs) h =
    rw (agrees-longest r text len p within (h 0 (omega arith)), mask_agrees text len p within rs (λ k l. h (suc k) (omega arith)))

pub steps_agree : (rules : List Rule) (text : List ℕ) → 0 < greatest (prefixes rules text)
    → mask_of (greatest (prefixes rules text)) (prefixes rules text) ≡ agreeing rules (take (greatest (prefixes rules text)) text)
steps_agree rules text p =
    mask_agrees text (greatest (prefixes rules text)) p (steps-choose rules text).within rules (most rules text)

-- ---- the steps joined

-- what they find in the lengths is chosen, and the mask that they give is that of the rules
module _ {rules : List Rule} {text ns : List ℕ} {rule len mask : ℕ} (e : ns ≡ prefixes rules text) (p : Picks ns rule len mask) where
  pub steps_chosen : Chooses rules text rule len
  steps_chosen = rw (p.earliest, p.longest, e) (steps-choose rules text)

  pub steps-agreed : Agrees rules text len mask
  steps-agreed = let l = p.longest in record {
    empty = p.mask_is.zero;
    agreed = λ q. p.mask_is.those q ∙ rw (l, e) (steps_agree rules text (rw (← e, ← l) q));
  }
