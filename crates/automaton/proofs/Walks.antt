-- The walk of one rule over a text, byte by byte, and the longest prefix that it matches. Assumes nothing.
use mathlib.Core.Path.{◌≡◌, refl, sym, ◌∙◌, ap}
use mathlib.Core.Bool.{true, false}
use mathlib.Core.List.{List, [], ◌∷◌}
use Prim.Native.Nat.{ℕ, zero, suc, ◌+◌, ◌-◌, ◌<◌, ◌≤◌}
use native.Mathlib.Nat.{zero-add, suc-add}
use native.Mathlib.Omega.{arith}
use lib.ListN.{length, get_or, take}
use lib.Dec.{eqb}
use Rattle.automaton.specs.Choice.{any, among}
use Rattle.automaton.specs.Rule.{Transition, Rule, target, step, walk, matches, longest_within, longest, Sound}
use Rattle.automaton.proofs.Tests.{or_false}

-- nothing leaves the error state
pub target_stays : (error b : ℕ) (ts : List Transition) → any (λ (t : Transition). eqb t.from error) ts ≡ false
    → target ts error b error ≡ error
unfolding target
target_stays error b [] h = refl
target_stays error b (t ∷ ts) h = let p = or_false (eqb t.from error) _ h in rw p.0 (target_stays error b ts p.1)

module _ (r : Rule) where
  -- one byte more
  pub walk_more : (t : List ℕ) (n s : ℕ) → n < length t → walk r s (take (suc n) t) ≡ step r (walk r s (take n t)) (get_or t n 0)
  unfolding walk
  walk_more [] n s h = absurd (omega arith)
  walk_more (b ∷ t) zero s h = refl
  walk_more (b ∷ t) (suc n) s h = walk_more t n (step r s b) (omega arith)

  pub longest_zero : (t : List ℕ) → 0 ≡ longest_within r t 0
  unfolding longest_within
  longest_zero t = refl

  pub longest_yes : (t : List ℕ) (n : ℕ) → among (walk r r.start (take (suc n) t)) r.finals ≡ true → suc n ≡ longest_within r t (suc n)
  unfolding longest_within matches
  longest_yes t n h = rw h

  pub longest_no : (t : List ℕ) (n : ℕ) → among (walk r r.start (take (suc n) t)) r.finals ≡ false
      → longest_within r t n ≡ longest_within r t (suc n)
  unfolding longest_within matches
  longest_no t n h = rw h

  module _ {m : ℕ} (sound : Sound m r) where
    pub stays : (t : List ℕ) (n k : ℕ) → k + n ≤ length t → walk r r.start (take n t) ≡ r.error
        → walk r r.start (take (k + n) t) ≡ r.error
    stays t n zero h e = rw zero-add e
    stays t n (suc k) h e =
        rw suc-add
        (walk_more t (k + n) r.start (omega arith) ∙ ap (λ (x : ℕ). step r x (get_or t (k + n) 0)) (stays t n k (omega arith) e)
        ∙ target_stays r.error (get_or t (k + n) 0) r.transitions sound.stays)

    longest_stays : (t : List ℕ) (n k : ℕ) → k + n ≤ length t → walk r r.start (take n t) ≡ r.error
        → longest_within r t (k + n) ≡ longest_within r t n
    longest_stays t n zero h e = rw zero-add
    longest_stays t n (suc k) h e =
        let q : walk r r.start (take (suc k + n) t) ≡ r.error = stays t n (suc k) h e in
        let p = rw suc-add at q in
        rw suc-add (sym (longest_no t (k + n) (ap (λ (x : ℕ). among x r.finals) p ∙ sound.fails)) ∙ longest_stays t n k (omega arith) e)

    -- so the walk may stop in the error state
    pub longest-done : (t : List ℕ) (n : ℕ) → n ≤ length t → walk r r.start (take n t) ≡ r.error → longest_within r t n ≡ longest r t
    longest-done t n h e =
        let q : length t - n + n ≡ length t = omega arith in
        sym (longest_stays t n (length t - n) (omega arith) e) ∙ ap (λ (x : ℕ). longest_within r t x) q
