-- One command, at two places: what it comes to is the same but for a refusal's place, and for END, which looks whether the book ends.
-- Assumes nothing.
use Rattle.answer.specs.declared.Reason.{Reason}
use Rattle.answer.specs.declared.Reason.TheVariants.{BytesAfterEnd}
use mathlib.Core.Path.{◌≡◌, refl}
use mathlib.Core.Bool.{Bool, true, false, ◌||◌}
use Prim.Native.Nat.{ℕ, ◌+◌, ◌≤◌}
use lib.Dec.{ltb, leb, eqb}
use lib.ListN.{length}
use borrow.Author.Tests.{ltb-false, le-ltb}
use Rattle.automaton.specs.Choice.{any, among}
use Rattle.automaton.specs.Rule.{Transition, overlaps}
use Rattle.command.specs.declared.Command.{Command}
use Rattle.command.specs.declared.Command.TheVariants.{Rule as RULE, Start, Error, Final, Step, Span, Close, End}
use Rattle.book.specs.Limits.{max_rules, max_transitions}
use Rattle.book.specs.Draft.{Draft, is_set, is_unset, state_of, tagged, is_empty, no_state, Verdict, goes, accepts, refuses, check, move, apply}

module _ (R : Verdict → Verdict → Type 0) (refusing : (reason : Reason) (place : ℕ) (v : Verdict) → R (refuses reason place) v)
    (going : (d : Draft) → R (goes d) (goes d)) where
  check_both : (t : Bool) (reason : Reason) (place place₁ : ℕ) (v w : Verdict) → (t ≡ false → R v w)
      → R (check t reason place v) (check t reason place₁ w)
  unfolding check
  check_both true _ _ _ v w h = refusing _ _ _
  check_both false _ _ _ v w h = h refl

  module _ (d : Draft) (at at₁ : ℕ) where
    pub move_both : (from low high to : ℕ) → R (move d at from low high to) (move d at₁ from low high to)
    unfolding move
    move_both from low high to =
        check_both (leb max_transitions (length d.transitions)) _ _ _ _ _ (λ _.
        check_both (ltb high low || (no_state from || no_state to)) _ _ _ _ _ (λ _. going _))

    pub apply_both : (c : Command) {len len₁ : ℕ} → (len ≤ at + 1 → (len₁ ≤ at₁ + 1) × R (accepts d.rules) (accepts d.rules))
        → R (apply d c at len) (apply d c at₁ len₁)
    unfolding apply check
    apply_both (RULE tag kind) h =
        check_both (leb max_rules (length d.rules)) _ _ _ _ _ (λ _. check_both (eqb tag 0 || ltb 1 kind) _ _ _ _ _ (λ _.
        check_both (tagged tag d.rules) _ _ _ _ _ (λ _. going _)))
    apply_both (Start s) h = check_both (no_state s) _ _ _ _ _ (λ _. check_both (is_set d.start) _ _ _ _ _ (λ _. going _))
    apply_both (Error s) h = check_both (no_state s) _ _ _ _ _ (λ _. check_both (is_set d.error) _ _ _ _ _ (λ _. going _))
    apply_both (Final s) h = check_both (no_state s) _ _ _ _ _ (λ _. going _)
    apply_both (Step from byte to) h = move_both from byte byte to
    apply_both (Span from low high to) h = move_both from low high to
    apply_both Close h =
        check_both (is_unset d.start || is_unset d.error) _ _ _ _ _ (λ _. check_both (overlaps d.transitions) _ _ _ _ _ (λ _.
        check_both (any (λ (t : Transition). eqb t.from (state_of d.error)) d.transitions) _ _ _ _ _ (λ _.
        check_both (among (state_of d.error) d.finals) _ _ _ _ _ (λ _.
        check_both (among (state_of d.start) d.finals) _ _ _ _ _ (λ _. going _)))))
    apply_both End {len} {len₁} h = check_both (is_empty d.rules) _ _ _ _ _ (λ _. go (ltb (at + 1) len) refl)
      where
        go : (t : Bool) → ltb (at + 1) len ≡ t
            → R (check t BytesAfterEnd (at + 1) (accepts d.rules)) (check (ltb (at₁ + 1) len₁) BytesAfterEnd (at₁ + 1) (accepts d.rules))
        go true e = refusing _ _ _
        go false e = let k = h (ltb-false (at + 1) len e) in rw (le-ltb _ _ k.0) k.1
