-- How far the rules walk over a text, a rule after the other, and what a part of the text says of the whole. Assumes nothing.
use mathlib.Core.Path.{◌≡◌, refl, sym, ◌∙◌, subst}
use mathlib.Core.List.{List}
use Prim.Native.Nat.{ℕ, zero, suc, ◌+◌, ◌-◌, ◌<◌, ◌≤◌}
use native.Mathlib.Omega.{arith, max_cases}
use lib.ListN.{length, take}
use lib.Seq.{take-take, length-take-le, ext_get_or}
use borrow.Author.Count.{below_more}
use Rattle.automaton.specs.Choice.{All}
use Rattle.automaton.specs.Rule.{Rule, longest_within, longest, Sound}
use Rattle.automaton.specs.Layers.{blank, rule_at}
use Rattle.automaton.proofs.Tests.{all_at}
use Rattle.automaton.proofs.Walks.{stays, longest-done}
use Rattle.walker.specs.Layers.{Goes, Further}
use Rattle.longest_match.specs.Steps.{prefixes}
use Rattle.longest_match.specs.Layers.{Stopped, GoFar}
use Rattle.longest_match.proofs.Picking.{prefixes-length, prefixes_at}

-- none has walked
pub far_start : (rules : List Rule) (text : List ℕ) → GoFar rules 0 text 1
far_start rules text = record {
  some = omega arith;
  within = omega arith;
  going = λ k a b. absurd (omega arith);
  stopped = λ k a b j l. absurd (omega arith);
}

-- a rule stays where it has stopped
goes_stays : {n : ℕ} (r : Rule) → Sound n r → (text : List ℕ) (far k : ℕ) → Goes r text far → far ≤ k → k ≤ length text
    → Stopped r text k
goes_stays r sound text far k g l m =
    let e : k - far + far ≡ k = omega arith in
    subst (Stopped r text) e (stays r sound text far (k - far) (omega arith) (g.stopped (omega arith)))

-- one rule more
pub far_next : {n : ℕ} {rules : List Rule} {count : ℕ} {text : List ℕ} {known went : ℕ} → GoFar rules count text known
    → Sound n (rule_at rules count) → Further (rule_at rules count) text known went → GoFar rules (count + 1) text went
far_next {n} {rules} {count} {text} {known} {went} g sound f = record {
  some = omega (arith, f.further, g.some);
  within = omega (arith, f.further, g.within, f.goes.within);
  going = λ k a b. max_cases known f.far _
      (λ l e. (count, omega arith, f.goes.going k a (omega (arith, f.further))))
      (λ l e. let s = g.going k a (omega (arith, f.further)) in (s.0, omega (arith, s.1), s.2));
  stopped = λ k a b. below_more (λ j. Stopped (rule_at rules j) text k) count (g.stopped k (omega (arith, f.further)) b)
      (goes_stays (rule_at rules count) sound text f.far k f.goes (omega (arith, f.further)) b);
}

-- ---- the longest prefix of a rule that stops within a part of a text

pub longest-part : (r : Rule) (text : List ℕ) (m n : ℕ) → n ≤ m → longest_within r (take m text) n ≡ longest_within r text n
unfolding longest_within
longest-part r text m zero l = refl
longest-part r text m (suc n) l = rw (take-take (suc n) m text l, longest-part r text m n (omega arith))

longest_window : {n : ℕ} (r : Rule) → Sound n r → (text : List ℕ) (m far : ℕ) → m ≤ length text → far ≤ m → Stopped r (take m text) far
    → longest r (take m text) ≡ longest r text
longest_window r sound text m far l f s =
    let inside : far ≤ length (take m text) = rw (length-take-le m text l) f in
    let s₁ : Stopped r text far = rw (take-take far m text f) at s in
    sym (longest-done r sound (take m text) far inside s) ∙ longest-part r text m far f ∙ longest-done r sound text far (omega arith) s₁

pub prefixes_window : (n : ℕ) (rules : List Rule) → All (Sound n) rules → (text : List ℕ) (m far : ℕ) → m ≤ length text
    → GoFar rules (length rules) (take m text) far → far ≤ m → prefixes rules (take m text) ≡ prefixes rules text
prefixes_window n rules sound text m far l g f =
    let inside : far ≤ length (take m text) = rw (length-take-le m text l) f in
    ext_get_or 0 (prefixes rules (take m text)) (prefixes rules text)
    (prefixes-length (take m text) rules ∙ sym (prefixes-length text rules))
    (λ i q.
    let k : i < length rules = rw (prefixes-length (take m text) rules) at q in
    prefixes_at (take m text) rules i k
    ∙ longest_window (rule_at rules i) (all_at (Sound n) rules blank sound i k) text m far l f (g.stopped far (omega arith) inside i k)
    ∙ sym (prefixes_at text rules i k))
