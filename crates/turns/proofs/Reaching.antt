-- The reach at a place: what it says, and how the rules' walks over a part of the text give it. Assumes nothing.
use mathlib.Core.Path.{◌≡◌, refl, ◌∙◌, ap, subst}
use mathlib.Core.Bool.{Bool, true, false}
use mathlib.Core.Option.{some}
use mathlib.Core.List.{List, [], ◌∷◌, ◌++◌}
use Prim.Native.Nat.{ℕ, zero, suc, ◌+◌, ◌-◌, ◌<◌, ◌≤◌}
use native.Mathlib.Omega.{arith}
use lib.ListN.{length, take}
use lib.Seq.{take-take, length-take-le}
use borrow.Author.Tests.{eq-eqb, eqb-true, ne_eqb}
use Rattle.automaton.specs.Choice.{if, All, among}
use Rattle.automaton.specs.Rule.{Rule, walk, matches, Sound}
use Rattle.automaton.specs.Layers.{rule_at}
use Rattle.automaton.proofs.Tests.{clash, and_true, and_false_right, all_middle}
use Rattle.automaton.proofs.Walks.{stays}
use Rattle.longest_match.specs.Lexer.{Found, choose}
use Rattle.longest_match.specs.Layers.{Stopped, GoFar}
use Rattle.longest_match.proofs.Choosing.{choose_some, chosen_take}
use Rattle.turns.specs.Reach.{fails, all_fail, fewest, reach}

-- ---- the fewest

module _ (test : ℕ → Bool) where
  abbrev later : ℕ → Bool
  later k = test (suc k)

pub fewest-within : (test : ℕ → Bool) (n : ℕ) → fewest test n ≤ n
unfolding fewest
fewest-within test zero = omega arith
fewest-within test (suc n) = go (test 0) (fewest-within (later test) n)
  where
    go : (b : Bool) → fewest (later test) n ≤ n → if b 0 (suc (fewest (later test) n)) ≤ suc n
    go true h = omega arith
    go false h = omega arith

pub fewest_holds : (test : ℕ → Bool) (n : ℕ) → fewest test n < n → test (fewest test n) ≡ true
unfolding fewest
fewest_holds test zero l = absurd (omega arith)
fewest_holds test (suc n) l = go (test 0) refl (fewest_holds (later test) n) l
  where
    go : (b : Bool) → test 0 ≡ b → (fewest (later test) n < n → later test (fewest (later test) n) ≡ true)
        → if b 0 (suc (fewest (later test) n)) < suc n → test (if b 0 (suc (fewest (later test) n))) ≡ true
    go true e ih q = e
    go false e ih q = ih (omega arith)

pub fewest_before : (test : ℕ → Bool) (n k : ℕ) → k < fewest test n → test k ≡ false
unfolding fewest
fewest_before test zero k l = absurd (omega arith)
fewest_before test (suc n) k l = go (test 0) refl (fewest_before (later test) n) k l
  where
    go : (b : Bool) → test 0 ≡ b → ((k : ℕ) → k < fewest (later test) n → later test k ≡ false) → (k : ℕ)
        → k < if b 0 (suc (fewest (later test) n)) → test k ≡ false
    go true e ih k q = absurd (omega arith)
    go false e ih zero q = e
    go false e ih (suc k) q = ih k (omega arith)

pub fewest_is : (test : ℕ → Bool) (n m : ℕ) → m ≤ n → ((k : ℕ) → k < m → test k ≡ false) → (m < n → test m ≡ true) → fewest test n ≡ m
fewest_is test n m l before here =
    let a : fewest test n < m → ⊥ = λ q. clash (fewest_holds test n (omega arith)) (before (fewest test n) q) in
    let b : m < fewest test n → ⊥ = λ q. clash (here (omega (arith, fewest-within test n))) (fewest_before test n m q) in
    omega arith

pub fewest-past : (test : ℕ → Bool) (n m : ℕ) → m < n → ((k : ℕ) → k ≤ m → test k ≡ false) → m < fewest test n
fewest-past test n m l before =
    let a : fewest test n ≤ m → ⊥ = λ q. clash (fewest_holds test n (omega arith)) (before (fewest test n) q) in
    omega arith

-- ---- all rules

-- by their numbers
pub all_fail_lem : (rules : List Rule) (w : List ℕ) → ((j : ℕ) → j < length rules → walk (rule_at rules j) (rule_at rules j).start w
    ≡ (rule_at rules j).error) → all_fail rules w ≡ true
unfolding all_fail
all_fail_lem [] w h = refl
all_fail_lem (r ∷ rs) w h = rw (eq-eqb _ _ (h 0 (omega arith)), all_fail_lem rs w (λ j l. h (suc j) (omega arith)))

pub one_goes : (rules : List Rule) (w : List ℕ) (j : ℕ) → j < length rules
    → (walk (rule_at rules j) (rule_at rules j).start w ≡ (rule_at rules j).error → ⊥) → all_fail rules w ≡ false
unfolding all_fail
one_goes [] w j l h = absurd (omega arith)
one_goes (r ∷ rs) w zero l h = rw (ne_eqb _ _ h)
one_goes (r ∷ rs) w (suc j) l h = rw (one_goes rs w j (omega arith) h, and_false_right)

pub each_fails : (rules : List Rule) (w : List ℕ) → all_fail rules w ≡ true → All (λ (r : Rule). walk r r.start w ≡ r.error) rules
unfolding all_fail
each_fails [] w e = tt
each_fails (r ∷ rs) w e = let p = and_true (fails r w) _ e in (eqb-true _ _ p.0, each_fails rs w p.1)

-- ---- the reach

-- After so many bytes all rules stand in their error states, unless the text ends there; after fewer they do not.
pub record Fewest (rules : List Rule) (text : List ℕ) (n : ℕ) : Type 0 where
  pub within : n ≤ length text
  pub before : (k : ℕ) → k < n → all_fail rules (take k text) ≡ false
  pub here : n < length text → all_fail rules (take n text) ≡ true

module _ (rules : List Rule) (text : List ℕ) where
  pub reach-fewest : Fewest rules text (reach rules text)
  unfolding reach
  reach-fewest = record {
    within = fewest-within _ (length text);
    before = fewest_before _ (length text);
    here = fewest_holds _ (length text);
  }

  -- which no other number is
  pub reach_is : (n : ℕ) → Fewest rules text n → reach rules text ≡ n
  unfolding reach
  reach_is n f = fewest_is _ (length text) n f.within f.before f.here

-- where all rules start in their error states
pub reach-idle : (rules : List Rule) (text : List ℕ) → all_fail rules [] ≡ true → reach rules text ≡ 0
reach-idle rules text e =
    reach_is rules text 0 (record { within = omega arith; before = λ k l. absurd (omega arith); here = λ l. e })

-- at the end of the text
pub reach-end : (rules : List Rule) → reach rules [] ≡ 0
reach-end rules =
    reach_is rules [] 0 (record { within = omega arith; before = λ k l. absurd (omega arith); here = λ l. absurd (omega arith) })

-- ---- by the walks over the first m bytes

module _ (rules : List Rule) (stirs : all_fail rules [] ≡ false) (text : List ℕ) (m far : ℕ) (inside : m ≤ length text)
    (g : GoFar rules (length rules) (take m text) far) where
  bound : far ≤ m + 1
  bound = rw (length-take-le m text inside) at g.within

  going : (k : ℕ) → k < far → all_fail rules (take k text) ≡ false
  going zero l = stirs
  going (suc k) l =
      let s = g.going (suc k) (omega arith) l in
      let short : suc k ≤ m = omega (arith, bound) in
      one_goes rules (take (suc k) text) s.0 s.1 (rw (take-take (suc k) m text short) at s.2)

  pub reach-fits : far ≤ m → reach rules text ≡ far
  reach-fits l = reach_is rules text far (record {
    within = omega arith;
    before = going;
    here = λ q. all_fail_lem rules (take far text)
        (λ j p. rw (take-take far m text l) at (g.stopped far (omega arith) (rw (length-take-le m text inside) l) j p));
  })

  pub reach-all : m < far → m ≡ length text → reach rules text ≡ m
  reach-all l e = reach_is rules text m (record {
    within = inside;
    before = λ k q. going k (omega arith);
    here = λ q. absurd (omega arith);
  })

  pub reach-past : m < far → m < length text → m < reach rules text
  unfolding reach
  reach-past l q = fewest-past _ (length text) m q (λ k p. going k (omega arith))

-- with no byte left, but a text to go on in
pub reach_some : (rules : List Rule) → all_fail rules [] ≡ false → (text : List ℕ) → 0 < length text → 0 < reach rules text
unfolding reach
reach_some rules stirs text l = fewest-past _ (length text) 0 l (λ k p. first k p)
  where
    first : (k : ℕ) → k ≤ 0 → all_fail rules (take k text) ≡ false
    first zero p = stirs
    first (suc k) p = absurd (omega arith)

-- ---- a token lies within its reach

-- a rule that stands in its error state matches nothing from there on
unmatched : {n : ℕ} (r : Rule) → Sound n r → (text : List ℕ) (k m : ℕ) → k ≤ m → m ≤ length text → Stopped r text k
    → matches r (take m text) ≡ false
unfolding matches
unmatched r sound text k m l q s =
    let e : m - k + k ≡ m = omega arith in
    let z : Stopped r text m = subst (Stopped r text) e (stays r sound text k (m - k) (omega arith) s) in
    ap (λ (x : ℕ). among x r.finals) z ∙ sound.fails

module _ (n : ℕ) (rules : List Rule) (sound : All (Sound n) rules) (text : List ℕ) (f : Found) (e : choose rules text ≡ some f) where
  pub reach-covers : length f.token.bytes ≤ reach rules text
  reach-covers =
      let c = choose_some rules text f e in
      let m = c.earliest in
      let s : All (Sound n) (m.before ++ m.rule ∷ m.behind) = subst (All (Sound n)) m.splits sound in
      let short : reach rules text < length f.token.bytes → ⊥ = λ l.
      let w : all_fail rules (take (reach rules text) text) ≡ true = (reach-fewest rules text).here (omega (arith, c.within)) in
      let each = each_fails rules (take (reach rules text) text) w in
      let stopped : Stopped m.rule text (reach rules text) =
      all_middle (λ (r : Rule). walk r r.start (take (reach rules text) text) ≡ r.error) m.before m.rule m.behind
      (subst (All (λ (r : Rule). walk r r.start (take (reach rules text) text) ≡ r.error)) m.splits each) in
      let matched : matches m.rule (take (length f.token.bytes) text) ≡ true =
      rw (← (chosen_take rules text f e)) m.matched in
      clash matched (unmatched m.rule (all_middle (Sound n) m.before m.rule m.behind s) text (reach rules text)
      (length f.token.bytes) (omega arith) c.within stopped) in
      omega arith
