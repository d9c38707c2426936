-- Options taken apart, and `first_match`: it finds the earliest rule that matches. Assumes nothing.
use mathlib.Core.Path.{◌≡◌, refl}
use mathlib.Core.Bool.{Bool, true, false}
use mathlib.Core.Option.{Option, none, some}
use mathlib.Core.List.{List, [], ◌∷◌, ◌++◌}
use Prim.Native.Nat.{ℕ, zero, suc, ◌<◌}
use native.Mathlib.Omega.{arith}
use lib.ListN.{length}
use Rattle.automaton.specs.Choice.{if, All}
use Rattle.automaton.specs.Rule.{Rule, walk, matches, Sound}
use Rattle.automaton.specs.Layers.{rule_at}
use Rattle.automaton.proofs.Tests.{clash}
use Rattle.longest_match.specs.Lexer.{or, is_some, first_match}

-- ---- options

pub nothing : {A B : Type 0} {o : Option A} {a : A} → o ≡ none → o ≡ some a → B
nothing p q = let z : ◌≡◌ {A = ℕ} 0 1 = cc in absurd (omega arith)

pub some_of : {A : Type 0} (o : Option A) → is_some o ≡ true → (a : A) × (o ≡ some a)
some_of none e = clash e refl
some_of (some a) e = (a, refl)

pub none_of : {A : Type 0} (o : Option A) → is_some o ≡ false → o ≡ none
none_of none e = refl
none_of (some a) e = clash refl e

pub or_none : {A : Type 0} (x : Option A) → or x none ≡ x
or_none none = refl
or_none (some a) = refl

pub or_assoc : {A : Type 0} (x y z : Option A) → or x (or y z) ≡ or (or x y) z
or_assoc none y z = refl
or_assoc (some a) y z = refl

-- ---- the earliest rule

-- a rule of this tag matches w, and no earlier one does
pub record Earliest (rules : List Rule) (w : List ℕ) (tag : ℕ) : Type 0 where
  pub before : List Rule
  pub rule : Rule
  pub behind : List Rule
  pub splits : rules ≡ before ++ rule ∷ behind
  pub tagged : rule.tag ≡ tag
  pub matched : matches rule w ≡ true
  pub earlier : All (λ (q : Rule). matches q w ≡ false) before

pub earliest : (rules : List Rule) (w : List ℕ) (tag : ℕ) → first_match rules w ≡ some tag → Earliest rules w tag
unfolding first_match
earliest [] w tag e = nothing refl e
earliest (r ∷ rs) w tag e = go (matches r w) refl (earliest rs w tag) e
  where
    go : (m : Bool) → matches r w ≡ m → (first_match rs w ≡ some tag → Earliest rs w tag) → if m (some r.tag) (first_match rs w) ≡ some tag
        → Earliest (r ∷ rs) w tag
    go true m ih z = record { before = []; rule = r; behind = rs; splits = refl; tagged = cc; matched = m; earlier = tt }
    go false m ih z = let f = ih z in
        record {
          before = r ∷ f.before;
          rule = f.rule;
          behind = f.behind;
          splits = cc;
          tagged = f.tagged;
          matched = f.matched;
          earlier =
              (m, f.earlier);
        }

first_of : (before behind : List Rule) (r : Rule) (w : List ℕ) → matches r w ≡ true → All (λ (q : Rule). matches q w ≡ false) before
    → first_match (before ++ r ∷ behind) w ≡ some r.tag
unfolding first_match
first_of [] behind r w m h = rw m
first_of (q ∷ before) behind r w m (e, h) = rw (e, first_of before behind r w m h)

pub earliest_found : (rules : List Rule) (w : List ℕ) (tag : ℕ) → Earliest rules w tag → first_match rules w ≡ some tag
earliest_found rules w tag f = rw (f.splits, first_of f.before f.behind f.rule w f.matched f.earlier, f.tagged)

-- none is found where no rule matches
pub unmatched : (rules : List Rule) (w : List ℕ) → first_match rules w ≡ none → All (λ (q : Rule). matches q w ≡ false) rules
unfolding first_match
unmatched [] w e = tt
unmatched (r ∷ rs) w e = go (matches r w) refl (unmatched rs w) e
  where
    go : (m : Bool) → matches r w ≡ m → (first_match rs w ≡ none → All (λ (q : Rule). matches q w ≡ false) rs)
        → if m (some r.tag) (first_match rs w) ≡ none → All (λ (q : Rule). matches q w ≡ false) (r ∷ rs)
    go true m ih z = nothing z refl
    go false m ih z = (m, ih z)

-- ---- the same by the rules' numbers

pub first_at : (rules : List Rule) (w : List ℕ) (k : ℕ) → k < length rules → matches (rule_at rules k) w ≡ true
    → ((j : ℕ) → j < k → matches (rule_at rules j) w ≡ false) → first_match rules w ≡ some (rule_at rules k).tag
unfolding first_match
first_at [] w k l m h = absurd (omega arith)
first_at (r ∷ rs) w zero l m h = rw m
first_at (r ∷ rs) w (suc k) l m h = rw (h 0 (omega arith)) (first_at rs w k (omega arith) m (λ j p. h (suc j) (omega arith)))

pub first_none : (rules : List Rule) (w : List ℕ) → ((j : ℕ) → j < length rules → matches (rule_at rules j) w ≡ false)
    → first_match rules w ≡ none
unfolding first_match
first_none [] w h = refl
first_none (r ∷ rs) w h = rw (h 0 (omega arith)) (first_none rs w (λ j p. h (suc j) (omega arith)))

-- ---- no rule that a book may hold matches the empty text

pub nothing_empty : (n : ℕ) (rules : List Rule) → All (Sound n) rules → first_match rules [] ≡ none
unfolding first_match matches walk
nothing_empty n [] h = refl
nothing_empty n (r ∷ rs) (s, h) = rw (s.nonempty, nothing_empty n rs h)
