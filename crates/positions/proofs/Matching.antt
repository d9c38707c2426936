-- Sets of positions match just what the expression matches. Assumes nothing.
use mathlib.Core.Path.{◌≡◌, refl}
use mathlib.Core.Bool.{Bool, true, ◌&&◌, ◌||◌}
use mathlib.Core.Logic.{◌⊎◌, inl, inr}
use mathlib.Core.List.{List, [], ◌∷◌}
use Prim.Native.Nat.{ℕ, zero, suc, ◌<◌}
use native.Mathlib.Nat.{eq-or-lt_of_le}
use native.Mathlib.Omega.{arith}
use Rattle.automaton.proofs.Tests.{clash, or_true, and_true}
use Rattle.expression.specs.Expression.{Expression, Matches}
use Rattle.positions.specs.Positions.{size, takes_at, first, last, follows}
use Rattle.positions.specs.Sets.{any_below, ahead, taking, ends_from, matches_by_sets}
use Rattle.positions.proofs.Bounds.{takes_below}
use Rattle.positions.proofs.Splits.{or_cases, empty_nullable, nullable_empty}
use Rattle.positions.proofs.Rests.{Rest, rest-last, last_rest}
use Rattle.positions.proofs.Following.{Goes, match_first, first_match_lem, rest-follows, follows-rest}

-- ---- a position below a bound that passes a test

pub record Passing (n : ℕ) (test : ℕ → Bool) : Type 0 where
  pub place : ℕ
  pub below : place < n
  pub passes : test place ≡ true

pub any_passing : (n : ℕ) (test : ℕ → Bool) → any_below n test ≡ true → Passing n test
unfolding any_below
any_passing zero test h = clash h refl
any_passing (suc n) test h = go (any_passing n test) (or_cases (any_below n test) (test n) h)
  where
    go : (any_below n test ≡ true → Passing n test) → (any_below n test ≡ true) ⊎ (test n ≡ true) → Passing (suc n) test
    go ih (inl k) = let s = ih k in record { place = s.place; below = omega arith; passes = s.passes }
    go ih (inr k) = record { place = n; below = omega arith; passes = k }

pub passing_any : (n : ℕ) (test : ℕ → Bool) (p : ℕ) → p < n → test p ≡ true → any_below n test ≡ true
unfolding any_below
passing_any zero test p l h = absurd (omega arith)
passing_any (suc n) test p l h = go (λ k. passing_any n test p k h) (eq-or-lt_of_le (omega arith))
  where
    go : (p < n → any_below n test ≡ true) → (p ≡ n) ⊎ (p < n) → any_below n test || test n ≡ true
    go ih (inl e) = rw (rw e at h) (or_true (any_below n test))
    go ih (inr k) = rw (ih k)

-- ---- from a set

-- the string can follow a position of the set
record Ends (e : Expression) (set : ℕ → Bool) (w : List ℕ) : Type 0 where
  place : ℕ
  below : place < size e
  within : set place ≡ true
  rest : Rest e place w

ends-from : (e : Expression) (w : List ℕ) (set : ℕ → Bool) → Ends e set w → ends_from e set w ≡ true
unfolding ends_from
ends-from e [] set s = passing_any (size e) (λ p. set p && last e p) s.place s.below (rw s.within (rest-last e s.place s.rest))
ends-from e (b ∷ w) set s = ends-from e w (taking e b (ahead e set)) (go (rest-follows e s.place b w s.rest))
  where
    go : Goes e (follows e s.place) b w → Ends e (taking e b (ahead e set)) w
    go g = record {
      place = g.next;
      below = takes_below b e g.next g.takes;
      within = rw (passing_any (size e) (λ p. set p && follows e p g.next) s.place s.below (rw s.within g.fits)) g.takes;
      rest = g.after;
    }

from-ends : (e : Expression) (w : List ℕ) (set : ℕ → Bool) → ends_from e set w ≡ true → Ends e set w
unfolding ends_from
from-ends e [] set h =
    let s = any_passing (size e) (λ p. set p && last e p) h in
    let k = and_true (set s.place) (last e s.place) s.passes in
    record { place = s.place; below = s.below; within = k.0; rest = last_rest e s.place k.1 }
from-ends e (b ∷ w) set h = go (from-ends e w (taking e b (ahead e set)) h)
  where
    go : Ends e (taking e b (ahead e set)) w → Ends e set (b ∷ w)
    go s =
        let q = s.place in
        let k = and_true (ahead e set q) (takes_at e b q) s.within in
        let a = any_passing (size e) (λ p. set p && follows e p q) k.0 in
        let l = and_true (set a.place) (follows e a.place q) a.passes in
        record {
          place = a.place;
          below = a.below;
          within = l.0;
          rest = follows-rest e a.place b w (record { next = q; fits = l.1; takes = k.1; after = s.rest });
        }

-- ---- the whole string

pub sets_match : (e : Expression) (w : List ℕ) → Matches e w → matches_by_sets e w ≡ true
unfolding matches_by_sets
sets_match e [] m = empty_nullable e m
sets_match e (b ∷ w) m = ends-from e w (taking e b (first e)) (go (match_first e b w m))
  where
    go : Goes e (first e) b w → Ends e (taking e b (first e)) w
    go g = record { place = g.next; below = takes_below b e g.next g.takes; within = rw g.fits g.takes; rest = g.after }

pub match_sets : (e : Expression) (w : List ℕ) → matches_by_sets e w ≡ true → Matches e w
unfolding matches_by_sets
match_sets e [] h = nullable_empty e h
match_sets e (b ∷ w) h =
    let s = from-ends e w (taking e b (first e)) h in
    let k = and_true (first e s.place) (takes_at e b s.place) s.within in
    first_match_lem e b w (record { next = s.place; fits = k.0; takes = k.1; after = s.rest })
