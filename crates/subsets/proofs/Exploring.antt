-- The loop of `explore`. Assumes nothing.
use mathlib.Core.Path.{◌≡◌, refl, sym, ap, subst, ◌∙◌}
use mathlib.Core.List.{List, [], ◌∷◌, ◌++◌, map, flatten, append_assoc, append-nil}
use Prim.Native.Nat.{ℕ, suc, ◌+◌, ◌*◌, ◌≤◌, ◌<◌}
use native.Mathlib.Numerals.{add-one}
use native.Mathlib.Omega.{arith}
use lib.ListN.{length, take}
use lib.Seq.{length-take-le}
use borrow.Author.Tests.{lt-ltb, le-ltb}
use Rattle.std.specs.Prelude.{Some, None}
use Rattle.subsets.specs.States.{sets_ahead, ahead_of, discover, states_after, states, number_of, row_of, rows_below}
use Rattle.subsets.specs.Layers.{Begins, Filled, Found, Explores}
use Rattle.subsets.proofs.Reaching.{begins_take, begins_length, discover_begins}
use Rattle.subsets.proofs.Reaching.{states_next, states-all, states-done, ahead_same}

flatten_more : (xs : List (List ℕ)) (row : List ℕ) → flatten (xs ++ (row ∷ [])) ≡ flatten xs ++ row
unfolding flatten
flatten_more [] row = append-nil row
flatten_more (x ∷ xs) row = ap (λ (l : List ℕ). x ++ l) (flatten_more xs row) ∙ sym (append_assoc x (flatten xs) row)

-- the first k states are gone through
pub record Exploring (first : ℕ) (follow takers sets targets : List ℕ) (count k : ℕ) : Type 0 where
  pub size : length sets ≡ 256
  pub room : length targets ≡ 65536
  pub turn : k ≤ count + 1
  pub few : count ≤ 254
  pub known : take count sets ≡ states_after first follow takers k
  pub written : take (256 * k) targets ≡ flatten (rows_below first follow takers k)

pub exploring_start : (first : ℕ) (follow takers sets targets : List ℕ) → length sets ≡ 256 → length targets ≡ 65536
    → Exploring first follow takers sets targets 0 0
unfolding states_after rows_below flatten
exploring_start first follow takers sets targets s t =
    record { size = s; room = t; turn = omega arith; few = omega arith; known = refl; written = refl }

module _ {first : ℕ} {follow takers sets targets : List ℕ} {count k : ℕ} (w : Exploring first follow takers sets targets count k) where
  long : length (take count sets) ≡ count
  long = length-take-le count sets (omega (arith, w.size, w.few))

  reached : length (states_after first follow takers k) ≡ count
  reached = sym (ap length w.known) ∙ long

  module _ (l : k ≤ count) {ahead : ℕ} (e : ahead ≡ ahead_of first follow sets k) where
    ahead_now : ahead ≡ ahead_of first follow (states_after first follow takers k) k
    ahead_now =
        e ∙ ahead_same first follow (begins_take count sets) k (omega (arith, long))
        ∙ ap (λ (known : List ℕ). ahead_of first follow known k) w.known

    ahead_always : ahead ≡ ahead_of first follow (states first follow takers) k
    ahead_always =
        ahead_now ∙ sym (ahead_same first follow (states-all first follow takers k (omega (arith, w.few))) k (omega (arith, reached)))

    discovers : discover (take count sets) (sets_ahead takers ahead) ≡ states_after first follow takers (k + 1)
    discovers =
        ap (λ (known : List ℕ). discover known (sets_ahead takers ahead)) w.known
        ∙ ap (λ (a : ℕ). discover (states_after first follow takers k) (sets_ahead takers a)) ahead_now
        ∙ sym (states_next first follow takers k (omega (arith, reached))) ∙ ap (states_after first follow takers) (sym (add-one k))

    all : Begins (states_after first follow takers (k + 1)) (states first follow takers)
    all = states-all first follow takers (k + 1) (omega (arith, w.few))

    pub exploring_next : {r : ℕ} {next row after : List ℕ} → length next ≡ 256 → length after ≡ 65536
        → Filled (sets_ahead takers ahead) sets count r next row → take (256 * (k + 1)) after ≡ take (256 * k) targets ++ row
        → Exploring first follow takers next after r (k + 1)
    unfolding rows_below row_of
    exploring_next {r} {next} {row} s n g t =
        let known : take r next ≡ states_after first follow takers (k + 1) = g.known ∙ discovers in
        let long_now : length (take r next) ≡ r = length-take-le r next (omega (arith, g.few)) in
        let more : count ≤ r =
        omega (arith, long, ap length g.known, begins_length (discover_begins (take count sets) (sets_ahead takers ahead))) in
        record {
          size = s;
          room = n;
          turn = omega arith;
          few = g.few;
          known = known;
          written =
              t ∙ ap (λ (x : List ℕ). x ++ row) w.written
              ∙ ap (λ (x : List ℕ). flatten (rows_below first follow takers k) ++ x)
              (g.written (states first follow takers) (subst (λ (x : List ℕ). Begins x (states first follow takers)) (sym known) all)
              ∙ ap (λ (a : ℕ). map (number_of (states first follow takers)) (sets_ahead takers a)) ahead_always)
              ∙ sym (flatten_more (rows_below first follow takers k) (row_of first follow takers k))
              ∙ ap (λ (m : ℕ). flatten (rows_below first follow takers m)) (sym (add-one k));
        }

    pub exploring_many : {next after : List ℕ} → 254 < length (discover (take count sets) (sets_ahead takers ahead))
        → Explores first follow takers None next after
    exploring_many b = record {
      found = λ n q. cc;
      many = λ q. lt-ltb 254 (length (states first follow takers)) (omega (arith, ap length discovers, begins_length all));
    }

  pub exploring_end : count < k → Explores first follow takers (Some count) sets targets
  exploring_end l =
      let done : states first follow takers ≡ states_after first follow takers k =
      states-done first follow takers k (omega (arith, w.turn, w.few)) (omega (arith, reached)) in
      let n : count ≡ length (states first follow takers) = sym (ap length done ∙ reached) in
      let last : k ≡ count + 1 = omega (arith, w.turn) in
      let found : Found first follow takers count sets targets = record {
        enough = le-ltb 254 (length (states first follow takers)) (omega (arith, w.few));
        count = n;
        known = w.known ∙ sym done;
        rows =
            ap (λ (m : ℕ). take (256 * m) targets) (sym last) ∙ w.written
            ∙ ap (λ (m : ℕ). flatten (rows_below first follow takers m)) (last ∙ add-one count ∙ ap suc n);
      } in
      record {
        found = λ m q. let e : count ≡ m = cc in subst (λ (i : ℕ). Found first follow takers i sets targets) e found;
        many = λ q. cc;
      }
