-- A turn depends on no byte behind what its budget allows: texts that agree so far, and both go on, have the same turn. Assumes nothing.
use mathlib.Core.Path.{◌≡◌, refl, sym, ◌∙◌, ap}
use mathlib.Core.Option.{none, some}
use mathlib.Core.List.{List}
use Prim.Native.Nat.{ℕ, zero, suc, ◌+◌, ◌-◌, ◌<◌, ◌≤◌}
use native.Mathlib.Omega.{arith}
use lib.ListN.{length, take, drop, length-drop}
use lib.Seq.{take-take, length-take-le, ext_get_or}
use Rattle.automaton.specs.Choice.{All}
use Rattle.automaton.specs.Rule.{Rule, walk, longest_within, longest, Sound}
use Rattle.automaton.specs.Layers.{blank, rule_at}
use Rattle.automaton.proofs.Tests.{all_at}
use Rattle.automaton.proofs.Walks.{longest-done}
use Rattle.longest_match.specs.Lexer.{Found, choose}
use Rattle.longest_match.specs.Steps.{prefixes, greatest, first_with}
use Rattle.longest_match.specs.Layers.{front, Chooses}
use Rattle.longest_match.proofs.First.{nothing}
use Rattle.longest_match.proofs.Choosing.{chosen_drop}
use Rattle.longest_match.proofs.Far.{longest-part}
use Rattle.longest_match.proofs.Parts.{part-front, part_bytes}
use Rattle.longest_match.proofs.Picking.{prefixes-length, prefixes_at, steps-choose}
use Rattle.turns.specs.Reach.{all_fail, reach}
use Rattle.turns.specs.Turn.{Turn, turn}
use Rattle.turns.proofs.Reaching.{each_fails, fewest-past, reach-fewest, reach_is, reach-covers}
use Rattle.turns.proofs.Turning.{by_ways, turn-spent, turn-done, turn_more}

found_same : {f g : Found} → some f ≡ some g → f ≡ g
found_same e = cc

-- texts that agree in their first m bytes and both go on
pub record Agree (m : ℕ) (text other : List ℕ) : Type 0 where
  pub same : take m text ≡ take m other
  pub more : m < length text
  pub other_more : m < length other

module _ {m : ℕ} {text other : List ℕ} (a : Agree m text other) where
  fewer : (k : ℕ) → k ≤ m → take k text ≡ take k other
  fewer k l = sym (take-take k m text l) ∙ ap (take k) a.same ∙ take-take k m other l

  module _ (rules : List Rule) where
    fail_alike : (k : ℕ) → k ≤ m → all_fail rules (take k text) ≡ all_fail rules (take k other)
    fail_alike k l = ap (all_fail rules) (fewer k l)

    -- a reach that fits is the same in both, and one that does not fits in neither
    reach-alike : reach rules text ≤ m → reach rules other ≡ reach rules text
    reach-alike l =
        let f = reach-fewest rules text in
        let e = a.other_more in
        reach_is rules other (reach rules text) (record {
          within = omega arith;
          before = λ k q. sym (fail_alike k (omega arith)) ∙ f.before k q;
          here = λ q. sym (fail_alike (reach rules text) l) ∙ f.here (omega (arith, a.more));
        })

    reach-larger : m < reach rules text → m < reach rules other
    unfolding reach
    reach-larger l = fewest-past _ (length other) m a.other_more
        (λ k q. sym (fail_alike k q) ∙ (reach-fewest rules text).before k (omega arith))

    -- where it fits, the longest prefixes are the same
    module _ (n : ℕ) (sound : All (Sound n) rules) (l : reach rules text ≤ m) where
      stopped : (k : ℕ) → k < length rules
          → walk (rule_at rules k) (rule_at rules k).start (take (reach rules text) text) ≡ (rule_at rules k).error
      stopped k q = all_at (λ (r : Rule). walk r r.start (take (reach rules text) text) ≡ r.error) rules blank
          (each_fails rules (take (reach rules text) text) ((reach-fewest rules text).here (omega (arith, a.more)))) k q

      longest-alike : (k : ℕ) → k < length rules → longest (rule_at rules k) text ≡ longest (rule_at rules k) other
      longest-alike k q =
          let r = rule_at rules k in
          let s = all_at (Sound n) rules blank sound k q in
          let e : walk r r.start (take (reach rules text) other) ≡ r.error = rw (← (fewer (reach rules text) l)) (stopped k q) in
          let o = a.other_more in
          sym (longest-done r s text (reach rules text) (omega (arith, a.more)) (stopped k q))
          ∙ sym (longest-part r text m (reach rules text) l)
          ∙ ap (λ (x : List ℕ). longest_within r x (reach rules text)) a.same
          ∙ longest-part r other m (reach rules text) l
          ∙ longest-done r s other (reach rules text) (omega arith) e

      prefixes-alike : prefixes rules other ≡ prefixes rules text
      prefixes-alike = ext_get_or 0 (prefixes rules other) (prefixes rules text)
          (prefixes-length other rules ∙ sym (prefixes-length text rules))
          (λ i q.
          let k : i < length rules = rw (prefixes-length other rules) at q in
          prefixes_at other rules i k ∙ sym (longest-alike i k) ∙ sym (prefixes_at text rules i k))

      abbrev len : ℕ
      len = greatest (prefixes rules text)

      abbrev rule : ℕ
      rule = first_with len (prefixes rules text)

      here : Chooses rules text rule len
      here = steps-choose rules text

      there : Chooses rules other rule len
      there = rw prefixes-alike at (steps-choose rules other)

      -- the same token is chosen, or none
      none_alike : choose rules text ≡ none → choose rules other ≡ none
      none_alike e = go len refl
        where
          go : (k : ℕ) → len ≡ k → choose rules other ≡ none
          go zero q = there.nothing q
          go (suc k) q = nothing e (here.chosen (omega arith))

      some_alike : (f : Found) → choose rules text ≡ some f
          → choose rules other ≡ some (record { token = f.token; rest = drop (length f.token.bytes) other })
      some_alike f e = go len refl
        where
          go : (k : ℕ) → len ≡ k → choose rules other ≡ some (record { token = f.token; rest = drop (length f.token.bytes) other })
          go zero q = nothing (here.nothing q) e
          go (suc k) q =
              let p : 0 < len = omega arith in
              let same_found : f ≡ front (rule_at rules rule).tag len text = found_same (sym e ∙ here.chosen p) in
              let bytes : length (take len text) ≡ len = length-take-le len text here.within in
              let long = ap (λ (x : Found). length x.token.bytes) same_found in
              let covered : len ≤ m = omega (arith, reach-covers n rules sound text f e, long, bytes) in
              there.chosen p ∙ rw (same_found, bytes, fewer len covered)

-- ---- the turn

pub record Same (t u : Turn) : Type 0 where
  pub tokens : t.tokens ≡ u.tokens
  pub examined : t.examined ≡ u.examined
  pub finished : t.finished ≡ u.finished

-- behind a token they agree in what is left, if that is no more than the budget without the token's reach
behind-alike : (m : ℕ) (text other : List ℕ) (len paid : ℕ) → Agree m text other → len ≤ paid → paid ≤ m
    → Agree (m - paid) (drop len text) (drop len other)
behind-alike m text other len paid a l k =
    let p : m - paid < length text - len = omega (arith, a.more) in
    let q : m - paid < length other - len = omega (arith, a.other_more) in
    record {
      same =
          sym (part_bytes text len (m - paid)) ∙ part-front text len (len + (m - paid))
          ∙ ap (drop len) (fewer a (len + (m - paid)) (omega arith))
          ∙ sym (part-front other len (len + (m - paid))) ∙ part_bytes other len (m - paid);
      more = rw length-drop p;
      other_more = rw length-drop q;
    }

pub turn-alike : (n : ℕ) (rules : List Rule) → All (Sound n) rules → (text : List ℕ) (left : ℕ)
    → (other : List ℕ) → Agree left text other → Same (turn rules text left) (turn rules other left)
turn-alike n rules sound = by_ways rules (λ text left t. (other : List ℕ) → Agree left text other → Same t (turn rules other left))
    (λ text left l other a.
    let e = turn-spent rules other left (reach-larger a rules l) in
    record { tokens = rw e; examined = rw e; finished = rw e })
    (λ text left l c other a.
    let r = reach-alike a rules l in
    let e = turn-done rules other left (rw r l) (none_alike a rules n sound l c) in
    record { tokens = rw e; examined = rw (e, r); finished = rw e })
    (λ text left f l c t same other a.
    let r = reach-alike a rules l in
    let e = turn_more rules other left (rw r l) _ (some_alike a rules n sound l f c) in
    let b : Agree (left - reach rules text) f.rest (drop (length f.token.bytes) other) =
    rw (chosen_drop rules text f c)
    (behind-alike left text other (length f.token.bytes) (reach rules text) a (reach-covers n rules sound text f c) l) in
    let s = same (drop (length f.token.bytes) other) b in
    record {
      tokens = rw (e, r, s.tokens);
      examined = rw (e, r, s.examined);
      finished = rw (e, r, s.finished);
    })
