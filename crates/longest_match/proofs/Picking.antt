-- From the longest prefix of each rule to the choice among them. Assumes nothing.
use mathlib.Core.Path.{◌≡◌, refl, sym, ◌∙◌, subst}
use mathlib.Core.Logic.{inl, inr}
use mathlib.Core.Bool.{Bool, true, false}
use mathlib.Core.Option.{none, some}
use mathlib.Core.List.{List, [], ◌∷◌}
use Prim.Native.Nat.{ℕ, zero, suc, ◌+◌, ◌<◌, ◌≤◌}
use native.Mathlib.Nat.{le-suc_iff}
use native.Mathlib.Omega.{arith}
use lib.ListN.{length, get_or, set, take, length-map, get_or-map}
use lib.Seq.{get_or-set_same, get_or-set_other, ext_get_or}
use borrow.Author.Count.{below_more}
use Rattle.automaton.specs.Choice.{if}
use Rattle.automaton.specs.Rule.{Rule, matches, longest_within, longest}
use Rattle.automaton.specs.Layers.{blank, rule_at}
use Rattle.longest_match.specs.Lexer.{first_match, choose_within, choose}
use Rattle.longest_match.specs.Steps.{prefixes, greatest, first_with, token_of, choose_by_steps}
use Rattle.longest_match.specs.Layers.{front, Chooses}
use Rattle.longest_match.proofs.First.{first_at, first_none}
use Rattle.longest_match.proofs.Lengths.{First, greatest_most, greatest_least, first-greatest, first_zero}

-- ---- the longest prefix of one rule

module _ (r : Rule) (text : List ℕ) where
  longest-le : (n : ℕ) → longest_within r text n ≤ n
  unfolding longest_within
  longest-le zero = omega arith
  longest-le (suc n) = go (matches r (take (suc n) text)) (longest-le n)
    where
      go : (m : Bool) → longest_within r text n ≤ n → if m (suc n) (longest_within r text n) ≤ suc n
      go true h = omega arith
      go false h = omega arith

  pub longest-matches : (n : ℕ) → 0 < longest_within r text n → matches r (take (longest_within r text n) text) ≡ true
  unfolding longest_within
  longest-matches zero p = absurd (omega arith)
  longest-matches (suc n) p = go (matches r (take (suc n) text)) refl (longest-matches n) p
    where
      go : (m : Bool) → matches r (take (suc n) text) ≡ m
          → (0 < longest_within r text n → matches r (take (longest_within r text n) text) ≡ true)
          → 0 < if m (suc n) (longest_within r text n) → matches r (take (if m (suc n) (longest_within r text n)) text) ≡ true
      go true e ih q = e
      go false e ih q = ih q

  -- nothing longer is matched
  pub longest_most : (n m : ℕ) → longest_within r text n < m → m ≤ n → matches r (take m text) ≡ false
  unfolding longest_within
  longest_most zero m p l = absurd (omega arith)
  longest_most (suc n) m p l = go (matches r (take (suc n) text)) refl (longest_most n m) p
    where
      go : (b : Bool) → matches r (take (suc n) text) ≡ b → (longest_within r text n < m → m ≤ n → matches r (take m text) ≡ false)
          → if b (suc n) (longest_within r text n) < m → matches r (take m text) ≡ false
      go true e ih q = absurd (omega arith)
      go false e ih q = elim (le-suc_iff.0 l) [ inl h ↦ ih q h | inr h ↦ rw h e ]

-- ---- `choose` is settled by what the rules match

module _ (rules : List Rule) (text : List ℕ) where
  pub within_none : (n : ℕ) → ((m : ℕ) → 0 < m → m ≤ n → first_match rules (take m text) ≡ none) → choose_within rules text n ≡ none
  unfolding choose_within
  within_none zero h = refl
  within_none (suc n) h = rw (h (suc n) (omega arith) (omega arith)) (within_none n (λ m p l. h m p (omega arith)))

  pub within_at : (n len tag : ℕ) → 0 < len → len ≤ n → first_match rules (take len text) ≡ some tag
      → ((m : ℕ) → len < m → m ≤ n → first_match rules (take m text) ≡ none) → choose_within rules text n ≡ some (front tag len text)
  unfolding choose_within
  within_at zero len tag p l e h = absurd (omega arith)
  within_at (suc n) len tag p l e h = elim (le-suc_iff.0 l) [
    | inl q ↦ rw (h (suc n) (omega arith) (omega arith)) (within_at n len tag p q e (λ m a b. h m a (omega arith)))
    | inr q ↦ rw (← q, e)
  ]

-- ---- the steps

module _ (text : List ℕ) where
  pub prefixes-length : (rules : List Rule) → length (prefixes rules text) ≡ length rules
  prefixes-length rules = length-map rules _

  pub prefixes_at : (rules : List Rule) (k : ℕ) → k < length rules → get_or (prefixes rules text) k 0 ≡ longest (rule_at rules k) text
  prefixes_at [] k l = absurd (omega arith)
  prefixes_at (r ∷ rs) zero l = refl
  prefixes_at (r ∷ rs) (suc k) l = prefixes_at rs k (omega arith)

-- the lengths of the first n rules are filled in
pub record Prefixed (rules : List Rule) (text lengths : List ℕ) (n : ℕ) : Type 0 where
  pub each : (j : ℕ) → j < n → get_or lengths j 0 ≡ longest (rule_at rules j) text

pub prefixed_none : (rules : List Rule) (text lengths : List ℕ) → Prefixed rules text lengths 0
prefixed_none rules text lengths = record { each = λ j l. absurd (omega arith) }

module _ {rules : List Rule} {text lengths : List ℕ} {n : ℕ} (p : Prefixed rules text lengths n) where
  pub prefixed_next : {len : ℕ} → n < length lengths → len ≡ longest (rule_at rules n) text → Prefixed rules text (set lengths n len) (n + 1)
  prefixed_next {len} l e = record {
    each = below_more (λ j. get_or (set lengths n len) j 0 ≡ longest (rule_at rules j) text) n
        (λ j q. get_or-set_other lengths n j len 0 (λ z. omega arith) ∙ p.each j q) (get_or-set_same lengths n len 0 l ∙ e);
  }

  pub prefixed_all : length lengths ≡ length rules → length lengths ≤ n → lengths ≡ prefixes rules text
  prefixed_all many l = ext_get_or 0 lengths (prefixes rules text) (many ∙ sym (prefixes-length text rules))
      (λ i q. p.each i (omega arith) ∙ sym (prefixes_at text rules i (omega arith)))

module _ (rules : List Rule) (text : List ℕ) where
  -- what the second and the third step find
  abbrev len : ℕ
  len = greatest (prefixes rules text)

  abbrev rule : ℕ
  rule = first_with len (prefixes rules text)

  pub most : (k : ℕ) → k < length rules → longest (rule_at rules k) text ≤ len
  most k l = rw prefixes_at at (greatest_most (prefixes rules text) k (rw prefixes-length l))

  within : len ≤ length text
  within = greatest_least (prefixes rules text) (length text)
      (λ k l. rw (prefixes_at text rules k (rw prefixes-length at l)) (longest-le (rule_at rules k) text (length text)))

  here : 0 < len → First len (prefixes rules text) rule
  here p = first-greatest (prefixes rules text) p

  known : 0 < len → rule < length rules
  known p = rw prefixes-length at (here p).known

  matched : 0 < len → matches (rule_at rules rule) (take len text) ≡ true
  matched p =
      let e : longest (rule_at rules rule) text ≡ len = sym (prefixes_at text rules rule (known p)) ∙ (here p).here in
      subst (λ (n : ℕ). matches (rule_at rules rule) (take n text) ≡ true) e
      (longest-matches (rule_at rules rule) text (length text) (rw e p))

  no_longer : (m : ℕ) → len < m → m ≤ length text → first_match rules (take m text) ≡ none
  no_longer m p l = first_none rules (take m text) (λ j q. longest_most (rule_at rules j) text (length text) m (omega (arith, most j q)) l)

  not_earlier : 0 < len → (j : ℕ) → j < rule → matches (rule_at rules j) (take len text) ≡ false
  not_earlier p j q =
      let l : j < length rules = omega (arith, known p) in
      let e : longest (rule_at rules j) text ≡ len → ⊥ = λ z. (here p).earlier j q (prefixes_at text rules j l ∙ z) in
      longest_most (rule_at rules j) text (length text) len (omega (arith, most j l)) within

  pub steps-choose : Chooses rules text rule len
  unfolding choose
  steps-choose = record {
    within = within;
    nothing = λ z. within_none rules text (length text) (λ m p l. no_longer m (omega arith) l);
    idle = λ z. rw z (first_zero (prefixes rules text) z);
    known = known;
    matched = matched;
    earlier = not_earlier;
    chosen = λ p. within_at rules text (length text) len _ p within
        (first_at rules (take len text) rule (known p) (matched p) (not_earlier p)) no_longer;
  }

  -- the three steps joined are `choose`
  pub choose_by_steps_lem : choose rules text ≡ choose_by_steps rules text
  unfolding choose_by_steps
  choose_by_steps_lem = settled len steps-choose
    where
      settled : (n : ℕ) → Chooses rules text rule n → choose rules text ≡ token_of rules text rule n
      settled zero c = c.nothing refl
      settled (suc n) c = c.chosen (omega arith) ∙ rw (get_or-map (λ (r : Rule). r.tag) rules rule blank)
