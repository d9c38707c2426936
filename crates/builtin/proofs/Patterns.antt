-- The rules of the built-in book match just the texts of its patterns. Assumes nothing.
use mathlib.Core.Path.{◌≡◌, refl, sym, ◌∙◌, ap}
use mathlib.Core.Bool.{Bool, true, false, ◌&&◌, ◌||◌, and-true, or-true, or-false}
use mathlib.Core.List.{List, [], ◌∷◌}
use Prim.Native.Nat.{ℕ, suc, ◌≤◌}
use native.Mathlib.Omega.{arith}
use lib.Dec.{leb, eqb}
use borrow.Author.Tests.{eqb-true, eqb-false, eq-eqb, ne_eqb, leb-true, leb-false, le-leb, lt-leb}
use Rattle.automaton.specs.Choice.{if, any, among}
use Rattle.automaton.specs.Rule.{Transition, Rule, target, step, walk, matches}
use Rattle.automaton.proofs.Walks.{target_stays}
use Rattle.builtin.specs.Book.{builtin_rules, timestamp, word, blanks, newline, bracket}
use Rattle.builtin.specs.Classes.{within}
use Rattle.builtin.specs.Patterns.{spells, one_or_more, byte, bracket_byte, word_byte, blank_byte, timestamp_sets}
use Rattle.builtin.specs.Patterns.{patterns, Says, Pairwise, BuiltinPatterns}
use Rattle.builtin.proofs.Accepted.{read_builtin}

-- ---- two shapes of rules: a chain and a loop

-- the bytes of f lead from s to q, all others to the error state
abbrev Leads : Rule → ℕ → (ℕ → Bool) → ℕ → Type 0
Leads r s f q = (b : ℕ) → step r s b ≡ if (f b) q r.error

-- from s on each set leads to the next state; only the last state is final, and no byte leads on from it
infixr 67 ◌▸◌
data Chain (r : Rule) : ℕ → List (ℕ → Bool) → Type 0 where
  end : {s : ℕ} → among s r.finals ≡ true → Leads r s (λ b. false) s → Chain r s []
  ◌▸◌ : {s : ℕ} {f : ℕ → Bool} {fs : List (ℕ → Bool)} → (among s r.finals ≡ false) × Leads r s f (suc s) → Chain r (suc s) fs
      → Chain r s (f ∷ fs)

module _ (r : Rule) (stays : any (λ (t : Transition). eqb t.from r.error) r.transitions ≡ false)
    (fails : among r.error r.finals ≡ false) where
  -- the walk over w from s ends in a final state
  abbrev accepts : ℕ → List ℕ → Bool
  accepts s w = among (walk r s w) r.finals

  error_rejects : (w : List ℕ) → accepts r.error w ≡ false
  unfolding walk
  error_rejects [] = fails
  error_rejects (b ∷ w) = rw (target_stays r.error b r.transitions stays) (error_rejects w)

  accepts_more : (s q b : ℕ) (w : List ℕ) (x : Bool) → step r s b ≡ if x q r.error → accepts s (b ∷ w) ≡ x && accepts q w
  unfolding walk
  accepts_more s q b w true e = rw e
  accepts_more s q b w false e = rw e (error_rejects w)

  chain_spells : {s : ℕ} {fs : List (ℕ → Bool)} → Chain r s fs → (w : List ℕ) → accepts s w ≡ spells fs w
  unfolding walk spells
  chain_spells (end e l) [] = e
  chain_spells {s} (end e l) (b ∷ w) = accepts_more s s b w false (l b)
  chain_spells ((e, l) ▸ h) [] = e
  chain_spells {s} {fs = f ∷ fs} ((e, l) ▸ h) (b ∷ w) = accepts_more s (suc s) b w (f b) (l b) ∙ ap (f b &&◌) (chain_spells h w)

  -- f leads from q, which is final, back to q
  module _ (f : ℕ → Bool) (q : ℕ) (final : among q r.finals ≡ true) (again : Leads r q f q) where
    loop-more : (s b : ℕ) (w : List ℕ) → Leads r s f q → accepts s (b ∷ w) ≡ one_or_more f (b ∷ w)
    unfolding walk one_or_more
    loop-more s b [] l = accepts_more s q b [] (f b) (l b) ∙ rw (final, and-true)
    loop-more s b (c ∷ w) l = accepts_more s q b (c ∷ w) (f b) (l b) ∙ ap (f b &&◌) (loop-more q c w again)

    loop-repeats : (s : ℕ) → among s r.finals ≡ false → Leads r s f q → (w : List ℕ) → accepts s w ≡ one_or_more f w
    unfolding walk one_or_more
    loop-repeats s e l [] = e
    loop-repeats s e l (b ∷ w) = loop-more s b w l

-- ---- sets of bytes

within-one : (c b : ℕ) → within c c b ≡ byte c b
within-one c b = go (leb c b) (leb b c) refl refl
  where
    go : (x y : Bool) → leb c b ≡ x → leb b c ≡ y → x && y ≡ byte c b
    go true true p q = sym (eq-eqb b c (omega (arith, leb-true c b p, leb-true b c q)))
    go true false p q = sym (ne_eqb b c (omega (arith, leb-false b c q)))
    go false y p q = sym (ne_eqb b c (omega (arith, leb-false c b p)))

-- two sets that lead to one state
either : (x y : Bool) (q error : ℕ) → if x q (if y q error) ≡ if (y || x) q error
either true y q error = rw or-true
either false y q error = rw or-false

-- 21 to 7E without the brackets is three ranges
word_ranges : (b : ℕ) → within 0x21 0x5A b || byte 0x5C b || within 0x5E 0x7E b || within 0x80 0xFF b ≡ word_byte b
word_ranges b = go (byte 0x5B b) (byte 0x5C b) (byte 0x5D b) (leb b 0x5A) refl refl refl refl
  where
    go : (x y z t : Bool) → byte 0x5B b ≡ x → byte 0x5C b ≡ y → byte 0x5D b ≡ z → leb b 0x5A ≡ t
        → within 0x21 0x5A b || byte 0x5C b || within 0x5E 0x7E b || within 0x80 0xFF b ≡ word_byte b
    go true y z t p q r o = rw (eqb-true b 0x5B p)
    go false true z t p q r o = rw (eqb-true b 0x5C q)
    go false false true t p q r o = rw (eqb-true b 0x5D r)
    go false false false true p q r o =
        let l : b ≤ 0x5A = leb-true b 0x5A o in
        simp (p, q, r, o, lt-leb 0x5E b (omega arith), le-leb b 0x7E (omega arith), or-false, and-true)
    go false false false false p q r o =
        let l : 0x5E ≤ b = omega (arith, eqb-false b 0x5B p, eqb-false b 0x5C q, eqb-false b 0x5D r, leb-false b 0x5A o) in
        simp (p, q, r, o, le-leb 0x5E b l, le-leb 0x21 b (omega arith), and-true)

-- ---- the five rules

timestamp_texts : (w : List ℕ) → matches timestamp w ≡ spells timestamp_sets w
unfolding matches target timestamp
timestamp_texts =
    chain_spells timestamp refl refl
    ((refl, λ b. rw within-one) ▸ (refl, λ b. refl) ▸ (refl, λ b. refl) ▸ (refl, λ b. rw within-one) ▸ (refl, λ b. refl) ▸
    (refl, λ b. refl) ▸ (refl, λ b. rw within-one) ▸ (refl, λ b. refl) ▸ (refl, λ b. refl) ▸ (refl, λ b. rw within-one) ▸
    end refl (λ b. refl))

word_texts : (w : List ℕ) → matches word w ≡ one_or_more word_byte w
unfolding matches target word
word_texts =
    loop-repeats word refl refl word_byte 1 refl (λ b. simp (within-one, either, word_ranges))
    0 refl (λ b. simp (within-one, either, word_ranges))

blanks_texts : (w : List ℕ) → matches blanks w ≡ one_or_more blank_byte w
unfolding matches target blanks
blanks_texts =
    loop-repeats blanks refl refl blank_byte 1 refl (λ b. simp (within-one, either)) 0 refl (λ b. simp (within-one, either))

newline_texts : (w : List ℕ) → matches newline w ≡ spells (byte 0x0A ∷ []) w
unfolding matches target newline
newline_texts = chain_spells newline refl refl ((refl, λ b. rw within-one) ▸ end refl (λ b. refl))

bracket_texts : (w : List ℕ) → matches bracket w ≡ spells (bracket_byte ∷ []) w
unfolding matches target bracket
bracket_texts = chain_spells bracket refl refl ((refl, λ b. simp (within-one, either)) ▸ end refl (λ b. refl))

rules_say : Pairwise Says patterns builtin_rules
unfolding patterns builtin_rules timestamp word blanks newline bracket
rules_say = (
  record { tag = refl; kind = refl; texts = timestamp_texts },
  (
    record { tag = refl; kind = refl; texts = word_texts },
    (
      record { tag = refl; kind = refl; texts = blanks_texts },
      (
        record { tag = refl; kind = refl; texts = newline_texts },
        (record { tag = refl; kind = refl; texts = bracket_texts }, tt),
      ),
    ),
  ),
)

pub builtin_patterns : BuiltinPatterns
builtin_patterns = (read_builtin, rules_say)
