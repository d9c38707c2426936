-- The tables join the five rules: one test, computed over all states and classes, and the law of the classes make it hold of every
-- byte. Assumes nothing.
use mathlib.Core.Path.{◌≡◌, refl, sym, ◌∙◌, ap}
use mathlib.Core.Bool.{Bool, true, false, ◌&&◌}
use mathlib.Core.Option.{Option, none, some}
use mathlib.Core.List.{List, [], ◌∷◌}
use Prim.Native.Nat.{ℕ, ◌+◌, ◌*◌, ◌/◌, ◌%◌, ◌<◌, ◌≤◌}
use native.Mathlib.Omega.{arith}
use lib.Dec.{leb, ltb, eqb}
use lib.ListN.{length, get_or}
use borrow.Author.Tests.{eqb-true, ltb-true, le-leb, lt-leb}
use Rattle.automaton.specs.Choice.{if, All}
use Rattle.automaton.specs.Rule.{Rule, step, target, walk}
use Rattle.automaton.proofs.Tests.{and_true, clash}
use Rattle.builtin.specs.Book.{builtin_rules, timestamp, word, blanks, newline, bracket}
use Rattle.builtin.specs.Classes.{class_at}
use Rattle.builtin.specs.Layers.{State, dead, start, accepting, state_table, states_of, next_table, next_state, tag_table, tag_at}
use Rattle.builtin.specs.Layers.{mask_table, mask_of_state}
use Rattle.builtin.proofs.Tests.{entries, entry}
use Rattle.builtin.proofs.Alike.{class_bytes, byte_of, class_below, by_class}
use Rattle.builtin.proofs.Product.{walks, steps, first_final, final_mask, tagged, Joins}

-- ---- equal lists and options, as tests

abbrev same_list : List ℕ → List ℕ → Bool
same_list [] [] = true
same_list [] (y ∷ ys) = false
same_list (x ∷ xs) [] = false
same_list (x ∷ xs) (y ∷ ys) = eqb x y && same_list xs ys

same_list_lem : (xs ys : List ℕ) → same_list xs ys ≡ true → xs ≡ ys
same_list_lem [] [] e = refl
same_list_lem [] (y ∷ ys) e = clash e refl
same_list_lem (x ∷ xs) [] e = clash e refl
same_list_lem (x ∷ xs) (y ∷ ys) e =
    let p = and_true (eqb x y) (same_list xs ys) e in
    rw (eqb-true x y p.0, same_list_lem xs ys p.1)

abbrev same_option : Option ℕ → Option ℕ → Bool
same_option none none = true
same_option none (some y) = false
same_option (some x) none = false
same_option (some x) (some y) = eqb x y

same_option_lem : (x y : Option ℕ) → same_option x y ≡ true → x ≡ y
same_option_lem none none e = refl
same_option_lem none (some y) e = clash e refl
same_option_lem (some x) none e = clash e refl
same_option_lem (some x) (some y) e = ap some (eqb-true x y e)

-- ---- the test

abbrev state_test : ℕ → Bool
state_test s = ltb s 256 && eqb (s % 16) 0

is_state : (s : ℕ) → state_test s ≡ true → State s
is_state s e = let p = and_true (ltb s 256) _ e in record { below = ltb-true _ _ p.0; row = eqb-true _ _ p.1 }

-- at state s, which stands for qs, and class c, whose byte is b: the next state is one, and stands for where the rules go
abbrev leads : ℕ → List ℕ → ℕ → ℕ → Bool
leads s qs c b = state_test (get_or next_table (s + c) 0) && same_list (states_of (get_or next_table (s + c) 0)) (steps builtin_rules qs b)

-- the tag is that of the earliest rule that matches here, and there is one just from `accepting` on
abbrev tells : ℕ → List ℕ → Bool
tells s qs = same_option (first_final builtin_rules qs) (tagged (tag_at s)) && if (leb accepting s) (ltb 0 (tag_at s)) (eqb (tag_at s) 0)

-- the mask is that of all rules that match here
abbrev agrees : ℕ → List ℕ → Bool
agrees s qs = eqb (mask_of_state s) (final_mask builtin_rules qs)

abbrev right : ℕ → List ℕ → Bool
right s qs = tells s qs && (agrees s qs && entries (leads s qs) 0 class_bytes)

-- at every state, counted by rows
test : entries (λ k qs. right (k * 16) qs) 0 state_table ≡ true
unfolding state_table next_table tag_table mask_table class_bytes target builtin_rules timestamp word blanks newline bracket
test = refl

count : length state_table ≡ 16
unfolding state_table
count = refl

module _ (s : ℕ) (l : State s) where
  holds : right s (states_of s) ≡ true
  holds =
      let q : s / 16 * 16 ≡ s = omega (arith, l.row) in
      rw q at (entry (λ k qs. right (k * 16) qs) [] state_table test (s / 16) (rw count (omega (arith, l.below))))

  told : (same_option (first_final builtin_rules (states_of s)) (tagged (tag_at s)) ≡ true)
      × (if (leb accepting s) (ltb 0 (tag_at s)) (eqb (tag_at s) 0) ≡ true)
  told = and_true _ _ (and_true (tells s (states_of s)) _ holds).0

  pub accepts : accepting ≤ s → 0 < tag_at s
  accepts h = ltb-true _ _ (rw (le-leb accepting s h) at told.1)

  pub passes : s < accepting → tag_at s ≡ 0
  passes h = eqb-true _ _ (rw (lt-leb accepting s h) at told.1)

  behind : (agrees s (states_of s) ≡ true) × (entries (leads s (states_of s)) 0 class_bytes ≡ true)
  behind = and_true _ _ (and_true (tells s (states_of s)) _ holds).1

  pub mask_is : mask_of_state s ≡ final_mask builtin_rules (states_of s)
  mask_is = eqb-true _ _ behind.0

  led : (b : ℕ) → b < 256 → (state_test (next_state s b) ≡ true)
      × (same_list (states_of (next_state s b)) (steps builtin_rules (states_of s) (byte_of (class_at b))) ≡ true)
  led b m = and_true _ _ (entry (leads s (states_of s)) 0 class_bytes behind.1 (class_at b) (class_below b m))

-- ---- every byte

steps_same : (rules : List Rule) (a b : ℕ) → All (λ (r : Rule). (s : ℕ) → step r s a ≡ step r s b) rules → (qs : List ℕ)
    → steps rules qs a ≡ steps rules qs b
steps_same [] a b h qs = refl
steps_same (r ∷ rs) a b h [] = refl
steps_same (r ∷ rs) a b (e, h) (q ∷ qs) = rw (e q, steps_same rs a b h qs)

dies : (b : ℕ) → steps builtin_rules (states_of dead) b ≡ states_of dead
unfolding state_table target builtin_rules timestamp word blanks newline bracket
dies b = refl

begins : states_of start ≡ walks builtin_rules []
unfolding state_table walk builtin_rules timestamp word blanks newline bracket
begins = refl

untagged : tag_at dead ≡ 0
unfolding tag_table
untagged = refl

pub joined : Joins builtin_rules State states_of next_state tag_at start dead
joined = record {
  start_state = is_state start refl;
  starts = begins;
  next_state_lem = λ s b l m. is_state _ (led s l b m).0;
  moves = λ s b l m. same_list_lem _ _ (led s l b m).1 ∙ sym (steps_same builtin_rules b (byte_of (class_at b)) (by_class b m) (states_of s));
  tags = λ s l. same_option_lem _ _ (told s l).0;
  dead_state = is_state dead refl;
  untagged = untagged;
  stays = dies;
}
