-- Bytes of one class lead each built-in rule to the same states: one test, computed over the class table. Assumes nothing.
use mathlib.Core.Path.{◌≡◌, refl, sym, ◌∙◌, ap}
use mathlib.Core.Bool.{Bool, true, false, ◌||◌}
use mathlib.Core.List.{List, [], ◌∷◌}
use mathlib.Core.Logic.{◌⊎◌, inl, inr}
use Prim.Native.Nat.{ℕ, zero, suc, ◌+◌, ◌<◌}
use native.Mathlib.Nat.{add-zero, zero-add, add-suc, suc-add}
use native.Mathlib.Omega.{arith}
use lib.Dec.{eqb, ltb}
use lib.ListN.{length, get_or}
use borrow.Author.Tests.{eqb-true, ltb-true}
use Rattle.automaton.specs.Choice.{All, any}
use Rattle.automaton.specs.Rule.{Transition, Rule, step, target}
use Rattle.automaton.proofs.Tests.{or_false, and_true, all_map}
use Rattle.builtin.specs.Book.{builtin_rules, timestamp, word, blanks, newline, bracket}
use Rattle.builtin.specs.Classes.{class_of, tabulate, class_table, class_at, MovedAlike}
use Rattle.builtin.proofs.Tests.{every, every-all, all_each, entries, entry}

-- ---- from every state

-- where nothing leaves s, every byte leads to the error state
target_free : (s b error : ℕ) (ts : List Transition) → any (λ (t : Transition). eqb t.from s) ts ≡ false → target ts s b error ≡ error
unfolding target
target_free s b error [] h = refl
target_free s b error (t ∷ ts) h = let p = or_false (eqb t.from s) _ h in rw p.0 (target_free s b error ts p.1)

-- a test at the states that transitions leave is one at every other state too
leaves : (f g : ℕ → ℕ) (ts : List Transition) → every (λ (t : Transition). eqb (f t.from) (g t.from)) ts ≡ true → (s : ℕ)
    → (f s ≡ g s) ⊎ (any (λ (t : Transition). eqb t.from s) ts ≡ false)
leaves f g [] h s = inr refl
leaves f g (t ∷ ts) h s =
    let p = and_true (eqb (f t.from) (g t.from)) _ h in
    go (eqb t.from s) refl (eqb-true _ _ p.0) (leaves f g ts p.1 s)
  where
    go : (e : Bool) → eqb t.from s ≡ e → f t.from ≡ g t.from → (f s ≡ g s) ⊎ (any (λ (u : Transition). eqb u.from s) ts ≡ false)
        → (f s ≡ g s) ⊎ (e || any (λ (u : Transition). eqb u.from s) ts ≡ false)
    go true e q ih = inl (rw (eqb-true t.from s e) at q)
    go false e q ih = ih

abbrev alike : ℕ → ℕ → Rule → Bool
alike a b r = every (λ (t : Transition). eqb (step r t.from a) (step r t.from b)) r.transitions

alike-step : (a b : ℕ) (r : Rule) → alike a b r ≡ true → (s : ℕ) → step r s a ≡ step r s b
alike-step a b r h s = elim (leaves (λ q. step r q a) (λ q. step r q b) r.transitions h s) [
  | inl e ↦ e
  | inr e ↦ target_free s a r.error r.transitions e ∙ sym (target_free s b r.error r.transitions e)
]

-- ---- by every byte

-- one byte of each class
unfoldable pub class_bytes : List ℕ
class_bytes = 0x00 ∷ 0x09 ∷ 0x0A ∷ 0x30 ∷ 0x5B ∷ 0x5D ∷ 0x3A ∷ 0x2E ∷ 0x21 ∷ []

abbrev pub byte_of : ℕ → ℕ
byte_of c = get_or class_bytes c 0

-- every built-in rule is moved by byte b, of class c, as by the byte of the class
test : entries (λ b c. every (alike b (byte_of c)) builtin_rules) 0 class_table ≡ true
unfolding tabulate class_table class_of class_bytes target builtin_rules timestamp word blanks newline bracket
test = refl

pub length_classes : length class_table ≡ 256
unfolding tabulate class_table
length_classes = refl

-- an entry is the class of document 01
tabulated : (f : ℕ → ℕ) (i n k : ℕ) → k < n → get_or (tabulate f i n) k 0 ≡ f (i + k)
unfolding tabulate
tabulated f i zero k l = absurd (omega arith)
tabulated f i (suc n) zero l = ap f (sym (add-zero i))
tabulated f i (suc n) (suc k) l = tabulated f (suc i) n k (omega arith) ∙ ap f (suc-add i k ∙ sym (add-suc i k))

pub class_is : (b : ℕ) → b < 256 → class_at b ≡ class_of b
unfolding class_table
class_is b l = tabulated class_of 0 256 b l ∙ ap class_of (zero-add b)

-- there are as many classes as bytes for them
few : entries (λ b c. ltb c (length class_bytes)) 0 class_table ≡ true
unfolding tabulate class_table class_of class_bytes
few = refl

pub class_below : (b : ℕ) → b < 256 → class_at b < length class_bytes
class_below b l = ltb-true _ _ (entry (λ a c. ltb c (length class_bytes)) 0 class_table few b (rw length_classes l))

-- so the byte of its class stands for every byte
pub by_class : (b : ℕ) → b < 256 → All (λ (r : Rule). (s : ℕ) → step r s b ≡ step r s (byte_of (class_at b))) builtin_rules
by_class b l =
    all_map _ _ (λ r h. alike-step b (byte_of (class_at b)) r h) builtin_rules
    (every-all (alike b (byte_of (class_at b))) builtin_rules (entry (λ a c. every (alike a (byte_of c)) builtin_rules) 0 class_table test b
    (rw length_classes l)))

pub moved-alike : MovedAlike
moved-alike = all_map _ _ (λ r h s a b l m e. h a l s ∙ ap (λ (c : ℕ). step r s (byte_of c)) e ∙ sym (h b m s))
    builtin_rules (all_each _ builtin_rules by_class)
