-- Adding a set to the sets of some bytes. Assumes nothing.
use mathlib.Core.Path.{◌≡◌, refl, sym, ap, ap₂, ◌∙◌}
use mathlib.Core.Bool.{Bool, true, false, ◌||◌}
use mathlib.Core.List.{List}
use Prim.Native.Nat.{ℕ, zero, suc, ◌+◌, ◌*◌, ◌/◌, ◌%◌, ◌<◌, max}
use native.Mathlib.Nat.{mod-lt}
use native.Mathlib.Omega.{arith}
use lib.Arith.{bin_ind}
use lib.Bits.{bit_or, or_step, or_self, or_shr, or_mod}
use lib.Dec.{eqb}
use lib.ListN.{length, get_or, set}
use lib.Seq.{get_or-set_same, get_or-set_other}
use borrow.Author.Tests.{eqb-true, eq-eqb}
use Rattle.automaton.specs.Choice.{if}
use Rattle.automaton.proofs.Tests.{clash}
use Rattle.position_reader.specs.Steps.{Marked}

-- ---- the same set twice

digit : (d e : ℕ) → d < 2 → e < 2 → max (bit_or d e) e ≡ max d e
digit zero zero p q = refl
digit zero (suc zero) p q = refl
digit (suc zero) zero p q = refl
digit (suc zero) (suc zero) p q = refl
digit zero (suc (suc e)) p q = absurd (omega arith)
digit (suc zero) (suc (suc e)) p q = absurd (omega arith)
digit (suc (suc d)) e p q = absurd (omega arith)

or_again : (a s : ℕ) → bit_or (bit_or a s) s ≡ bit_or a s
or_again =
    bin_ind (λ (n : ℕ). (s : ℕ) → bit_or (bit_or n s) s ≡ bit_or n s) or_self
    (λ n ih s. or_step (bit_or n s) s
    ∙ ap₂ (λ (x y : ℕ). x * 2 + y) (ap (λ (x : ℕ). bit_or x (s / 2)) (or_shr n s 1) ∙ ih (s / 2))
    (ap (λ (x : ℕ). max x (s % 2)) (or_mod n s 1) ∙ digit (n % 2) (s % 2) (mod-lt n (omega arith)) (mod-lt s (omega arith)))
    ∙ sym (or_step n s))

-- ---- tests

pub or_assoc : (x y z : Bool) → (x || y) || z ≡ x || (y || z)
or_assoc true y z = refl
or_assoc false y z = refl

-- two tests that pass together are the same
pub same_test : (x y : Bool) → (x ≡ true → y ≡ true) → (y ≡ true → x ≡ true) → x ≡ y
same_test true y f g = sym (f refl)
same_test false true f g = g refl
same_test false false f g = refl

-- ---- marks

pub marked_none : {s : ℕ} {t : List ℕ} (f : ℕ → Bool) → ((b : ℕ) → f b ≡ false) → Marked f s t t
marked_none f h = record { marked = λ b l. rw (h b) }

pub marked_same : {f g : ℕ → Bool} {s : ℕ} {t t' : List ℕ} → Marked f s t t' → ((b : ℕ) → b < 256 → f b ≡ g b) → Marked g s t t'
marked_same m h = record { marked = λ b l. rw (← h b l) (m.marked b l) }

-- one after the other
pub marked_or : {f g : ℕ → Bool} {s : ℕ} {t t' t'' : List ℕ} → Marked f s t t' → Marked g s t' t'' → Marked (λ b. f b || g b) s t t''
marked_or {f} {g} {s} {t} m k =
    record { marked = λ b l. k.marked b l ∙ rw (m.marked b l) (go (f b) (g b) (get_or t b 0)) }
  where
    go : (x y : Bool) (a : ℕ) → if y (bit_or (if x (bit_or a s) a) s) (if x (bit_or a s) a) ≡ if (x || y) (bit_or a s) a
    go true true a = or_again a s
    go true false a = refl
    go false true a = refl
    go false false a = refl

-- one byte
pub marked_one : {s b : ℕ} (t t' : List ℕ) → length t ≡ 256 → b < 256 → t' ≡ set t b (bit_or (get_or t b 0) s) → Marked (eqb b) s t t'
marked_one {s} {b} t t' full l e =
    record { marked = λ x h. ap (λ (u : List ℕ). get_or u x 0) e ∙ go x (eqb b x) refl }
  where
    go : (x : ℕ) (c : Bool) → eqb b x ≡ c → get_or (set t b (bit_or (get_or t b 0) s)) x 0 ≡ if c (bit_or (get_or t x 0) s) (get_or t x 0)
    go x true q = rw (sym (eqb-true b x q)) (get_or-set_same t b (bit_or (get_or t b 0) s) 0 (omega arith))
    go x false q = get_or-set_other t b x _ 0 (λ z. clash (eq-eqb b x (sym z)) q)
