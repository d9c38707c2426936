-- The bytes of transitions while they are marked. Assumes nothing.
use mathlib.Core.Path.{◌≡◌, refl, ◌∙◌}
use mathlib.Core.Bool.{Bool, true, false, ◌||◌}
use mathlib.Core.List.{List, [], ◌∷◌}
use Prim.Native.Nat.{ℕ, ◌<◌}
use lib.ListN.{length, get_or}
use Rattle.automaton.specs.Choice.{any}
use Rattle.automaton.specs.Rule.{Transition, covers}
use Rattle.automaton.proofs.Tests.{or_true}
use Rattle.byte_set.specs.Layers.{Ranged}
use Rattle.used_bytes.specs.Layers.{MarksAll}

pub or_swap : (a b c : Bool) → b || (a || c) ≡ (a || b) || c
or_swap true b c = or_true b
or_swap false b c = refl

-- the transitions left and the marks together cover what all of them and the old marks do
pub record Together (ts : List Transition) (before : List Bool) (left : List Transition) (set : List Bool) : Type 0 where
  pub size : length set ≡ 256
  pub marks : (b : ℕ) → b < 256 → any (λ (t : Transition). covers t b) left || get_or set b false
      ≡ any (λ (t : Transition). covers t b) ts || get_or before b false

pub together_start : (ts : List Transition) {set : List Bool} → length set ≡ 256 → Together ts set ts set
together_start ts z = record { size = z; marks = λ b l. refl }

module _ {ts : List Transition} {before : List Bool} {t : Transition} {us : List Transition} {set : List Bool} where
  pub together_next : Together ts before (t ∷ us) set → {low high : ℕ} → low ≡ t.low → high ≡ t.high
      → {set₁ : List Bool} → Ranged low high set set₁ → Together ts before us set₁
  together_next w p q m =
      record {
        size = m.size;
        marks = λ b l. rw (m.marks b, p, q)
            (or_swap (covers t b) (any (λ (u : Transition). covers u b) us) (get_or set b false) ∙ w.marks b l);
      }

pub together_end : {ts : List Transition} {before set : List Bool} → Together ts before [] set → MarksAll ts before set
together_end w = record { size = w.size; marks = w.marks }
