-- What the answer of loading says of the book, and of the table. Assumes nothing.
use Rattle.std.specs.Prelude.{Result, Ok, Err}
use mathlib.Core.Path.{◌≡◌, refl, sym, ◌∙◌}
use mathlib.Core.Bool.{Bool}
use mathlib.Core.List.{List}
use Prim.Native.Nat.{ℕ}
use native.Mathlib.Omega.{arith}
use Rattle.answer.specs.declared.Refusal.{Refusal}
use Rattle.automaton.specs.Rule.{Rule}
use Rattle.automaton.specs.Layers.{Holds, Held}
use Rattle.reader.specs.Reading.{Reading, accepted, refused, read_by, answer}
use Rattle.reader.specs.Layers.{LoadedBy}

-- ---- what an answer says of the reading

pub answer_accepted : (o : Reading) {n : ℕ} → Ok n ≡ answer o → (rules : List Rule) × (o ≡ accepted rules)
answer_accepted (accepted rules) e = (rules, refl)
answer_accepted (refused why place) e = let z : ◌≡◌ {A = ℕ} 0 1 = cc in absurd (omega arith)

pub answer_refused : (o : Reading) {f : Refusal} → Err f ≡ answer o → o ≡ refused f.reason f.place
answer_refused (accepted rules) e = let z : ◌≡◌ {A = ℕ} 0 1 = cc in absurd (omega arith)
answer_refused (refused why place) {f} e = let y : f ≡ record { reason = why; place = place } = cc in rw y

-- ---- and of the table

module _ {strict : Bool} {bytes tb : List ℕ} {b : Result ℕ Refusal} {n : ℕ} (l : LoadedBy strict bytes b tb) (a : b ≡ Ok n) where
  -- the rules of an accepted book are in the table
  pub loaded_rules : (rules : List Rule) × ((read_by strict bytes ≡ accepted rules) × Holds tb rules)
  loaded_rules =
      let k = answer_accepted (read_by strict bytes) (sym a ∙ l.answered) in
      (k.0, (k.1, l.holds k.0 k.1))

  pub loaded_held : Held tb
  loaded_held = record { rules = loaded_rules.0; holds = loaded_rules.1.1 }

-- a book whose reading answers a refusal is refused so
pub loaded_refusal : {strict : Bool} {bytes tb : List ℕ} {b : Result ℕ Refusal} {f : Refusal} → LoadedBy strict bytes b tb → b ≡ Err f
    → read_by strict bytes ≡ refused f.reason f.place
loaded_refusal {strict} {bytes} l a = answer_refused (read_by strict bytes) (sym a ∙ l.answered)
