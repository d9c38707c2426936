-- How the answers of the code come to the outcome of document 01. Assumes nothing.
use Rattle.std.specs.Prelude.{Result, Ok, Err}
use mathlib.Core.Path.{◌≡◌, refl}
use mathlib.Core.List.{List}
use Prim.Native.Nat.{ℕ}
use Rattle.answer.specs.declared.Refusal.{Refusal}
use Rattle.automaton.specs.Rule.{Rule}
use Rattle.automaton.specs.Layers.{Holds}
use Rattle.reader.specs.Layers.{Loaded}
use Rattle.reader.proofs.Loaded.{loaded_rules, loaded_refusal}
use Rattle.printer.specs.Outcome.{print_rules, print_outcome}
use Rattle.output.specs.Layers.{PrintAnswered}

module _ {bytes tb : List ℕ} {b : Result ℕ Refusal} {n : ℕ} (l : Loaded bytes b tb) (a : b ≡ Ok n) where
  pub answered_book : (records pool out exit : List ℕ) (r : Result ℕ Refusal)
      → ((rules : List Rule) → Holds tb rules → PrintAnswered (print_rules rules records pool out) r exit)
      → PrintAnswered (print_outcome bytes records pool out) r exit
  unfolding print_outcome
  answered_book records pool out exit r h = let k = loaded_rules l a in rw k.1.0 (h k.0 k.1.1)

module _ {bytes tb : List ℕ} {b : Result ℕ Refusal} {f : Refusal} (l : Loaded bytes b tb) (a : b ≡ Err f) where
  pub answered_refused : (records pool out : List ℕ) → PrintAnswered (print_outcome bytes records pool out) (Err f) out
  unfolding print_outcome
  answered_refused records pool out = rw (loaded_refusal l a) (record { answer = refl; out = refl })
