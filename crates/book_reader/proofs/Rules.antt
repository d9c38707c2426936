-- The answer of `rule`. Assumes nothing.
use Rattle.answer.specs.declared.RuleName.{RuleName}
use Rattle.std.specs.Prelude.{Result, Ok, Err}
use Rattle.answer.specs.declared.Reason.TheVariants.{UnknownTag}
use Rattle.answer.specs.Answers.{named}
use mathlib.Core.Path.{◌≡◌, refl, sym, ◌∙◌}
use mathlib.Core.Bool.{Bool}
use mathlib.Core.Option.{none, some}
use mathlib.Core.List.{List, [], ◌∷◌}
use Prim.Native.Nat.{ℕ, zero, suc, ◌<◌, ◌≤◌}
use native.Mathlib.Omega.{arith}
use lib.ListN.{length}
use Rattle.answer.specs.declared.Refusal.{Refusal}
use Rattle.automaton.specs.Rule.{Rule}
use Rattle.automaton.specs.Layers.{rule_at, Holds}
use Rattle.book_reader.specs.Rules.{numbered, rule_answer}
use Rattle.reader.specs.Layers.{LoadedBy}
use Rattle.book_reader.specs.Layers.{Inspects}
use Rattle.reader.proofs.Loaded.{loaded_rules, loaded_refusal}

-- ---- the rule of a number

pub numbered_some : (rules : List Rule) (k : ℕ) → k < length rules → numbered rules k ≡ some (rule_at rules k)
unfolding numbered
numbered_some [] k l = absurd (omega arith)
numbered_some (r ∷ rs) zero l = refl
numbered_some (r ∷ rs) (suc k) l = numbered_some rs k (omega arith)

pub numbered_none : (rules : List Rule) (k : ℕ) → length rules ≤ k → numbered rules k ≡ none
unfolding numbered
numbered_none [] k l = refl
numbered_none (r ∷ rs) zero l = absurd (omega arith)
numbered_none (r ∷ rs) (suc k) l = numbered_none rs k (omega arith)

-- what is answered, by the rules that a table holds and their number
module _ (rules : List Rule) {index count : ℕ} (all : count ≡ length rules) where
  pub rule-past : count ≤ index → Err (record { reason = UnknownTag; place = count }) ≡ rule_answer (numbered rules index) (length rules)
  rule-past l = rw (numbered_none rules index (omega arith), all)

  pub rule_told : {tag kind : ℕ} → index < count → tag ≡ (rule_at rules index).tag → kind ≡ (rule_at rules index).kind
      → named tag kind ≡ rule_answer (numbered rules index) (length rules)
  rule_told l t k = rw (numbered_some rules index (omega arith), t, k)

-- ---- by what was loaded

pub inspects_accepted : {strict : Bool} {bytes tb : List ℕ} {b : Result ℕ Refusal} {n : ℕ} → LoadedBy strict bytes b tb → b ≡ Ok n
    → (index : ℕ) (r : Result RuleName Refusal)
    → ((rules : List Rule) → Holds tb rules → r ≡ rule_answer (numbered rules index) (length rules))
    → Inspects strict bytes index (record { rules = Ok n; rule = r })
inspects_accepted l a index r h =
    let k = loaded_rules l a in
    record { rules = sym a ∙ l.answered; rule = rw k.1.0 (h k.0 k.1.1) }

pub inspects_refused : {strict : Bool} {bytes tb : List ℕ} {b : Result ℕ Refusal} {f : Refusal} → LoadedBy strict bytes b tb → b ≡ Err f
    → (index : ℕ) → Inspects strict bytes index (record { rules = Err f; rule = Err f })
inspects_refused l a index = record { rules = sym a ∙ l.answered; rule = rw (loaded_refusal l a) }
