-- Whether a separator follows a token. Assumes nothing.
use mathlib.Core.Path.{◌≡◌, refl, sym, ◌∙◌, subst}
use mathlib.Core.Bool.{Bool, true, false, not}
use mathlib.Core.Option.{none, some}
use mathlib.Core.List.{List, [], ◌∷◌, ◌++◌}
use Prim.Native.Nat.{ℕ}
use native.Mathlib.Omega.{arith}
use lib.Dec.{eqb}
use lib.ListN.{length}
use borrow.Author.Tests.{eq-eqb, ne_eqb, eqb-true}
use Rattle.automaton.specs.Rule.{Rule}
use Rattle.automaton.proofs.Tests.{clash}
use Rattle.longest_match.specs.Lexer.{Token, first_match, extends, join}
use Rattle.longest_match.specs.Layers.{Chooses}
use Rattle.token_list.proofs.Extended.{read_no_more, read_on}
use Rattle.spacing.specs.Separators.{meaning, follows}
use Rattle.spacing.specs.Layers.{is_last, Ahead}

module _ {rules : List Rule} (mode : ℕ) {t : Token} {len : ℕ} {last : Bool} {text : List ℕ} where
  pub due_last : {us : List Token} → Ahead rules t us len last text → last ≡ true → false ≡ follows rules mode t us
  unfolding follows
  due_last {us} a e = go us (sym e ∙ a.ends)
    where
      go : (us : List Token) → true ≡ is_last us → false ≡ follows rules mode t us
      go [] z = refl
      go (u ∷ us) z = clash (sym z) refl

  module _ {us : List Token} (a : Ahead rules t us len last text) (more : last ≡ false) where
    pub due_always : meaning mode ≡ 1 → true ≡ follows rules mode t us
    unfolding follows
    due_always e = go us (sym more ∙ a.ends)
      where
        go : (us : List Token) → false ≡ is_last us → true ≡ follows rules mode t us
        go [] z = clash refl (sym z)
        go (u ∷ us) z = rw (eq-eqb (meaning mode) 1 e)

    by_extends : (meaning mode ≡ 1 → ⊥) → extends rules t.bytes (join us) ≡ follows rules mode t us
    unfolding follows
    by_extends ne = go us (sym more ∙ a.ends)
      where
        go : (us : List Token) → false ≡ is_last us → extends rules t.bytes (join us) ≡ follows rules mode t us
        go [] z = clash refl (sym z)
        go (u ∷ us) z = rw (ne_eqb (meaning mode) 1 ne)

    module _ (ne : meaning mode ≡ 1 → ⊥) (empty : first_match rules [] ≡ none) {rule n : ℕ} (c : Chooses rules text rule n) where
      chosen : Chooses rules (t.bytes ++ join us) rule n
      chosen = subst (λ (x : List ℕ). Chooses rules x rule n) a.laid c

      pub due_more : (n ≡ len → ⊥) → true ≡ follows rules mode t us
      due_more q = sym (read_on rules t.bytes (join us) t.tag empty a.alone chosen (λ z. q (z ∙ a.long))) ∙ by_extends ne

      pub due_no : n ≡ len → false ≡ follows rules mode t us
      due_no q = sym (read_no_more rules t.bytes (join us) t.tag empty a.alone chosen (q ∙ sym a.long)) ∙ by_extends ne

      -- by the length that is chosen
      pub due_by : not (eqb n len) ≡ follows rules mode t us
      due_by = go (eqb n len) refl
        where
          go : (b : Bool) → eqb n len ≡ b → not b ≡ follows rules mode t us
          go true e = due_no (eqb-true n len e)
          go false e = due_more (λ q. clash (eq-eqb n len q) e)

      -- a token has a byte
      pub due_none : 0 ≡ len → ⊥
      due_none z = go t.bytes a.alone (a.long ∙ sym z)
        where
          go : (w : List ℕ) → first_match rules w ≡ some t.tag → length w ≡ 0 → ⊥
          go [] e l = let y : ◌≡◌ {A = ℕ} 0 1 = cc in omega arith
          go (b ∷ w) e l = omega arith
