-- Whether a token is read on into the bytes behind it, by what is chosen at its place, and what that makes of the list. Assumes nothing.
use Rattle.answer.specs.declared.Reason.TheVariants.{ReadOn}
use mathlib.Core.Path.{◌≡◌, refl, sym, ap, ◌∙◌}
use mathlib.Core.Logic.{inl, inr}
use mathlib.Core.Bool.{Bool, true, false}
use mathlib.Core.Option.{none, some}
use mathlib.Core.List.{List, [], ◌∷◌, ◌++◌}
use Prim.Native.Nat.{ℕ, suc, ◌<◌}
use native.Mathlib.Omega.{arith}
use native.Mathlib.Nat.{eq-zero-or-pos}
use lib.ListN.{length}
use lib.Seq.{length-take-le}
use Rattle.automaton.specs.Rule.{Rule}
use Rattle.automaton.specs.Layers.{rule_at}
use Rattle.longest_match.specs.Lexer.{Token, Found, first_match, extends, join}
use Rattle.longest_match.specs.Layers.{front, Chooses}
use Rattle.longest_match.proofs.First.{nothing}
use Rattle.longest_match.proofs.Choosing.{choose_at, extends_no}
use Rattle.token_list.specs.Checks.{refuse, first_extended}

-- what some rule matches has a byte
pub matched_long : (rules : List Rule) (w : List ℕ) (tag : ℕ) → first_match rules [] ≡ none → first_match rules w ≡ some tag → 0 < length w
matched_long rules [] tag empty m = nothing empty m
matched_long rules (b ∷ w) tag empty m = omega arith

module _ (rules : List Rule) (w after : List ℕ) (tag : ℕ) (empty : first_match rules [] ≡ none) (m : first_match rules w ≡ some tag)
    {rule len : ℕ} (c : Chooses rules (w ++ after) rule len) where
  pub read_no_more : len ≡ length w → extends rules w after ≡ false
  read_no_more e =
      let p : 0 < len = omega (arith, matched_long rules w tag empty m) in
      extends_no rules w after (front (rule_at rules rule).tag len (w ++ after)) (c.chosen p)
      (length-take-le len (w ++ after) c.within ∙ e)

  pub read_on : (len ≡ length w → ⊥) → extends rules w after ≡ true
  read_on ne = go (extends rules w after) refl
    where
      same : front (rule_at rules rule).tag len (w ++ after) ≡ record { token = record { tag = tag; bytes = w }; rest = after } → ⊥
      same g = ne (sym (length-take-le len (w ++ after) c.within) ∙ ap (λ (f : Found). length f.token.bytes) g)

      go : (b : Bool) → extends rules w after ≡ b → b ≡ true
      go true x = refl
      go false x =
          let q = choose_at rules w after tag empty m x in
          elim (eq-zero-or-pos len) [
            | inl z ↦ nothing (c.nothing z) q
            | inr p ↦ (let y = sym (c.chosen p) ∙ q in absurd (same (cc)))
          ]

-- ---- a list whose first token is read on, or not

module _ (rules : List Rule) (t : Token) (ts : List Token) (k : ℕ) where
  pub extended_later : extends rules t.bytes (join ts) ≡ false → first_extended rules (t ∷ ts) k ≡ first_extended rules ts (suc k)
  unfolding first_extended refuse
  extended_later e = ap (λ (b : Bool). refuse b ReadOn k (first_extended rules ts (suc k))) e

  pub extended_here : extends rules t.bytes (join ts) ≡ true → first_extended rules (t ∷ ts) k ≡ some (record { reason = ReadOn; place = k })
  unfolding first_extended refuse
  extended_here e = ap (λ (b : Bool). refuse b ReadOn k (first_extended rules ts (suc k))) e
