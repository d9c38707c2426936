-- The loop of `count`: what holds at its head, and how a turn keeps it. Assumes nothing.
use mathlib.Core.Path.{◌≡◌, refl}
use mathlib.Core.Option.{none}
use mathlib.Core.List.{List, [], ◌∷◌}
use Prim.Native.Nat.{ℕ, ◌+◌, ◌<◌, ◌≤◌}
use native.Mathlib.Omega.{arith}
use lib.ListN.{length, take, drop, length-drop, drop_of_length-le}
use lib.Seq.{drop-drop}
use Rattle.automaton.specs.Rule.{Rule}
use Rattle.automaton.specs.Layers.{rule_at}
use Rattle.longest_match.specs.Lexer.{Token, choose_within, choose, lex}
use Rattle.longest_match.specs.Layers.{Chooses, Cuts}
use Rattle.longest_match.proofs.Lexing.{lex_unfolds}

-- ---- one token more, or none

pub lex_stop : (rules : List Rule) (text : List ℕ) → choose rules text ≡ none → lex rules text ≡ record { tokens = []; rest = text }
lex_stop rules text e = rw (lex_unfolds rules text, e)

pub lex_nil : (rules : List Rule) → lex rules [] ≡ record { tokens = []; rest = [] }
unfolding choose choose_within
lex_nil rules = lex_stop rules [] refl

module _ (rules : List Rule) (text : List ℕ) (at rule len : ℕ) (c : Chooses rules (drop at text) rule len) (p : 0 < len) where
  -- the token that is chosen at `at`
  abbrev pub token_here : Token
  token_here = record { tag = (rule_at rules rule).tag; bytes = take len (drop at text) }

  pub lex_more : lex rules (drop at text)
      ≡ record { tokens = token_here ∷ (lex rules (drop (at + len) text)).tokens; rest = (lex rules (drop (at + len) text)).rest }
  lex_more = rw (lex_unfolds rules (drop at text), c.chosen p, drop-drop)

-- ---- counting

-- n tokens are cut and lie before `at`
pub record Cutting (rules : List Rule) (text : List ℕ) (at n : ℕ) : Type 0 where
  pub within : at ≤ length text
  pub few : n ≤ at
  pub count : length (lex rules text).tokens ≡ n + length (lex rules (drop at text)).tokens
  pub rest : (lex rules text).rest ≡ (lex rules (drop at text)).rest

pub cutting_start : (rules : List Rule) (text : List ℕ) → Cutting rules text 0 0
cutting_start rules text = record { within = omega arith; few = omega arith; count = omega arith; rest = refl }

module _ {rules : List Rule} {text : List ℕ} {at n rule len : ℕ} (w : Cutting rules text at n)
    (c : Chooses rules (drop at text) rule len) (p : 0 < len) where
  pub cutting_within : at + len ≤ length text
  cutting_within = omega (arith, w.within, simp length-drop at c.within)

  pub cutting_next : Cutting rules text (at + len) (n + 1)
  cutting_next =
      let e = lex_more rules text at rule len c p in
      let k = rw e at w.count in
      record { within = cutting_within; few = omega (arith, w.few); count = omega arith; rest = rw e at w.rest }

module _ {rules : List Rule} {text : List ℕ} {at n : ℕ} (w : Cutting rules text at n)
    (e : lex rules (drop at text) ≡ record { tokens = []; rest = drop at text }) where
  pub cutting_stop : Cuts rules text n at
  cutting_stop =
      let k = rw e at w.count in
      let r : (lex rules text).rest ≡ drop at text = rw e at w.rest in
      record { tokens_are = omega arith; rest_is = rw r (simp length-drop (omega (arith, w.within))) }

-- at the end of the text
pub lex-end : (rules : List Rule) (text : List ℕ) (at : ℕ) → length text ≤ at → lex rules (drop at text)
    ≡ record { tokens = []; rest = drop at text }
lex-end rules text at l = rw (drop_of_length-le text l) (lex_nil rules)
