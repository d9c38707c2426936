-- A turn (document 02, wish 1): tokens are cut from a place on while the next reach fits what is left of the budget.
use Rattle.std.specs.Prelude.{Bool, true, false, List, [], ◌∷◌, ℕ, zero, suc, ◌+◌, ◌-◌, ltb, length}
use Rattle.std.proofs.Math.Option.{Option, none, some}
use Rattle.automaton.specs.Choice.{if}
use Rattle.automaton.specs.Rule.{Rule}
use Rattle.longest_match.specs.Lexer.{Token, Found, choose}
use Rattle.turns.specs.Reach.{reach}

-- its tokens in order, the bytes from the next place on, the sum of the reaches that were paid, and whether it is finished; else it is
-- spent
pub record Turn : Type 0 where
  pub tokens : List Token
  pub rest : List ℕ
  pub examined : ℕ
  pub finished : Bool

-- the next reach is larger than what is left
abbrev pub spent : List ℕ → Turn
spent text = record { tokens = []; rest = text; examined = 0; finished = false }

-- The reach is paid. Where no token begins, the turn is finished; else it goes on behind the token.
abbrev pub proceed : Option Found → List ℕ → ℕ → (List ℕ → Turn) → Turn
proceed none text paid go = record { tokens = []; rest = text; examined = paid; finished = true }
proceed (some f) text paid go = record {
  tokens = f.token ∷ (go f.rest).tokens;
  rest = (go f.rest).rest;
  examined = paid + (go f.rest).examined;
  finished = (go f.rest).finished;
}

unfoldable pub turn_for : ℕ → List Rule → List ℕ → ℕ → Turn
turn_for zero rules text left = record { tokens = []; rest = text; examined = 0; finished = true }
turn_for (suc n) rules text left =
    if (ltb left (reach rules text)) (spent text)
    (proceed (choose rules text) text (reach rules text) (λ (rest : List ℕ). turn_for n rules rest (left - reach rules text)))

-- every token has a byte, so that as many steps as there are bytes are enough; `turn-unfolds` is the law without the number
unfoldable pub turn : List Rule → List ℕ → ℕ → Turn
turn rules text left = turn_for (length text) rules text left
