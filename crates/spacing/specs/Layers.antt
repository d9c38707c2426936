-- What the layers of the code ask and answer between themselves. Nobody needs to believe it: the operations' contracts do not rest on it.
use Rattle.std.specs.Prelude.{◌≡◌, Bool, true, false, List, [], ◌∷◌, ◌++◌, ℕ, length}
use Rattle.automaton.specs.Rule.{Rule}
use Rattle.automaton.specs.Choice.{All}
use Rattle.automaton.specs.Layers.{Holds, Held}
use Rattle.longest_match.specs.Lexer.{Token, Alone, join}
use Rattle.record.specs.declared.TokenRecord.{TokenRecord}
use Rattle.record.specs.Tokens.{records_of, token_in, InPool}

-- ---- whether a separator is due

-- nothing is behind
abbrev pub is_last : List Token → Bool
is_last [] = true
is_last (u ∷ us) = false

-- a text begins with the token, and goes on with what is put behind it
pub record Ahead (rules : List Rule) (t : Token) (us : List Token) (len : ℕ) (last : Bool) (text : List ℕ) : Type 0 where
  pub laid : text ≡ t.bytes ++ join us
  pub long : length t.bytes ≡ len
  pub alone : Alone rules t
  pub ends : last ≡ is_last us

-- ---- putting a list together

-- the separator and the tokens lie in the pool, and every token is cut as itself alone, whichever rules the table holds
pub record Spaceable (tb : List ℕ) (sep : TokenRecord) (records pool : List ℕ) : Type 0 where
  pub held : Held tb
  pub separator : InPool pool sep
  pub inside : All (InPool pool) (records_of records)
  pub alone : (rules : List Rule) → Holds tb rules → All (λ (r : TokenRecord). Alone rules (token_in pool r)) (records_of records)
