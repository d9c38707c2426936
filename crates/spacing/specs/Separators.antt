-- Where separators are put between tokens.
use Rattle.std.specs.Prelude.{Bool, true, false, ◌||◌, List, [], ◌∷◌, ℕ, zero, suc, eqb}
use Rattle.automaton.specs.Choice.{if}
use Rattle.automaton.specs.Rule.{Rule}
use Rattle.longest_match.specs.Lexer.{Token, join, extends}
use Rattle.record.specs.declared.TokenRecord.{TokenRecord}
use Rattle.record.specs.Tokens.{token_in, tokens_of}
use Rattle.shared_bytes.specs.Kinds.{separates}

-- a list without the tokens of separator rules (document 01, 'Words of demand 3', 5)
unfoldable pub drop_separators : List Rule → List Token → List Token
drop_separators rules [] = []
drop_separators rules (t ∷ ts) = if (separates rules t.tag) (drop_separators rules ts) (t ∷ drop_separators rules ts)

-- what a mode stands for: 0 for 2, every other for itself (document 02, wish 7)
unfoldable pub meaning : ℕ → ℕ
meaning zero = 2
meaning (suc n) = suc n

-- Whether a separator follows t, given what is already put after it: not after the last token; in mode 1 after every other; in mode 2 where
-- t would be read on into what is put after it.
unfoldable pub follows : List Rule → ℕ → Token → List Token → Bool
follows rules mode t [] = false
follows rules mode t (u ∷ us) = eqb (meaning mode) 1 || extends rules t.bytes (join (u ∷ us))

abbrev pub put : Bool → Token → List Token → List Token
put true sep ts = sep ∷ ts
put false sep ts = ts

-- the tokens with their separators, put together from the last token back
unfoldable pub separated : List Rule → Token → ℕ → List Token → List Token
separated rules sep mode [] = []
separated rules sep mode (t ∷ ts) =
    t ∷ put (follows rules mode t (separated rules sep mode ts)) sep (separated rules sep mode ts)

-- the bytes of the tokens and their separators, joined
abbrev pub spelled : List Rule → TokenRecord → ℕ → List ℕ → List ℕ → List ℕ
spelled rules sep mode records pool = join (separated rules (token_in pool sep) mode (tokens_of records pool))
