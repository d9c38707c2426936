-- The gaps of a list, one between each token and the next: ways of putting copies of a separator into them, and the spacing printer's own
-- (document 02, wish 8).
use Rattle.std.specs.Prelude.{◌≡◌, Bool, true, false, List, [], ◌∷◌, ◌++◌, ℕ, zero, suc, ◌+◌, ◌*◌, ◌<◌, length, replicate}
use Rattle.automaton.specs.Rule.{Rule}
use Rattle.longest_match.specs.Lexer.{Token, lex, join}
use Rattle.record.specs.Tokens.{token_in, tokens_of}
use Rattle.record.specs.declared.TokenRecord.{TokenRecord}
use Rattle.spacing.specs.Separators.{drop_separators, follows, separated}

-- ---- any way

-- `way i` copies go behind token number i. Behind the last token is no gap, so what a way says from there on plays no part.
abbrev pub Way : Type 0
Way = ℕ → ℕ

-- the same from the second token on
abbrev pub later : Way → Way
later way i = way (suc i)

-- the copies behind the first token, given those after it
abbrev pub behind : Way → List Token → ℕ
behind way [] = 0
behind way (u ∷ us) = way 0

-- the list with the copies in its gaps
abbrev pub scattered : Token → Way → List Token → List Token
scattered sep way [] = []
scattered sep way (t ∷ ts) = t ∷ replicate (behind way ts) sep ++ scattered sep (later way) ts

-- how many copies there are in all
abbrev pub in_all : Way → List Token → ℕ
in_all way [] = 0
in_all way (t ∷ ts) = behind way ts + in_all (later way) ts

-- cutting a text and dropping separators gives the list back
abbrev pub GivesBack : List Rule → List Token → List ℕ → Type 0
GivesBack rules ts text = drop_separators rules (lex rules text).tokens ≡ ts

-- the bytes of a list that is lent and of the copies, joined
abbrev pub spelled_by : Way → TokenRecord → List ℕ → List ℕ → List ℕ
spelled_by way sep records pool = join (scattered (token_in pool sep) way (tokens_of records pool))

-- ---- the spacing printer's

abbrev pub once : Bool → ℕ
once true = 1
once false = 0

-- its way: one copy where a separator follows
abbrev pub puts : List Rule → Token → ℕ → List Token → Way
puts rules sep mode [] i = 0
puts rules sep mode (t ∷ ts) zero = once (follows rules mode t (separated rules sep mode ts))
puts rules sep mode (t ∷ ts) (suc i) = puts rules sep mode ts i

-- how many separators it puts
abbrev pub put_count : List Rule → Token → ℕ → List Token → ℕ
put_count rules sep mode ts = in_all (puts rules sep mode ts) ts

-- What is in the n bytes that it writes: the list with the copies of its way, as `separated` puts them, which gives the list back. So many
-- tokens has `separated` beside the list's, and the bytes of so many separators are written beside the tokens'.
pub record HasCopies (rules : List Rule) (sep : Token) (mode : ℕ) (ts : List Token) (n : ℕ) (bytes : List ℕ) : Type 0 where
  pub put : separated rules sep mode ts ≡ scattered sep (puts rules sep mode ts) ts
  pub written : bytes ≡ join (scattered sep (puts rules sep mode ts) ts)
  pub gives_back : GivesBack rules ts bytes
  pub by_tokens : length (separated rules sep mode ts) ≡ length ts + put_count rules sep mode ts
  pub by_bytes : n ≡ length (join ts) + put_count rules sep mode ts * length sep.bytes
  pub some_byte : 0 < length sep.bytes
