-- Lexing: the paper's cut of a text by the rules of a book, in book order. Bytes and tags are natural numbers.
use Rattle.std.specs.Prelude.{◌≡◌, Bool, true, false, ◌||◌, List, [], ◌∷◌, ◌++◌, ℕ, zero, suc, length, take, drop}
use Rattle.std.proofs.Math.Option.{Option, none, some}
use Rattle.automaton.specs.Choice.{if}
use Rattle.automaton.specs.Rule.{Rule, matches}

-- a token: the tag of a rule and the bytes that it stands for (document 01, 'Tokens', sentence 1)
pub record Token : Type 0 where
  pub tag : ℕ
  pub bytes : List ℕ

-- ---- choices that compute

-- the first answer, or else the second
abbrev pub or : {A : Type 0} → Option A → Option A → Option A
or (some a) o = some a
or none o = o

abbrev pub is_some : {A : Type 0} → Option A → Bool
is_some (some a) = true
is_some none = false

-- ---- one token

-- the tag of the first rule, in the order of the book, that matches the whole of w
unfoldable pub first_match : List Rule → List ℕ → Option ℕ
first_match [] w = none
first_match (r ∷ rs) w = if (matches r w) (some r.tag) (first_match rs w)

-- a token, and the bytes behind it
pub record Found : Type 0 where
  pub token : Token
  pub rest : List ℕ

abbrev pub found : Option ℕ → List ℕ → List ℕ → Option Found
found none w rest = none
found (some tag) w rest = some (record { token = record { tag = tag; bytes = w }; rest = rest })

-- the greatest length from n down to 1 at which some rule matches so many first bytes of the text
unfoldable pub choose_within : List Rule → List ℕ → ℕ → Option Found
choose_within rules text zero = none
choose_within rules text (suc n) =
    or (found (first_match rules (take (suc n) text)) (take (suc n) text) (drop (suc n) text)) (choose_within rules text n)

-- The longest match, by the earliest rule: the next token of a text, if there is one.
unfoldable pub choose : List Rule → List ℕ → Option Found
choose rules text = choose_within rules text (length text)

-- ---- the whole text

-- the paper's cut: its tokens in order, and the rest, the bytes from the first place at which no rule matches
pub record Lexed : Type 0 where
  pub tokens : List Token
  pub rest : List ℕ

abbrev pub proceed : Option Found → List ℕ → (List ℕ → Lexed) → Lexed
proceed none text go = record { tokens = []; rest = text }
proceed (some f) text go = record { tokens = f.token ∷ (go f.rest).tokens; rest = (go f.rest).rest }

unfoldable pub lex_for : ℕ → List Rule → List ℕ → Lexed
lex_for zero rules text = record { tokens = []; rest = text }
lex_for (suc n) rules text = proceed (choose rules text) text (lex_for n rules)

-- every token has a byte, so that as many turns as there are bytes are enough; `lex-unfolds` is the law without the number
unfoldable pub lex : List Rule → List ℕ → Lexed
lex rules text = lex_for (length text) rules text

-- ---- what the printers ask

-- the bytes of the tokens, joined
abbrev pub join : List Token → List ℕ
join [] = []
join (t ∷ ts) = t.bytes ++ join ts

-- whether w can be read on: some rule matches w and one or more of the bytes after it, taken one more at a time (refusal 21, and mode 2)
unfoldable pub extends : List Rule → List ℕ → List ℕ → Bool
extends rules w [] = false
extends rules w (b ∷ after) = is_some (first_match rules (w ++ (b ∷ []))) || extends rules (w ++ (b ∷ [])) after

-- the token is cut as itself alone: the first rule that matches its bytes has its tag
abbrev pub Alone : List Rule → Token → Type 0
Alone rules t = first_match rules t.bytes ≡ some t.tag

-- every token is cut as itself, and none is read on into those after it
abbrev pub Printable : List Rule → List Token → Type 0
Printable rules [] = Unit {0}
Printable rules (t ∷ ts) = Alone rules t × (extends rules t.bytes (join ts) ≡ false) × Printable rules ts
