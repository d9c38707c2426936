-- What the layers of the code ask and answer between themselves. Nobody needs to believe it: the operations' contracts do not rest on it.
use Rattle.answer.specs.declared.Reason.TheVariants.{OutputTooLong}
use Rattle.std.specs.Prelude.{Result, Ok, Err, ◌≡◌, List, ℕ, ◌≤◌, ltb, length, take}
use Rattle.std.proofs.Math.Option.{Option, some}
use Rattle.answer.specs.declared.Refusal.{Refusal}
use Rattle.automaton.specs.Rule.{Rule}
use Rattle.automaton.specs.Layers.{Holds, Held}
use Rattle.book.specs.Limits.{max_text}
use Rattle.longest_match.specs.Lexer.{or, join}
use Rattle.record.specs.Tokens.{records_of, tokens_of}
use Rattle.token_list.specs.Faults.{fault_of}
use Rattle.token_list.specs.Checks.{refuse, first_fault, first_extended}
use Rattle.token_list.specs.Layers.{Faultless, Settled, Spanned}

-- what is wrong with a list, in the order of document 01: the first token at fault, 20, the first token that is read on
unfoldable pub trouble : List Rule → List ℕ → List ℕ → Option Refusal
trouble rules records pool =
    or (first_fault (fault_of rules pool) (records_of records) 0)
    (refuse (ltb max_text (length (join (tokens_of records pool)))) OutputTooLong 0
    (first_extended rules (tokens_of records pool) 0))

-- ---- the rehearsal

-- bytes of a small scratch
abbrev pub small_text : ℕ
small_text = 2048

-- the scratch has room for the bytes of the list, unless they are too many to be written or a token lies outside the pool
pub record Roomy (records pool scratch : List ℕ) : Type 0 where
  pub room : (n : ℕ) → Spanned records pool n → n ≤ length scratch

-- the tokens lie in the pool and have as many bytes as a small scratch has room for
pub record Short (records pool : List ℕ) : Type 0 where
  pub bytes : ℕ
  pub spanned : Spanned records pool bytes
  pub few : bytes ≤ small_text

-- nothing is wrong with the list, and its n bytes stand at the front of the scratch
pub record Clean (rules : List Rule) (records pool scratch : List ℕ) (n : ℕ) : Type 0 where
  pub settled : Settled rules records pool
  pub spanned : Spanned records pool n
  pub laid : take n scratch ≡ join (tokens_of records pool)

pub record Rehearses (rules : List Rule) (records pool scratch : List ℕ) (r : Result ℕ Refusal) : Type 0 where
  pub clean : (n : ℕ) → r ≡ Ok n → Clean rules records pool scratch n
  pub wrong : (f : Refusal) → r ≡ Err f → Faultless rules records pool → trouble rules records pool ≡ some f

-- whichever rules the table holds, this is wrong with the list if no token is at fault
pub record Suspects (tb records pool : List ℕ) (f : Refusal) : Type 0 where
  pub held : Held tb
  pub suspected : (rules : List Rule) → Holds tb rules → Faultless rules records pool → trouble rules records pool ≡ some f
