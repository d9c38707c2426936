-- What the layers of the code ask and answer between themselves. Nobody needs to believe it: the operations' contracts do not rest on it.
use Rattle.answer.specs.declared.Cut.{Cut}
use Rattle.answer.specs.declared.Refusal.{Refusal}
use Rattle.std.specs.Prelude.{Result, ◌≡◌, List, ◌++◌, ℕ, ◌*◌, ◌≤◌, length, drop}
use Rattle.automaton.specs.Rule.{Rule}
use Rattle.automaton.specs.Layers.{Holds, Held}
use Rattle.longest_match.specs.Lexer.{lex}
use Rattle.longest_match.specs.Masks.{masks_of}
use Rattle.record.specs.Records.{records_at}
use Rattle.record.specs.Masks.{mask_bytes}
use Rattle.lexer.specs.Masked.{MaskedOutcome}

-- ---- Module filling, said of the rules that the table holds.

-- there is room for a record and a mask of each token
pub record Room (rules : List Rule) (text records masks : List ℕ) : Type 0 where
  pub in_records : 10 * length (lex rules text).tokens ≤ length records
  pub in_masks : 4 * length (lex rules text).tokens ≤ length masks

-- whichever rules the table holds
pub record RecordsRoom (tb text records masks : List ℕ) : Type 0 where
  pub held : Held tb
  pub room : (rules : List Rule) → Holds tb rules → Room rules text records masks

-- the records and the masks of the tokens, and every byte past them as it was
pub record Fills (rules : List Rule) (text entry exit masks-entry masks-exit : List ℕ) : Type 0 where
  pub written : exit ≡ records_at 0 (lex rules text).tokens ++ drop (10 * length (lex rules text).tokens) entry
  pub agreed : masks-exit
      ≡ mask_bytes (masks_of rules (lex rules text).tokens) ++ drop (4 * length (lex rules text).tokens) masks-entry

-- ---- Module by_rules, and the operations.

-- an answer, and what the records and the masks hold afterwards, are those of the outcome
pub record LexAnswered (o : MaskedOutcome) (r : Result Cut Refusal) (records-exit masks-exit : List ℕ) : Type 0 where
  pub answer : r ≡ o.answer
  pub records : records-exit ≡ o.records
  pub masks : masks-exit ≡ o.masks

-- a place of the text, and that what is the rest lies from there on
pub record RestAt (text : List ℕ) (place : ℕ) (rest : List ℕ) : Type 0 where
  pub within : place ≤ length text
  pub tail : drop place text ≡ rest
