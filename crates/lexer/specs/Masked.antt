-- Cutting with masks (document 02, wish 11): each token has, beside its record, the mask of the rules that agree on it. Answer and records
-- are those of Outcome, and 15 is said also where the masks are fewer than the tokens.
use Rattle.answer.specs.declared.Cut.{Cut}
use Rattle.std.specs.Prelude.{Result, Ok, Err, List, ◌++◌, ℕ, ◌*◌, ltb, drop}
use Rattle.answer.specs.declared.Reason.TheVariants.{TooFewRecords}
use Rattle.answer.specs.declared.Refusal.{Refusal}
use Rattle.automaton.specs.Choice.{if}
use Rattle.automaton.specs.Rule.{Rule}
use Rattle.reader.specs.Reading.{Reading, accepted, refused, read_book}
use Rattle.longest_match.specs.Lexer.{lex}
use Rattle.longest_match.specs.Masks.{masks_of}
use Rattle.record.specs.Masks.{mask_bytes, mask_count}
use Rattle.lexer.specs.Outcome.{lex_rules}

-- the answer, and what the lent records and masks hold afterwards
pub record MaskedOutcome : Type 0 where
  pub answer : Result Cut Refusal
  pub records : List ℕ
  pub masks : List ℕ

-- refused, with the records and the masks as they were
abbrev pub masked_refused : Refusal → List ℕ → List ℕ → MaskedOutcome
masked_refused f records masks = record { answer = Err f; records = records; masks = masks }

-- From the answer of the cut without masks, the records that it leaves and the masks of its tokens. Accepted: the masks of the tokens, and
-- every byte past them as it was.
abbrev pub with_masks : Result Cut Refusal → List ℕ → List ℕ → List ℕ → List ℕ → MaskedOutcome
with_masks (Err f) stored agreed records masks = masked_refused f stored masks
with_masks (Ok cut) stored agreed records masks =
    if (ltb (mask_count masks) cut.tokens) (masked_refused (record { reason = TooFewRecords; place = cut.tokens }) records masks)
    (record { answer = Ok cut; records = stored; masks = mask_bytes agreed ++ drop (4 * cut.tokens) masks })

-- by the rules of an accepted book
unfoldable pub masked_rules : List Rule → List ℕ → List ℕ → List ℕ → MaskedOutcome
masked_rules rules text records masks =
    with_masks (lex_rules rules text records).answer (lex_rules rules text records).records (masks_of rules (lex rules text).tokens)
    records masks

-- the refusals of the book come first
abbrev pub masked_reading : Reading → List ℕ → List ℕ → List ℕ → MaskedOutcome
masked_reading (refused reason place) text records masks = masked_refused (record { reason = reason; place = place }) records masks
masked_reading (accepted rules) text records masks = masked_rules rules text records masks

-- by the bytes of a book
unfoldable pub masked_outcome : List ℕ → List ℕ → List ℕ → List ℕ → MaskedOutcome
masked_outcome book text records masks = masked_reading (read_book book) text records masks
