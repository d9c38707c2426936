-- A call in mode 0 has the outcome of the same call in mode 2, accepted or refused. Assumes nothing.
use mathlib.Core.Path.{◌≡◌, refl}
use mathlib.Core.List.{List}
use Prim.Native.Nat.{ℕ}
use Rattle.reader.specs.Reading.{Reading, accepted, refused, read_book}
use Rattle.record.specs.declared.TokenRecord.{TokenRecord}
use Rattle.record.specs.Tokens.{token_in, tokens_of}
use Rattle.spacing.proofs.Modes.{zero_spares}
use Rattle.separated.specs.Refusals.{list_refusal, separated_refusal}
use Rattle.separated.specs.Outcome.{separated_rules, separated_reading, separated_outcome}

pub zero_outcome : (book : List ℕ) (sep : TokenRecord) (records pool out : List ℕ)
    → separated_outcome book sep 0 records pool out ≡ separated_outcome book sep 2 records pool out
unfolding separated_outcome separated_rules separated_refusal list_refusal
zero_outcome book sep records pool out = go (read_book book)
  where
    go : (o : Reading) → separated_reading o sep 0 records pool out ≡ separated_reading o sep 2 records pool out
    go (refused _ _) = refl
    go (accepted rules) = rw (zero_spares rules (token_in pool sep) (tokens_of records pool))
