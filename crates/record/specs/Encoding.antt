-- A token list lent as a slice of structs (document 01, 'Tokens', sentence 4), by the ten-byte records that it says.
use Rattle.std.specs.Prelude.{List, [], ◌∷◌, ◌++◌, ℕ, ◌<◌}
use Rattle.record.specs.Records.{record_of}
use Rattle.record.specs.declared.TokenRecord.{TokenRecord}

unfoldable pub encoded : List TokenRecord → List ℕ
encoded [] = []
encoded (r ∷ rs) = record_of r.tag r.place r.len ++ encoded rs

-- the fields fit their types, two bytes and four, as those of every struct do
pub record Fits (r : TokenRecord) : Type 0 where
  pub tag : r.tag < 65536
  pub place : r.place < 4294967296
  pub len : r.len < 4294967296
