-- What the C interface is given for the separator token.
use Rattle.std.specs.Prelude.{ℕ}
use Rattle.record.specs.declared.TokenRecord.{TokenRecord}

-- the separator token, from its three numbers
abbrev pub separator : ℕ → ℕ → ℕ → TokenRecord
separator tag place length = record { tag = tag; place = place; len = length }
