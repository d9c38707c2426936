-- What the layers of the code ask and answer between themselves. Nobody needs to believe it: the operations' contracts do not rest on it.
use Rattle.record.specs.declared.TokenRecord.{TokenRecord}

-- for a number that no record has
abbrev pub no_record : TokenRecord
no_record = record { tag = 0; place = 0; len = 0 }
