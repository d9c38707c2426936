-- The tokens that ten-byte records say, and their bytes in a pool.
use Rattle.std.specs.Prelude.{List, [], ◌∷◌, ℕ, zero, suc, ◌+◌, ◌*◌, ◌≤◌, length, take, drop}
use Rattle.big_endian.specs.Numbers.{two_at, four_at}
use Rattle.longest_match.specs.Lexer.{Token}
use Rattle.record.specs.Records.{record_count}
use Rattle.record.specs.declared.TokenRecord.{TokenRecord}

-- record number k
unfoldable pub record_at : List ℕ → ℕ → TokenRecord
record_at records k =
    record { tag = two_at records (10 * k); place = four_at records (10 * k + 2); len = four_at records (10 * k + 6) }

-- n records from number k on
unfoldable pub records_from : List ℕ → ℕ → ℕ → List TokenRecord
records_from records k zero = []
records_from records k (suc n) = record_at records k ∷ records_from records (suc k) n

unfoldable pub records_of : List ℕ → List TokenRecord
records_of records = records_from records 0 (record_count records)

-- the bytes of a record: so many of the pool's, from its place on
abbrev pub bytes_in : List ℕ → TokenRecord → List ℕ
bytes_in pool r = take r.len (drop r.place pool)

-- its bytes lie in the pool
pub record InPool (pool : List ℕ) (r : TokenRecord) : Type 0 where
  pub in_pool : r.place + r.len ≤ length pool

abbrev pub token_in : List ℕ → TokenRecord → Token
token_in pool r = record { tag = r.tag; bytes = bytes_in pool r }

unfoldable pub tokens_in : List ℕ → List TokenRecord → List Token
tokens_in pool [] = []
tokens_in pool (r ∷ rs) = token_in pool r ∷ tokens_in pool rs

-- the token list that records say with a pool
abbrev pub tokens_of : List ℕ → List ℕ → List Token
tokens_of records pool = tokens_in pool (records_of records)
