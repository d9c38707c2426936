-- The ten bytes of a record (document 01, 'Tokens', sentence 5): tag, place and length in two, four and four of them.
use Rattle.std.specs.Prelude.{List, [], ◌∷◌, ◌++◌, ℕ, ◌+◌, ◌/◌, length}
use Rattle.big_endian.specs.Numbers.{two, four}
use Rattle.longest_match.specs.Lexer.{Token}

abbrev pub record_of : ℕ → ℕ → ℕ → List ℕ
record_of tag place len = two tag ++ four place ++ four len

-- the records of tokens that lie one behind the other, the first at `place`
unfoldable pub records_at : ℕ → List Token → List ℕ
records_at place [] = []
records_at place (t ∷ ts) = record_of t.tag place (length t.bytes) ++ records_at (place + length t.bytes) ts

-- a byte buffer counts as so many records; leftover bytes play no part
abbrev pub record_count : List ℕ → ℕ
record_count records = length records / 10
