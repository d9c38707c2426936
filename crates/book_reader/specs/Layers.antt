-- What the layers of the code answer between themselves. Nobody needs to believe it: the operations' contracts do not rest on it.
use Rattle.std.specs.Prelude.{◌≡◌, Bool, List, ℕ}
use Rattle.reader.specs.Reading.{read_by, answer}
use Rattle.book_reader.specs.declared.Inspected.{Inspected}
use Rattle.book_reader.specs.Rules.{rule_reading}

-- the answer of reading the book, and what is said of the rule of this number
pub record Inspects (strict : Bool) (bytes : List ℕ) (index : ℕ) (r : Inspected) : Type 0 where
  pub rules : r.rules ≡ answer (read_by strict bytes)
  pub rule : r.rule ≡ rule_reading (read_by strict bytes) index
