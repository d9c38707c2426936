-- The built-in book is read, and it is accepted with its five rules. Assumes nothing.
use mathlib.Core.Path.{◌≡◌, refl}
use mathlib.Core.List.{List}
use Prim.Native.Nat.{ℕ}
use Rattle.automaton.specs.Rule.{overlaps}
use Rattle.command.specs.Commands.{command_at, retired, decode, operands_of, placed}
use Rattle.book.specs.Draft.{apply, move, check}
use Rattle.reader.specs.Reading.{read_by, read_book, read_from, accepted}
use Rattle.lexer.specs.Masked.{masked_rules, masked_outcome}
use Rattle.builtin.specs.Book.{builtin_bytes, builtin_rules, timestamp, word, blanks, newline, bracket}

pub read_builtin : read_book builtin_bytes ≡ accepted builtin_rules
unfolding read_by read_from command_at retired decode operands_of placed apply move check overlaps
    builtin_bytes builtin_rules timestamp word blanks newline bracket
read_builtin = refl

-- so lexing by its bytes is lexing by its rules
pub builtin_outcome : (text records masks : List ℕ)
    → masked_outcome builtin_bytes text records masks ≡ masked_rules builtin_rules text records masks
unfolding masked_outcome
builtin_outcome text records masks = rw read_builtin
