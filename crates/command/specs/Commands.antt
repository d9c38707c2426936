-- The commands of a book, as they stand in its bytes.
use Rattle.answer.specs.declared.Reason.TheVariants.{CutOff, Misplaced, Retired}
use Rattle.answer.specs.declared.Reason.{Reason}
use Rattle.std.specs.Prelude.{Result, Ok, Err, Bool, false, not, ◌&&◌, ◌||◌, List, ℕ, ◌+◌, leb, eqb, length, get_or}
use Rattle.big_endian.specs.Numbers.{two_at}
use Rattle.automaton.specs.Choice.{if}
use Rattle.command.specs.declared.Command.{Command}
use Rattle.command.specs.declared.Decoded.{Decoded}
use Rattle.command.specs.declared.Command.TheVariants as command

abbrev pub byte_at : List ℕ → ℕ → ℕ
byte_at bytes i = get_or bytes i 0

-- RULE (1) and END (8) stand only outside a rule, 2 to 7 and 9 to 12 only inside one; nothing else is a command
unfoldable pub placed : ℕ → Bool → Bool
placed code inside = if (eqb code 1 || eqb code 8) (not inside) (if (leb 2 code && leb code 12) inside false)

-- operand bytes; 9 to 12 have states of two bytes (document 02, wish 13)
unfoldable pub operands_of : ℕ → ℕ
operands_of code =
    if (eqb code 1) 3 (if (eqb code 2 || (eqb code 3 || eqb code 4)) 1 (if (eqb code 5) 3 (if (eqb code 6) 4
    (if (eqb code 9 || (eqb code 10 || eqb code 11)) 2 (if (eqb code 12) 6 0)))))

-- the command that stands at `at`, with its operands behind it
unfoldable pub decode : List ℕ → ℕ → ℕ → Command
decode bytes at code =
    if (eqb code 1) (command.Rule (two_at bytes (at + 1)) (byte_at bytes (at + 3)))
    (if (eqb code 2) (command.Start (byte_at bytes (at + 1)))
    (if (eqb code 3) (command.Error (byte_at bytes (at + 1)))
    (if (eqb code 4) (command.Final (byte_at bytes (at + 1)))
    (if (eqb code 5) (command.Step (byte_at bytes (at + 1)) (byte_at bytes (at + 2)) (byte_at bytes (at + 3)))
    (if (eqb code 6) (command.Span (byte_at bytes (at + 1)) (byte_at bytes (at + 2)) (byte_at bytes (at + 3)) (byte_at bytes (at + 4)))
    (if (eqb code 7) command.Close
    (if (eqb code 9) (command.Start (two_at bytes (at + 1)))
    (if (eqb code 10) (command.Error (two_at bytes (at + 1)))
    (if (eqb code 11) (command.Final (two_at bytes (at + 1)))
    (if (eqb code 12) (command.Span (two_at bytes (at + 1)) (byte_at bytes (at + 3)) (byte_at bytes (at + 4)) (two_at bytes (at + 5)))
    command.End))))))))))

-- STEP (5) is retired: the stricter reading does not take it (document 02, wish 10)
unfoldable pub retired : Bool → ℕ → Bool
retired strict code = strict && eqb code 5

-- Refusal 3 comes before 33, and 33 before 2: whether the command may stand here, whether this reading takes it, then whether its
-- operands are there.
unfoldable pub command_at : Bool → List ℕ → ℕ → Bool → Result Decoded Reason
command_at strict bytes at inside =
    if (placed (byte_at bytes at) inside)
    (if (retired strict (byte_at bytes at)) (Err Retired)
    (if (leb (at + 1 + operands_of (byte_at bytes at)) (length bytes))
    (Ok (record {
      command = decode bytes at (byte_at bytes at);
      next = record { at = at + 1 + operands_of (byte_at bytes at) };
    }))
    (Err CutOff)))
    (Err Misplaced)
