-- Reading a book: command by command from the front, each checked in the order of document 01 and then taken in. The stricter reading
-- of document 02, wish 10, is the same but for STEP, which it refuses.
use Rattle.answer.specs.declared.Reason.{Reason}
use Rattle.answer.specs.declared.Refusal.{Refusal}
use Rattle.std.specs.Prelude.{Result, Ok, Err}
use Rattle.answer.specs.declared.Reason.TheVariants.{BookTooLong, CutOff}
use Rattle.std.specs.Prelude.{Bool, true, false, List, [], ℕ, zero, suc, ltb, length}
use Rattle.automaton.specs.Choice.{if}
use Rattle.automaton.specs.Rule.{Rule}
use Rattle.command.specs.declared.Decoded.{Decoded}
use Rattle.command.specs.Commands.{command_at}
use Rattle.book.specs.Limits.{max_bytes}
use Rattle.book.specs.Draft.{Draft, between, Verdict, goes, accepts, refuses, apply}

pub data Reading : Type 0 where
  accepted : List Rule → Reading
  refused : Reason → ℕ → Reading

abbrev pub go_on : Verdict → (Draft → Reading) → Reading
go_on (goes d) next = next d
go_on (accepts rules) next = accepted rules
go_on (refuses why place) next = refused why place

abbrev pub take_in : Result Decoded Reason → Draft → ℕ → ℕ → (ℕ → Draft → Reading) → Reading
take_in (Ok read) d at len next = go_on (apply d read.command at len) (next read.next.at)
take_in (Err why) d at len next = refused why at

-- From `at` on; `strict`: in the stricter reading. Every command takes a byte, so as many steps as there are bytes are enough.
unfoldable pub read_from : Bool → ℕ → List ℕ → ℕ → Draft → Reading
read_from strict zero bytes at d = refused CutOff (length bytes)
read_from strict (suc n) bytes at d =
    if (ltb at (length bytes)) (take_in (command_at strict bytes at d.inside) d at (length bytes) (read_from strict n bytes))
    (refused CutOff (length bytes))

unfoldable pub read_by : Bool → List ℕ → Reading
read_by strict bytes = if (ltb max_bytes (length bytes)) (refused BookTooLong 0) (read_from strict (length bytes) bytes 0 (between []))

-- the ordinary reading, by which every operation but one goes
abbrev pub read_book : List ℕ → Reading
read_book bytes = read_by false bytes

abbrev pub read_strict : List ℕ → Reading
read_strict bytes = read_by true bytes

-- Document 01's answer for each outcome: the rule count, or the refusal with its place.
abbrev pub answer : Reading → Result ℕ Refusal
answer (accepted rules) = Ok (length rules)
answer (refused why place) = Err (record { reason = why; place = place })
