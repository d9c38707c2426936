-- An old book with a SPAN in each STEP's place (document 02, wish 10).
use Rattle.std.specs.Prelude.{Bool, ℕ, zero, suc, eqb, length, take, drop}
use mathlib.Core.List.{List, [], ◌∷◌, map, flatten}
use Rattle.automaton.specs.Choice.{if, any}
use Rattle.command.specs.Commands.{byte_at, operands_of}

-- The commands that bytes hold, each as its own bytes: its code and as many operands as it has. Every command takes a byte, so as many
-- steps as there are bytes are enough.
unfoldable pub commands_in : ℕ → List ℕ → List (List ℕ)
commands_in zero bytes = []
commands_in (suc n) [] = []
commands_in (suc n) (code ∷ rest) = (code ∷ take (operands_of code) rest) ∷ commands_in n (drop (operands_of code) rest)

abbrev pub commands_of : List ℕ → List (List ℕ)
commands_of book = commands_in (length book) book

abbrev pub is_step : List ℕ → Bool
is_step command = eqb (byte_at command 0) 5

abbrev pub has_step : List ℕ → Bool
has_step book = any is_step (commands_of book)

-- from, low, high, to of the SPAN that a STEP means: its byte is low and high
abbrev pub span_of : List ℕ → List ℕ
span_of step = 6 ∷ byte_at step 1 ∷ byte_at step 2 ∷ byte_at step 2 ∷ byte_at step 3 ∷ []

-- a STEP as that SPAN, any other command as it is
abbrev pub modern : List ℕ → List ℕ
modern command = if (is_step command) (span_of command) command

unfoldable pub rewritten : List ℕ → List ℕ
rewritten book = flatten (map modern (commands_of book))
