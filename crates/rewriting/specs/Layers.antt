-- What the layers of the code ask and answer between themselves. Nobody needs to believe it: the operations' contracts do not rest on it.
use Rattle.std.specs.Prelude.{◌≡◌, List, ℕ, ◌+◌, ◌≤◌, length}
use Rattle.automaton.specs.Choice.{All}
use Rattle.command.specs.Commands.{byte_at, operands_of}
use Rattle.book.specs.Limits.{max_bytes}
use Rattle.rewriting.specs.Rewritten.{commands_of, rewritten}

-- none of its operands is cut off
pub record Whole (command : List ℕ) : Type 0 where
  pub operands : length command ≡ 1 + operands_of (byte_at command 0)

-- what holds of every accepted book
pub record Readable (book : List ℕ) : Type 0 where
  pub whole : All Whole (commands_of book)
  pub short : length book ≤ max_bytes

-- and there is room for the rewritten one
pub record Fitting (book out : List ℕ) : Type 0 where
  pub readable : Readable book
  pub room : length (rewritten book) ≤ length out
