-- `book` is the very list of `builtin_bytes`.
use Rattle.std.proofs.Common.{refl}
use Rattle.builtin.specs.Book.{builtin_bytes}
use Rattle.builtin.proofs.commands.book.Goals as goal

pub returns : goal.returns
unfolding builtin_bytes
returns c = refl
