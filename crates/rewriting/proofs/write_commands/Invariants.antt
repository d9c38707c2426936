-- `write_commands`: `Writing`.
use Rattle.std.proofs.Common.{length, ◌-◌}
use Rattle.rewriting.proofs.Writing.{Writing}
use Rattle.rewriting.proofs.write_commands.Given as goal

abbrev pub invariant-loop-at : goal.invariant-loop-at
invariant-loop-at l = Writing l.book l.fn.out l.out l.at l.to

abbrev pub decreases-loop-at : goal.decreases-loop-at
decreases-loop-at l = length l.book - l.at
