use Rattle.std.proofs.Common.{◌-◌, length}
use Rattle.book_cases.proofs.read_full.Given as goal

abbrev pub decreases-loop-done : goal.decreases-loop-done
decreases-loop-done l = length l.room - l.done
