-- `read_list`: what reading from `at` on answers is the answer, and each item takes a byte. Assumes nothing.
use Rattle.std.proofs.Common.{◌-◌, length}
use Rattle.position_reader.proofs.Lists.{Listing}
use Rattle.position_reader.proofs.read_list.Given as goal

abbrev pub invariant-loop-next : goal.invariant-loop-next
invariant-loop-next l = Listing l.text l.start l.added l.fn.takers l.takers l.at

abbrev pub decreases-loop-next : goal.decreases-loop-next
decreases-loop-next l = length l.text - l.at
