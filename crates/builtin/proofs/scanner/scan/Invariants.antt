-- `scan`: `Walking`.
use Rattle.std.proofs.Common.{length, ◌-◌}
use Rattle.builtin.proofs.Scanned.{Walking}
use Rattle.builtin.proofs.scanner.scan.Given as goal

abbrev pub invariant-loop-i : goal.invariant-loop-i
invariant-loop-i l = Walking l.text l.s l.longest l.i

abbrev pub decreases-loop-i : goal.decreases-loop-i
decreases-loop-i l = length l.text - l.i
