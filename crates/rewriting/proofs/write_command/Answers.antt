-- `write_command`: a STEP has four bytes.
use Rattle.std.proofs.Common.{arith}
use Rattle.rewriting.proofs.Pieces.{step-length}
use Rattle.rewriting.proofs.write_command.Goals as goal

pub bounds-command-1 : goal.bounds-command-1
bounds-command-1 c = omega (arith, step-length c.args.command.now c.requires.whole (omega arith))

pub bounds-command-2 : goal.bounds-command-2
bounds-command-2 c = omega (arith, step-length c.args.command.now c.requires.whole (omega arith))

pub bounds-command-3 : goal.bounds-command-3
bounds-command-3 c = omega (arith, step-length c.args.command.now c.requires.whole (omega arith))
