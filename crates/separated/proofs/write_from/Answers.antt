-- `write_from` answers `writing`.
use Rattle.std.proofs.Common.{arith, sym, length-drop}
use Rattle.separated.proofs.Answering.{answered_written}
use Rattle.separated.proofs.write_from.Goals as goal

pub returns : goal.returns
returns c = answered_written c.args.scratch.now c.args.at _ (sym (length-drop c.args.at c.args.scratch.now)) (omega arith) c.write.ensures
