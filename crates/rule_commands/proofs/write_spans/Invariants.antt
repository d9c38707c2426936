-- The SPANs of the rows below k are written. Assumes nothing.
use Rattle.rule_commands.proofs.Writing.{WritingRows}
use Rattle.rule_commands.proofs.write_spans.Given as goal

abbrev pub invariant-loop-k : goal.invariant-loop-k
invariant-loop-k l = WritingRows l.targets l.rows l.initial.out l.out l.to l.at l.k
