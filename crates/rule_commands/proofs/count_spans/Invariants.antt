-- The rows below k are gone through. Assumes nothing.
use Rattle.rule_commands.proofs.Measuring.{Counting}
use Rattle.rule_commands.proofs.count_spans.Given as goal

abbrev pub invariant-loop-k : goal.invariant-loop-k
invariant-loop-k l = Counting l.targets l.rows l.count l.k
