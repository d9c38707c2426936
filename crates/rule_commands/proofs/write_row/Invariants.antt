-- The SPANs that end below b are written. Assumes nothing.
use Rattle.rule_commands.proofs.Writing.{WritingRow}
use Rattle.rule_commands.proofs.write_row.Given as goal

abbrev pub invariant-loop-b : goal.invariant-loop-b
invariant-loop-b l = WritingRow l.from l.row l.initial.out l.out l.to l.at l.low l.b
