-- The first final states are written. Assumes nothing.
use Rattle.rule_commands.proofs.Writing.{WritingFinals}
use Rattle.rule_commands.proofs.write_finals.Given as goal

abbrev pub invariant-loop-state : goal.invariant-loop-state
invariant-loop-state l = WritingFinals l.finals l.initial.out l.out l.to l.at l.state-index
