-- A run ends there, and not at the error state. Assumes nothing.
use Rattle.rule_commands.specs.Layers.{closes_at}
use Rattle.rule_commands.proofs.span_ends.Goals as goal

pub returns-then-run_ends : goal.returns-then-run_ends
unfolding closes_at
returns-then-run_ends c = rw (← c.if-run_ends.ensures)

pub returns-else-run_ends : goal.returns-else-run_ends
unfolding closes_at
returns-else-run_ends c = rw (← c.if-run_ends.ensures) c.if-run_ends.false
