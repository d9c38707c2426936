-- One more row is written. Assumes nothing.
use Rattle.rule_commands.proofs.Measuring.{row_lent}
use Rattle.rule_commands.proofs.Writing.{writing_rows_room, writing_rows_next, writing_rows_end}
use Rattle.rule_commands.proofs.write_spans.Goals as goal

pub write_row-at-requires-clause-row_in_bounds : goal.write_row-at-requires-clause-row_in_bounds
write_row-at-requires-clause-row_in_bounds c =
    rw (row_lent c.args.targets.now c.loop-k.k) (writing_rows_room c.loop-k.invariant c.loop-k-test.true)

pub loop-k-preserved : goal.loop-k-preserved
loop-k-preserved c =
    writing_rows_next c.loop-k.invariant c.loop-k-test.true (rw (row_lent c.args.targets.now c.loop-k.k) at c.write_row-at.ensures)

pub returns : goal.returns
returns c = writing_rows_end c.loop-k.invariant c.requires.rows_in_bounds c.loop-k-test.false
