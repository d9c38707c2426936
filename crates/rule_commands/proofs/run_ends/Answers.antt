-- Behind the last byte, or by the next one. Assumes nothing.
use Rattle.std.proofs.Common.{arith, sym, ◌∙◌}
use borrow.Author.Tests.{eq-eqb}
use Rattle.rule_commands.proofs.Measuring.{apart_last, apart_inside}
use Rattle.rule_commands.proofs.run_ends.Goals as goal

pub returns-then-b-row : goal.returns-then-b-row
returns-then-b-row c = eq-eqb _ _ c.if-b-row.true ∙ sym (apart_last c.args.row.now c.args.b (omega arith))

pub returns-else-b-row : goal.returns-else-b-row
returns-else-b-row c = sym (apart_inside c.args.row.now c.args.b (omega arith))
