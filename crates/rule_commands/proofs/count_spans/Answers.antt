-- One more row is gone through. Assumes nothing.
use Rattle.std.proofs.Common.{ap, List, ℕ, length, ◌∙◌}
use Rattle.rule_commands.specs.Spans.{row_spans}
use Rattle.rule_commands.proofs.Measuring.{row_lent, counting_next, counting_end}
use Rattle.rule_commands.proofs.count_spans.Goals as goal

pub loop-k-preserved : goal.loop-k-preserved
loop-k-preserved c =
    let k = c.loop-k.k in
    let row = row_lent c.args.targets.now k in
    counting_next c.loop-k.invariant c.loop-k-test.true
    (c.count_row-count.ensures.0 k ∙ ap (λ (r : List ℕ). length (row_spans k r)) row, c.count_row-count.ensures.1)

pub returns : goal.returns
returns c = counting_end c.loop-k.invariant c.loop-k-test.false c.requires
