-- One more byte is gone through. Assumes nothing.
use Rattle.std.proofs.Common.{arith}
use Rattle.rule_commands.proofs.Measuring.{counting_row-start, counting_row_next, counting_row-end}
use Rattle.rule_commands.proofs.count_row.Goals.{then-span_ends, else-span_ends}
use Rattle.rule_commands.proofs.count_row.Goals as goal

pub loop-b-init : goal.loop-b-init
loop-b-init c = record { few = omega arith; row = λ from. counting_row-start from c.args.row.now }

pub loop-b-preserved : goal.loop-b-preserved
loop-b-preserved c = record {
  few = elim c.if-span_ends.branch [
    | then-span_ends w ↦ omega (arith, w.count-is, c.loop-b.invariant.few)
    | else-span_ends w ↦ omega (arith, w.count-is, c.loop-b.invariant.few)
  ];
  row = λ from. counting_row_next (c.loop-b.invariant.row from) (omega arith) (elim c.if-span_ends.branch [
    | then-span_ends w ↦ rw (← c.span_ends.ensures, w.if-span_ends.true) w.count-is
    | else-span_ends w ↦ rw (← c.span_ends.ensures, w.if-span_ends.false) (omega (arith, w.count-is))
  ]);
}

pub returns : goal.returns
returns c = (λ from. counting_row-end (c.loop-b.invariant.row from) (omega arith), omega (arith, c.loop-b.invariant.few))
