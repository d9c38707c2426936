-- Each return is one case of the outcome. Assumes nothing.
use Rattle.std.proofs.Common.{arith, ◌≡◌, ◌+◌, ◌*◌, ℕ, List, length, ap, Err}
use Rattle.output.proofs.Written.{written_short}
use Rattle.rule_commands.specs.Spans.{spans_of}
use Rattle.rule_commands.specs.Bytes.{table_bytes}
use Rattle.rule_commands.specs.Layers.{rows_of}
use Rattle.rule_commands.proofs.Writing.{table-length, put_written}
use Rattle.rule_commands.proofs.write_rule.Goals as goal

measured : (tag kind : ℕ) (finals targets : List ℕ) (rows n : ℕ) → n ≡ length (spans_of 0 (rows_of targets rows))
    → 9 + 2 * length finals + 5 * n ≡ length (table_bytes tag kind finals (rows_of targets rows))
measured tag kind finals targets rows n e = omega (arith, table-length tag kind finals (rows_of targets rows))

pub returns-then-out-total : goal.returns-then-out-total
returns-then-out-total c =
    let a = c.args in
    written_short (table_bytes a.tag a.kind a.finals.now (rows_of a.targets.now a.row_count)) a.out.now
    (measured a.tag a.kind a.finals.now a.targets.now a.row_count c.count_spans.result c.count_spans.ensures.0) c.if-out-total.true (ap Err c.at.ensures)

pub write_commands-requires-clause-rows_in_bounds : goal.write_commands-requires-clause-rows_in_bounds
write_commands-requires-clause-rows_in_bounds c =
    let a = c.args in
    omega (
      arith,
      measured a.tag a.kind a.finals.now a.targets.now a.row_count c.count_spans.result c.count_spans.ensures.0,
      c.if-out-total.false,
    )

pub returns : goal.returns
returns c =
    let a = c.args in
    put_written (table_bytes a.tag a.kind a.finals.now (rows_of a.targets.now a.row_count)) a.out.now
    (omega (
      arith,
      measured a.tag a.kind a.finals.now a.targets.now a.row_count c.count_spans.result c.count_spans.ensures.0,
      c.if-out-total.false,
    ))
    c.write_commands.ensures
