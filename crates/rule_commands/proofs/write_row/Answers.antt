-- One more byte is gone through. Assumes nothing.
use Rattle.std.proofs.Common.{arith, sym, ◌≡◌, ◌∙◌, add-one}
use Rattle.rule_commands.specs.Layers.{next_low, ended_at, bytes_of, Put}
use Rattle.rule_commands.proofs.Writing.{
  put_none,
  ended_none,
  ended_one,
  writing-row-start,
  writing-row-room,
  writing-row_next,
  writing-row-end,
}
use Rattle.rule_commands.proofs.write_row.Goals.{then-span_ends, else-span_ends, then-run_ends, else-run_ends}
use Rattle.rule_commands.proofs.write_row.Goals as goal

pub loop-b-init : goal.loop-b-init
loop-b-init c = writing-row-start c.args.from c.args.row.now c.args.out.now c.args.to c.requires.row_in_bounds

pub put-at-requires : goal.put-at-requires
put-at-requires c =
    let one = ended_one c.args.from c.loop-b.low c.loop-b.b c.args.row.now (sym c.span_ends.ensures ∙ c.if-span_ends.true) in
    rw one at (writing-row-room c.loop-b.invariant c.requires.row_size c.loop-b-test.true)

pub loop-b-preserved : goal.loop-b-preserved
loop-b-preserved c =
    let from = c.args.from in
    let row = c.args.row.now in
    let low = c.loop-b.low in
    let b = c.loop-b.b in
    let put : Put (bytes_of (ended_at from low b row)) c.loop-b.at c.loop-b.out c.if-span_ends.at c.if-span_ends.out =
    elim c.if-span_ends.branch [
      | then-span_ends w ↦
          rw (ended_one from low b row (sym c.span_ends.ensures ∙ w.if-span_ends.true), w.at-is, w.out-is) w.put-at.ensures
      | else-span_ends w ↦
          rw (ended_none from low b row (sym c.span_ends.ensures ∙ w.if-span_ends.false), w.at-is, w.out-is)
          (put_none c.loop-b.out c.loop-b.at)
    ] in
    let began : c.if-run_ends.low ≡ next_low row low b =
    elim c.if-run_ends.branch [
      | then-run_ends w ↦ rw (← c.run_ends.ensures, w.if-run_ends.true) (w.low-is ∙ add-one b)
      | else-run_ends w ↦ rw (← c.run_ends.ensures, w.if-run_ends.false) w.low-is
    ] in
    writing-row_next c.loop-b.invariant c.requires.row_size c.loop-b-test.true put began

pub returns : goal.returns
returns c = writing-row-end c.loop-b.invariant c.requires.row_size c.requires.row_in_bounds (omega arith)
