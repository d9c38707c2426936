-- One more final state is written. Assumes nothing.
use Rattle.std.proofs.Common.{arith}
use Rattle.rule_commands.proofs.Read.{finals_length}
use Rattle.rule_commands.proofs.Writing.{writing_finals_start, writing_finals_room, writing_finals_next, writing_finals_end}
use Rattle.rule_commands.proofs.write_finals.Goals as goal

pub loop-state-init : goal.loop-state-init
loop-state-init c =
    writing_finals_start c.args.finals.now c.args.out.now c.args.to (omega (arith, finals_length c.args.finals.now))

pub put-at-requires : goal.put-at-requires
put-at-requires c = writing_finals_room c.loop-state.invariant (omega arith)

pub loop-state-preserved : goal.loop-state-preserved
loop-state-preserved c = writing_finals_next c.loop-state.invariant (omega arith) c.put-at.ensures

pub returns : goal.returns
returns c = writing_finals_end c.loop-state.invariant (omega (arith, finals_length c.args.finals.now)) (omega arith)
