use Rattle.output.proofs.Copying.{copying_next}
use Rattle.output.proofs.copy.Goals as goal

pub loop-i-preserved : goal.loop-i-preserved
loop-i-preserved c =
    copying_next c.args.from.now c.args.to.now c.loop-i.to c.args.place c.args.at c.args.len c.loop-i.i c.requires.0 c.requires.1
    c.loop-i-test.true c.loop-i.invariant
