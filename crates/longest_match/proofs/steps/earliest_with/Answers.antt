use Rattle.std.proofs.Common.{arith}
use Rattle.longest_match.proofs.Lengths.{first_here, first_next, first_end}
use Rattle.longest_match.proofs.steps.earliest_with.Goals as goal

pub returns-then-lengths-k : goal.returns-then-lengths-k
returns-then-lengths-k c =
    let k = c.loop-k.k in
    omega (arith, c.loop-k.invariant, first_here c.args.len c.args.lengths.now k (omega arith) (grind (arith, c.if-lengths-k.true)))

pub loop-k-preserved : goal.loop-k-preserved
loop-k-preserved c =
    let k = c.loop-k.k in
    omega (arith, c.loop-k.invariant, first_next c.args.len c.args.lengths.now k (omega arith) (λ e. grind (arith, c.if-lengths-k.false)))

pub returns : goal.returns
returns c = omega (arith, c.loop-k.invariant, first_end c.args.len c.args.lengths.now c.loop-k.k (omega arith))
