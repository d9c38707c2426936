-- `scan`: the invariant is `Walking`.
use Rattle.std.proofs.Common.{◌<◌, get_or, arith}
use Rattle.builtin.proofs.Scanned.{walked_start, reaches, walked_accept, walked_run, walked_pass, scanned_end, scanned_dead}
use Rattle.builtin.proofs.scanner.scan.Goals as goal

pub loop-i-init : goal.loop-i-init
loop-i-init c = record { walked = walked_start _; some = tt }

pub returns-then-s-eq-DEAD : goal.returns-then-s-eq-DEAD
returns-then-s-eq-DEAD c =
    let byte : get_or c.args.text.now c.loop-i.i 0 < 256 = omega (arith, c.type_inv.text c.loop-i.i) in
    scanned_dead c.loop-i.invariant c.loop-i-test.true byte c.step-s.ensures (omega arith)

pub run-i-requires-clause-state : goal.run-i-requires-clause-state
run-i-requires-clause-state c =
    let byte : get_or c.args.text.now c.loop-i.i 0 < 256 = omega (arith, c.type_inv.text c.loop-i.i) in
    reaches c.loop-i.invariant.walked c.loop-i-test.true byte c.step-s.ensures

pub loop-i-preserved-then-s-ge-ACCEPTING : goal.loop-i-preserved-then-s-ge-ACCEPTING
loop-i-preserved-then-s-ge-ACCEPTING c =
    let byte : get_or c.args.text.now c.loop-i.i 0 < 256 = omega (arith, c.type_inv.text c.loop-i.i) in
    record {
      walked =
          walked_run (walked_accept c.loop-i.invariant.walked c.loop-i-test.true byte c.step-s.ensures (omega arith)) (omega arith)
          (λ k. omega (arith, c.type_inv.text k)) c.run-i.ensures;
      some = omega (arith, c.run-i.ensures.further);
    }

pub loop-i-preserved : goal.loop-i-preserved
loop-i-preserved c =
    let byte : get_or c.args.text.now c.loop-i.i 0 < 256 = omega (arith, c.type_inv.text c.loop-i.i) in
    record {
      walked = walked_pass c.loop-i.invariant.walked c.loop-i-test.true byte c.step-s.ensures (omega arith);
      some = c.loop-i.invariant.some;
    }

pub returns : goal.returns
returns c = scanned_end c.loop-i.invariant c.loop-i-test.false
