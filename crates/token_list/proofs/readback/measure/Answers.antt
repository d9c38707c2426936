-- `measure`: a turn adds one token's bytes. Assumes nothing.
use native.Mathlib.Omega.{arith}
use Rattle.token_list.proofs.Settling.{spanning_start, spanning_outside, spanning_next, spanning_long, spanning_end}
use Rattle.token_list.proofs.readback.measure.Goals as goal

pub loop-k-init : goal.loop-k-init
loop-k-init c = spanning_start _ _

pub returns-then-pool-token : goal.returns-then-pool-token
returns-then-pool-token c = spanning_outside c.loop-k.invariant (omega arith) c.read_record-token.ensures (omega arith)

pub returns-then-total-gt-TEXT : goal.returns-then-total-gt-TEXT
returns-then-total-gt-TEXT c = spanning_long c.loop-k.invariant (omega arith) c.read_record-token.ensures (omega arith) (omega arith)

pub loop-k-preserved : goal.loop-k-preserved
loop-k-preserved c = spanning_next c.loop-k.invariant (omega arith) c.read_record-token.ensures (omega arith) (omega arith)

pub returns : goal.returns
returns c = spanning_end c.loop-k.invariant (omega arith)
