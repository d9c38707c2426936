-- `join_tokens`: a turn writes one token. Assumes nothing.
use native.Mathlib.Omega.{arith}
use Rattle.token_list.proofs.Passes.{joining_start, joining_pool, joining_room, joining_next, joining_end}
use Rattle.token_list.proofs.join_tokens.Goals as goal

pub loop-k-init : goal.loop-k-init
loop-k-init c = joining_start _ _ _ c.requires

pub copy-requires : goal.copy-requires
copy-requires c = (
  joining_pool c.loop-k.invariant (omega arith) c.read_record-token.ensures,
  joining_room c.loop-k.invariant (omega arith) c.read_record-token.ensures,
)

pub loop-k-preserved : goal.loop-k-preserved
loop-k-preserved c = joining_next c.loop-k.invariant (omega arith) c.read_record-token.ensures c.copy.ensures

pub returns : goal.returns
returns c = joining_end c.loop-k.invariant (omega arith)
