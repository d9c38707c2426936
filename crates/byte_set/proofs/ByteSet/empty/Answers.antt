-- `empty` has no mark.
use Rattle.byte_set.proofs.Marking.{unmarked}
use Rattle.byte_set.proofs.ByteSet.empty.Goals as goal

pub returns : goal.returns
returns c = unmarked 256
