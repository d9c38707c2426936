-- `read_period`: the two runs marked are what a period takes. Assumes nothing.
use Rattle.position_reader.proofs.Parts.{position_read, period_takes}
use Rattle.position_reader.proofs.Marks.{marked_or}
use Rattle.position_reader.proofs.read_period.Goals as goal

pub returns : goal.returns
returns c =
    position_read _ _ _ _ _ _ _ _ _ _ c.bit-set.ensures
    c.position_part.ensures (marked_or c.mark.ensures c.mark-2.ensures) period_takes
