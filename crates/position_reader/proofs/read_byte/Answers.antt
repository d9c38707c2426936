-- `read_byte`: what is marked is what a byte takes. Assumes nothing.
use Rattle.position_reader.proofs.Parts.{position_read, byte-takes}
use Rattle.position_reader.proofs.read_byte.Goals as goal

pub returns : goal.returns
returns c =
    position_read _ _ _ _ _ _ _ _ _ _ c.bit.ensures
    c.position_part.ensures c.mark.ensures (λ x l. byte-takes c.args.b x)
