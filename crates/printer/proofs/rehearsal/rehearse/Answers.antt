-- `rehearse`: too many bytes. Assumes nothing.
use Rattle.printer.proofs.Rehearsing.{rehearses_beyond}
use Rattle.printer.proofs.rehearsal.rehearse.Goals as goal

pub returns-in-None : goal.returns-in-None
returns-in-None c = λ rs h. rw c.at.ensures (rehearses_beyond rs _ _ _ (c.measure.ensures.beyond c.in-None.is))
