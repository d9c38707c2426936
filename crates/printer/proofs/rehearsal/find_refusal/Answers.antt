-- `find_refusal`: the first fault, or else what was found. Assumes nothing.
use Rattle.printer.proofs.Rehearsing.{passed_faultless, trouble_fault}
use Rattle.printer.proofs.rehearsal.find_refusal.Goals as goal

pub returns-in-Ok : goal.returns-in-Ok
returns-in-Ok c = λ rs h. c.requires.suspected rs h (passed_faultless rs _ _ (c.in-Ok.ensures rs h))

pub returns-in-Err : goal.returns-in-Err
returns-in-Err c = λ rs h. trouble_fault rs _ _ (c.in-Err.ensures rs h)
