-- The sets below b are numbered. Assumes nothing.
use Rattle.subsets.specs.States.{sets_ahead}
use Rattle.subsets.proofs.Rows.{Filling}
use Rattle.subsets.proofs.fill_row.Given as goal

abbrev pub invariant-loop-b : goal.invariant-loop-b
invariant-loop-b l = Filling (sets_ahead l.takers l.ahead) l.initial.sets l.count l.sets l.targets l.last l.b
