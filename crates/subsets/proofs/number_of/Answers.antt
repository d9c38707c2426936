-- The number of a set by its place among the known ones. Assumes nothing.
use Rattle.std.proofs.Common.{arith, sym, ◌∙◌}
use Rattle.subsets.proofs.Finding.{number_at, number_past}
use Rattle.subsets.proofs.Reaching.{number_none}
use Rattle.subsets.proofs.number_of.Goals as goal

pub returns-then-set-eq0 : goal.returns-then-set-eq0
returns-then-set-eq0 c = (rw (c.if-set-eq0.true, number_none), omega arith)

pub returns-in_err-k : goal.returns-in_err-k
returns-in_err-k c =
    rw c.from_residual.ensures (number_past _ _ c.if-set-eq0.false (sym c.find.ensures ∙ c.in_err-k.was))

pub returns : goal.returns
returns c = number_at _ _ c.if-set-eq0.false _ (sym c.find.ensures ∙ c.in_ok-k.was)
