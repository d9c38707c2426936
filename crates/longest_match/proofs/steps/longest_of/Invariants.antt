use Rattle.longest_match.proofs.Agreeing.{Passed}
use Rattle.longest_match.proofs.steps.longest_of.Given as goal

-- the lengths passed, from the last on
abbrev pub invariant-loop-k : goal.invariant-loop-k
invariant-loop-k l = Passed l.lengths l.k l.len l.mask
