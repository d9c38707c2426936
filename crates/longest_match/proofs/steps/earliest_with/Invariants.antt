use Rattle.std.proofs.Common.{◌≡◌, ◌+◌, drop}
use Rattle.longest_match.specs.Steps.{first_with}
use Rattle.longest_match.proofs.steps.earliest_with.Given as goal

-- it has not been met so far, so its first place is the first of those to come
abbrev pub invariant-loop-k : goal.invariant-loop-k
invariant-loop-k l = first_with l.len l.lengths ≡ l.k + first_with l.len (drop l.k l.lengths)
