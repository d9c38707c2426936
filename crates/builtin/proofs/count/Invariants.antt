-- `count`: `Cutting` by the built-in rules.
use Rattle.std.proofs.Common.{length, ◌-◌}
use Rattle.longest_match.proofs.Cutting.{Cutting}
use Rattle.builtin.specs.Book.{builtin_rules}
use Rattle.builtin.proofs.count.Given as goal

abbrev pub invariant-loop-at : goal.invariant-loop-at
invariant-loop-at l = Cutting builtin_rules l.text l.at l.tokens

abbrev pub decreases-loop-at : goal.decreases-loop-at
decreases-loop-at l = length l.text - l.at
