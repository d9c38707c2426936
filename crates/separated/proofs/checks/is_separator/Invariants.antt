-- `is_separator`: no separator rule of the tag so far.
use Rattle.std.proofs.Common.{List}
use Rattle.automaton.specs.Rule.{Rule}
use Rattle.automaton.specs.Layers.{Holds}
use Rattle.separated.proofs.Checking.{Plainly}
use Rattle.separated.proofs.checks.is_separator.Given as goal

abbrev pub invariant-loop-k : goal.invariant-loop-k
invariant-loop-k l = (rs : List Rule) → Holds l.table rs → Plainly rs l.tag l.k
