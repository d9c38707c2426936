-- `put_list`: the tokens from number k on with their separators.
use Rattle.std.proofs.Common.{List}
use Rattle.automaton.specs.Rule.{Rule}
use Rattle.automaton.specs.Layers.{Holds}
use Rattle.spacing.proofs.Putting.{Putting}
use Rattle.spacing.proofs.spelling.put_list.Given as goal

abbrev pub invariant-loop-k : goal.invariant-loop-k
invariant-loop-k l = (rs : List Rule) → Holds l.table rs → Putting rs l.separator l.mode l.records l.pool l.scratch l.at l.k
