use Rattle.std.proofs.Common.{◌≡◌}
use Rattle.automaton.specs.Choice.{any}
use Rattle.automaton.proofs.Chains.{Along}
use Rattle.table_builder.specs.Layers.{shares}
use Rattle.table_builder.proofs.shares_byte.Given as goal

abbrev pub invariant-loop-e : goal.invariant-loop-e
invariant-loop-e l = (l.e-iterator.table.now ≡ l.table) × Along l.table l.head l.e-iterator.link (any (shares l.low l.high))
