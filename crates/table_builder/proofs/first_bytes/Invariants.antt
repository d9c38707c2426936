use Rattle.std.proofs.Common.{◌≡◌}
use Rattle.table_builder.proofs.Spanning.{Spanning}
use Rattle.table_builder.proofs.first_bytes.Given as goal

abbrev pub invariant-loop-e : goal.invariant-loop-e
invariant-loop-e l = (l.e-iterator.table.now ≡ l.table) × Spanning l.table l.head l.e-iterator.link l.low l.high
