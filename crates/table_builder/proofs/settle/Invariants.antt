use Rattle.table_builder.specs.Layers.{Settles}
use Rattle.table_builder.proofs.settle.Given as goal

abbrev pub invariant-loop-i : goal.invariant-loop-i
invariant-loop-i l = Settles l.rows l.stamp l.first l.i l.initial.table l.table
