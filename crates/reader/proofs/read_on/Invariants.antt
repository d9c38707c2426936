-- The book's bytes before the cursor have made what the state, the table and the cells hold.
use Rattle.std.proofs.Common.{◌-◌, length}
use Rattle.reader.specs.Layers.{Going}
use Rattle.reader.proofs.read_on.Given as goal

abbrev pub invariant-loop-cursor : goal.invariant-loop-cursor
invariant-loop-cursor l = Going l.strict l.book l.table l.rows l.cursor.at l.state

abbrev pub decreases-loop-cursor : goal.decreases-loop-cursor
decreases-loop-cursor l = length l.book - l.cursor.at
