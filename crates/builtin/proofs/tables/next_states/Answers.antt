-- The table is the very list of its definition.
use Rattle.std.proofs.Common.{refl}
use Rattle.builtin.specs.Layers.{next_table}
use Rattle.builtin.proofs.tables.next_states.Goals as goal

pub returns : goal.returns
unfolding next_table
returns c = refl
