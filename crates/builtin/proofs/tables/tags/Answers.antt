-- The table is the very list of its definition.
use Rattle.std.proofs.Common.{refl}
use Rattle.builtin.specs.Layers.{tag_table}
use Rattle.builtin.proofs.tables.tags.Goals as goal

pub returns : goal.returns
unfolding tag_table
returns c = refl
