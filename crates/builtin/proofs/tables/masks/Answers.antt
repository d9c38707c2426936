-- The table is the very list of its definition.
use Rattle.std.proofs.Common.{refl}
use Rattle.builtin.specs.Layers.{mask_table}
use Rattle.builtin.proofs.tables.masks.Goals as goal

pub returns : goal.returns
unfolding mask_table
returns c = refl
