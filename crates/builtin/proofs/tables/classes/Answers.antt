-- The table is the very list of its definition.
use Rattle.std.proofs.Common.{refl}
use Rattle.builtin.specs.Classes.{class_table, tabulate, class_of}
use Rattle.builtin.proofs.tables.classes.Goals as goal

pub returns : goal.returns
unfolding class_table tabulate class_of
returns c = refl
