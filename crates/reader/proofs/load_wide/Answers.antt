-- A cell for each state. Assumes nothing.
use Rattle.automaton.specs.Rule.{state_count}
use Rattle.reader.proofs.Loading.{going_wide}
use Rattle.reader.proofs.load_wide.Goals as goal

pub read_on-requires : goal.read_on-requires
read_on-requires c = going_wide state_count c.requires.0 c.copy_cells.ensures
