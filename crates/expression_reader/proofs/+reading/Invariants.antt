-- `read_alternatives`, `read_piece` and `read_sequence`, which call each other: the measure is what is left of the text, then the level.
-- Assumes nothing.
use Rattle.std.proofs.Common.{◌+◌, ◌*◌, ◌-◌, length}
use Rattle.expression_reader.proofs.+reading.Given as goal

abbrev pub decreases-read_alternatives : goal.decreases-read_alternatives
decreases-read_alternatives l = 4 * (length l.text.now - l.at) + 4

abbrev pub decreases-read_piece : goal.decreases-read_piece
decreases-read_piece l = 4 * (length l.text.now - l.at) + 2

abbrev pub decreases-read_sequence : goal.decreases-read_sequence
decreases-read_sequence l = 4 * (length l.text.now - l.at) + 3
