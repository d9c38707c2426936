-- Nothing to find.
use mathlib.Core.Path.{sym, ap, ◌∙◌}
use Rattle.byte_set.specs.Layers.{lowest_of}
use Rattle.byte_set.proofs.Marking.{lowest_none}
use Rattle.byte_set.proofs.ByteSet.lowest_common.Goals as goal

pub returns-else-overlaps : goal.returns-else-overlaps
returns-else-overlaps c = ap lowest_of (sym (lowest_none _ 256 (sym c.overlaps.ensures ∙ c.if-overlaps.false)))
