-- What is not covered by both kinds is not shared.
use mathlib.Core.Path.{sym, ap, ◌∙◌}
use Rattle.byte_set.specs.Layers.{lowest_of}
use Rattle.shared_bytes.proofs.Gathering.{covers-apart}
use Rattle.shared_bytes.proofs.shared_byte.Goals as goal

pub returns-else-overlaps : goal.returns-else-overlaps
returns-else-overlaps c = λ rs h.
    ap lowest_of (sym (covers-apart rs (c.covered_by_kind-plain.ensures rs h) (c.covered_by_kind-separators.ensures rs h)
    (sym c.overlaps.ensures ∙ c.if-overlaps.false)))
