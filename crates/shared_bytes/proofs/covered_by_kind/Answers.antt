-- A rule more, of this kind or not.
use mathlib.Core.Path.{◌∙◌}
use native.Mathlib.Omega.{arith}
use Rattle.shared_bytes.proofs.Fitting.{tabled_at}
use Rattle.shared_bytes.proofs.Gathering.{covers_with, covers_without}
use Rattle.shared_bytes.proofs.covered_by_kind.Goals as goal
use Rattle.shared_bytes.proofs.covered_by_kind.Goals.{then-kind_of-kind, else-kind_of-kind}

pub kind_of-requires : goal.kind_of-requires
kind_of-requires c = tabled_at c.requires (omega (arith, c.count_of-count.ensures c.requires.rules c.requires.holds))

pub cover-requires : goal.cover-requires
cover-requires c = tabled_at c.requires (omega (arith, c.count_of-count.ensures c.requires.rules c.requires.holds))

pub loop-k-preserved : goal.loop-k-preserved
loop-k-preserved c = λ rs h.
    let t = h.each c.loop-k.k (omega (arith, c.count_of-count.ensures rs h)) in
    elim c.if-kind_of-kind.branch [
      | then-kind_of-kind w ↦ rw w.set-is (covers_with (c.loop-k.invariant rs h) (w.cover.ensures _ t))
      | else-kind_of-kind w ↦
          rw w.set-is (covers_without (c.loop-k.invariant rs h) (λ z. w.if-kind_of-kind.false (c.kind_of.ensures _ t ∙ z)))
    ]
