-- One more position is gone through. Assumes nothing.
use Rattle.std.proofs.Common.{refl, ap, ◌∙◌}
use lib.Bits.{bit_or, or_zero_r}
use Rattle.subsets.specs.States.{after_below}
use Rattle.subsets.proofs.Following.{after_some, after_none}
use Rattle.subsets.proofs.after.Goals.{then-set-p-eq1, else-set-p-eq1}
use Rattle.subsets.proofs.after.Goals as goal

pub loop-p-init : goal.loop-p-init
unfolding after_below
loop-p-init c = refl

pub loop-p-preserved : goal.loop-p-preserved
loop-p-preserved c = elim c.if-set-p-eq1.branch [
  | then-set-p-eq1 w ↦ ap (bit_or c.loop-p.all) w.all-is
      ∙ after_some c.args.follow.now c.args.set c.loop-p.p c.loop-p.invariant w.if-set-p-eq1.true
  | else-set-p-eq1 w ↦ ap (bit_or c.loop-p.all) w.all-is
      ∙ (or_zero_r c.loop-p.all ∙ after_none c.args.follow.now c.args.set c.loop-p.p c.loop-p.invariant w.if-set-p-eq1.false)
]
