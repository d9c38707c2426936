-- A set was met last, or is known, or is new. Assumes nothing.
use Rattle.std.proofs.Common.{arith, sym, refl}
use Rattle.std.proofs.Math.Seq.{length-take-le}
use Rattle.subsets.proofs.Rows.{learns_known, learns_new}
use Rattle.subsets.proofs.learn.Goals as goal

pub returns-then-set-last : goal.returns-then-set-last
returns-then-set-last c =
    learns_known _ _ _ c.requires.1 c.told-sets _ refl (sym c.if-set-last.true) c.requires.0

pub returns-in-Some : goal.returns-in-Some
returns-in-Some c =
    learns_known _ _ _ c.requires.1 c.told-sets _ refl refl (record { within = omega (arith, c.in-Some.ensures, length-take-le c.args.last.count c.args.sets.now); number = (c.in-Some.ensures).0 })

pub returns : goal.returns
returns c = learns_new _ _ _ c.requires.1 c.told-sets c.in_default.ensures
