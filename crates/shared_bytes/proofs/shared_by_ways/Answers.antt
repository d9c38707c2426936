-- Rules that are narrow fit the small working storage, and all fit the large.
use native.Mathlib.Omega.{arith}
use Rattle.shared_bytes.proofs.Fitting.{fitting_first, fitting_wide, tabled_at}
use Rattle.shared_bytes.proofs.shared_by_ways.Goals as goal

pub is_narrow-requires : goal.is_narrow-requires
is_narrow-requires c = tabled_at c.requires (omega (arith, c.count_of-k-end.ensures c.requires.rules c.requires.holds))

pub shared_in-requires : goal.shared_in-requires
shared_in-requires c = (_, fitting_wide c.requires, omega arith, omega arith, omega arith)

pub shared_in-requires-2 : goal.shared_in-requires-2
shared_in-requires-2 c = (
  _,
  fitting_first c.requires (c.loop-k.invariant c.requires.rules c.requires.holds)
      (omega (arith, c.count_of-k-end.ensures c.requires.rules c.requires.holds)),
  omega arith,
  omega arith,
  omega arith,
)
