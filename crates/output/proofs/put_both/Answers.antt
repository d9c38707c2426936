-- `put_both` puts the separator in front, and the token in front of it. Assumes nothing.
use native.Mathlib.Omega.{arith}
use Rattle.output.proofs.put_both.Goals as goal

pub put_token-requires-2-clause-at_in_bounds : goal.put_token-requires-2-clause-at_in_bounds
put_token-requires-2-clause-at_in_bounds c = omega (arith, (c.put_token.ensures.at _ c.in_ok-start.was).within)
