use Rattle.std.proofs.Common.{arith, refl, sym}
use Rattle.longest_match.proofs.Lengths.{first-greatest, first_zero}
use Rattle.longest_match.proofs.steps.choose_from.Goals as goal

pub returns-in_err-longest-clause-picks : goal.returns-in_err-longest-clause-picks
returns-in_err-longest-clause-picks c =
    let z = c.in_err-longest.ensures in
    rw c.from_residual.ensures
    (record {
      longest = sym z;
      earliest = sym (first_zero _ z);
      mask_is = record { zero = λ e. refl; those = λ p. absurd (omega arith) };
    })

-- the greatest stands somewhere
pub returns-in_err-rule-clause-picks : goal.returns-in_err-rule-clause-picks
returns-in_err-rule-clause-picks c =
    let l = c.in_ok-longest.ensures in
    let f = (first-greatest c.args.lengths.now (omega (arith, l.0, l.1))).known in
    absurd (omega (arith, f, rw l.1 at (c.in_err-rule.ensures)))
