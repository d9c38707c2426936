-- `first_refused`: a turn asks one token.
use Rattle.std.specs.Prelude.{Err}
use mathlib.Core.Path.{sym, ap, ◌∙◌}
use native.Mathlib.Omega.{arith}
use Rattle.token_list.proofs.Passes.{record_fits, passing_start, passing_refused, passing_next, passing_end}
use Rattle.token_list.proofs.first_refused.Goals as goal

pub loop-k-init : goal.loop-k-init
loop-k-init g c = λ fault f. passing_start fault _

pub returns-in-Some : goal.returns-in-Some
returns-in-Some g c = λ fault f.
    ap Err c.at.ensures
    ∙ passing_refused (c.loop-k.invariant fault f) (omega arith) c.read_record.ensures
    (sym c.in-Some.is ∙ f _ _ (record_fits _ _ c.read_record.ensures (λ i. omega (arith, c.type_inv.records i))) c.fault.ensures)

pub loop-k-preserved : goal.loop-k-preserved
loop-k-preserved g c = λ fault f.
    passing_next (c.loop-k.invariant fault f) (omega arith) c.read_record.ensures
    (sym c.in_default.is ∙ f _ _ (record_fits _ _ c.read_record.ensures (λ i. omega (arith, c.type_inv.records i))) c.fault.ensures)

pub returns : goal.returns
returns g c = λ fault f. passing_end (c.loop-k.invariant fault f) (omega arith)
