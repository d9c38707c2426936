-- The search by its states. Assumes nothing.
use Rattle.std.proofs.Common.{arith, ◌*◌, ◌+◌, ◌≡◌, length}
use Rattle.std.proofs.lemmas.Slice.{take-put_mid}
use borrow.Rule.Slice.PartMut.{same_len_mid}
use Rattle.std.proofs.lemmas.Grind.{common_steps}
use Rattle.subsets.proofs.Exploring.{exploring_start, exploring_next, exploring_many, exploring_end}
use Rattle.subsets.proofs.explore.Goals as goal

pub loop-k-init : goal.loop-k-init
loop-k-init c = exploring_start _ _ _ _ _ (omega arith) (omega arith)

pub returns-in_err-count : goal.returns-in_err-count
returns-in_err-count c =
    rw c.from_residual.ensures
    (exploring_many c.loop-k.invariant c.loop-k-test.true c.ahead_of-ahead.ensures c.in_err-count.ensures)

pub loop-k-preserved : goal.loop-k-preserved
loop-k-preserved c =
    let row : length c.fill_row.new.targets ≡ 256 = grind (arith, common_steps) in
    let room = same_len_mid _ _ c.loop-k.targets c.fill_row.new.targets c.fill_row.auto.targets in
    exploring_next c.loop-k.invariant c.loop-k-test.true c.ahead_of-ahead.ensures c.fill_row.array_long (omega arith)
    c.in_ok-count.ensures
    (take-put_mid (256 * c.loop-k.k) _ c.loop-k.targets c.fill_row.new.targets (256 * (c.loop-k.k + 1)) (omega arith) (omega arith))

pub returns : goal.returns
returns c = exploring_end c.loop-k.invariant c.loop-k-test.false
