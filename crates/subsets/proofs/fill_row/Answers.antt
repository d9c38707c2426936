-- A row by its sets. Assumes nothing.
use Rattle.std.proofs.Common.{arith, sym, ◌≡◌, ℕ, List, length, ◌∙◌}
use lib.ListN.{length-map}
use Rattle.subsets.specs.States.{sets_ahead}
use Rattle.subsets.proofs.Rows.{filling_start, filling_next, filling_many, filling_end, row_at_lem}
use Rattle.subsets.proofs.fill_row.Goals as goal

long : (takers : List ℕ) (ahead : ℕ) → length takers ≡ 256 → length (sets_ahead takers ahead) ≡ 256
long takers ahead l = length-map takers _ ∙ l

pub loop-b-init : goal.loop-b-init
loop-b-init c = filling_start _ _ _ _ c.told-sets c.requires.0

pub returns-then-last-gt-MAX_STATES : goal.returns-then-last-gt-MAX_STATES
returns-then-last-gt-MAX_STATES c =
    filling_many c.loop-b.invariant (long _ c.args.ahead c.told-takers) c.loop-b-test.true
    (sym (row_at_lem c.args.takers.now c.args.ahead c.loop-b.b)) c.learn-last.array_long c.learn-last.ensures (omega arith)

pub loop-b-preserved : goal.loop-b-preserved
loop-b-preserved c =
    filling_next c.loop-b.invariant (long _ c.args.ahead c.told-takers) c.loop-b-test.true
    (sym (row_at_lem c.args.takers.now c.args.ahead c.loop-b.b)) c.learn-last.array_long c.learn-last.ensures (omega arith) (omega arith)

pub returns : goal.returns
returns c = filling_end c.loop-b.invariant (long _ c.args.ahead c.told-takers) (omega arith) (omega arith)
