-- `put_list`: a turn puts one token.
use Rattle.std.proofs.Common.{arith, refl, ◌≡◌, ◌+◌, ◌-◌}
use Rattle.spacing.proofs.Separated.{from, from_last}
use Rattle.spacing.proofs.Putting.{spaced_inside, spaced_alone, putting_start, putting_next, putting_full, putting_end}
use Rattle.spacing.proofs.spelling.put_list.Goals as goal

pub loop-k-init : goal.loop-k-init
loop-k-init c = λ rs h. putting_start rs c.args.separator c.args.mode c.args.records.now c.args.pool.now _ _ refl

pub read_record-token-requires : goal.read_record-token-requires
read_record-token-requires c = omega (arith, (c.loop-k.invariant c.requires.held.rules c.requires.held.holds).few)

pub put_token-requires-clause-in_pool : goal.put_token-requires-clause-in_pool
put_token-requires-clause-in_pool c =
    spaced_inside c.requires (omega (arith, (c.loop-k.invariant c.requires.held.rules c.requires.held.holds).few)) c.read_record-token.ensures

pub put_token-requires-clause-at_in_bounds : goal.put_token-requires-clause-at_in_bounds
put_token-requires-clause-at_in_bounds c = (c.loop-k.invariant c.requires.held.rules c.requires.held.holds).within

pub loop-k-preserved : goal.loop-k-preserved
loop-k-preserved c = λ rs h.
    putting_next rs c.args.separator c.args.mode c.args.records.now c.args.pool.now (c.loop-k.invariant rs h) (omega arith) c.read_record-token.ensures
    (c.put_token.ensures rs h (spaced_alone c.requires (omega (arith, (c.loop-k.invariant rs h).few)) c.read_record-token.ensures rs h)
    (from rs c.args.separator c.args.mode c.args.records.now c.args.pool.now c.loop-k.k) (c.loop-k.invariant rs h).laid
    (let q : c.loop-k.k - 1 + 1 ≡ c.loop-k.k = omega arith in
    rw q (from_last rs c.args.separator c.args.mode c.args.records.now c.args.pool.now c.loop-k.k (c.loop-k.invariant rs h).few))) c.in_ok-at.was

pub returns-in_err-at : goal.returns-in_err-at
returns-in_err-at c = λ rs h.
    rw c.from_residual.ensures (putting_full rs c.args.separator c.args.mode c.args.records.now c.args.pool.now (c.loop-k.invariant rs h) (omega arith) c.read_record-token.ensures
    (c.put_token.ensures rs h (spaced_alone c.requires (omega (arith, (c.loop-k.invariant rs h).few)) c.read_record-token.ensures rs h)
    (from rs c.args.separator c.args.mode c.args.records.now c.args.pool.now c.loop-k.k) (c.loop-k.invariant rs h).laid
    (let q : c.loop-k.k - 1 + 1 ≡ c.loop-k.k = omega arith in
    rw q (from_last rs c.args.separator c.args.mode c.args.records.now c.args.pool.now c.loop-k.k (c.loop-k.invariant rs h).few))) c.in_err-at.was)

pub returns : goal.returns
returns c = λ rs h. putting_end rs c.args.separator c.args.mode c.args.records.now c.args.pool.now (c.loop-k.invariant rs h) (omega arith)
