-- `measure`: a turn checks one token, and adds its bytes.
use Rattle.std.proofs.Common.{refl, arith, below_more}
use Rattle.record.proofs.Encoding.{count_encoded}
use Rattle.printer.proofs.ByRules.{answered_long, answered_fault, answered_checked}
use Rattle.token_list.proofs.Passes.{faultless_pool}
use Rattle.slices.proofs.Passes.{more, here, no_more}
use Rattle.slices.proofs.Passes.{measuring_start, measuring_refused, measuring_next, measuring_end}
use Rattle.slices.proofs.printing.measure.Goals as goal

pub loop-k-init : goal.loop-k-init
loop-k-init c = record { fits = λ i l. absurd (omega arith); measuring = λ rs h. measuring_start rs _ _ }

pub returns-in-Err-clause-counts : goal.returns-in-Err-clause-counts
returns-in-Err-clause-counts c = λ rs h.
    let l = c.loop-k-test.true in
    rw c.at.ensures
    (λ out. answered_fault rs _ _ out (omega (arith, count_encoded c.args.tokens.now, c.requires.few))
    (measuring_refused (c.loop-k.invariant.measuring rs h) (more _ l) (here c.args.tokens.now l c.token_len.ensures.fits)
    (c.in-Err.ensures.counts rs h)))

pub loop-k-preserved : goal.loop-k-preserved
loop-k-preserved c =
    let l = c.loop-k-test.true in
    let f = c.token_len.ensures.fits in
    record {
      fits = below_more _ _ c.loop-k.invariant.fits f;
      measuring = λ rs h.
          let n = c.in-Ok.ensures.counts rs h in
          rw n.0 (measuring_next (c.loop-k.invariant.measuring rs h) (more _ l) (here c.args.tokens.now l f) n.1 f.len);
    }

pub returns-then-total-gt-TEXT-clause-counts : goal.returns-then-total-gt-TEXT-clause-counts
returns-then-total-gt-TEXT-clause-counts c = λ rs h.
    let m = measuring_end (c.loop-k.invariant.measuring rs h) (no_more c.args.tokens.now (omega arith)) in
    rw c.at-then-total-gt-TEXT.ensures
    (λ out. answered_checked rs _ _ out (omega (arith, count_encoded c.args.tokens.now, c.requires.few)) m.0
    (answered_long rs _ out m.1 (omega arith) refl))

pub returns-clause-counts : goal.returns-clause-counts
returns-clause-counts c = λ rs h.
    let m = measuring_end (c.loop-k.invariant.measuring rs h) (no_more c.args.tokens.now (omega arith)) in
    record { faultless = m.0; spanned = record { each = faultless_pool rs _ _ 0 m.0; bytes = m.1; short = omega arith } }
