-- `is_idle`: the rules so far start in their error states.
use Rattle.std.proofs.Common.{[], ◌<◌, length, sym, ◌∙◌, arith}
use borrow.Author.Tests.{eqb-false}
use Rattle.automaton.specs.Rule.{walk}
use Rattle.turns.proofs.Reaching.{all_fail_lem, one_goes}
use Rattle.turns.proofs.running.is_idle.Goals as goal

pub starts_in_error-requires : goal.starts_in_error-requires
starts_in_error-requires c =
    let held = c.requires in
    record { rule = _; table = held.holds.each c.loop-k.k (omega (arith, c.count_of-k-end.ensures held.rules held.holds)) }

pub returns-then-not-starts_in_error : goal.returns-then-not-starts_in_error
unfolding walk
returns-then-not-starts_in_error c = λ rs h.
    let known : c.loop-k.k < length rs = omega (arith, c.count_of-k-end.ensures rs h) in
    let e = sym (c.starts_in_error.ensures _ (h.each c.loop-k.k known)) ∙ c.if-not-starts_in_error.true in
    sym (one_goes rs [] _ known (eqb-false _ _ e))

pub returns : goal.returns
unfolding walk
returns c = λ rs h.
    sym (all_fail_lem rs [] (λ j l. c.loop-k.invariant rs h j (omega (arith, c.count_of-k-end.ensures rs h))))
