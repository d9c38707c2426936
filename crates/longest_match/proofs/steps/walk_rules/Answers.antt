use Rattle.std.proofs.Common.{◌≡◌, ℕ, arith, length, subst}
use Rattle.automaton.specs.Layers.{rule_at}
use Rattle.longest_match.specs.Layers.{GoFar}
use Rattle.longest_match.proofs.Far.{far_next}
use Rattle.longest_match.proofs.Picking.{prefixed_next, prefixed_all}
use Rattle.longest_match.proofs.steps.walk_rules.Goals as goal

pub walk-w-requires-clause-tabled : goal.walk-w-requires-clause-tabled
walk-w-requires-clause-tabled c =
    let held = c.requires.held in
    record { rule = rule_at held.rules c.loop-rule.rule; table = held.holds.each c.loop-rule.rule (omega (arith, held.holds.count)) }

pub loop-rule-preserved : goal.loop-rule-preserved
loop-rule-preserved c = λ rs h.
    let i = c.loop-rule.invariant rs h in
    let t = h.each c.loop-rule.rule (omega (arith, h.count)) in
    (prefixed_next i.0 (omega arith) (c.walk-w.ensures.len_value _ t), far_next i.1 t.sound (c.walk-w.ensures.further _ t))

pub returns-clause-lengths_after : goal.returns-clause-lengths_after
returns-clause-lengths_after c = λ rs h. prefixed_all (c.loop-rule.invariant rs h).0 (omega (arith, h.count)) (omega arith)

pub returns-clause-go_far : goal.returns-clause-go_far
returns-clause-go_far c = λ rs h.
    let e : c.loop-rule.rule ≡ length rs = omega (arith, h.count) in
    subst (λ (n : ℕ). GoFar rs n c.args.text.now c.loop-rule.far) e (c.loop-rule.invariant rs h).1
