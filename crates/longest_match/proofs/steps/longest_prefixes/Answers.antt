use Rattle.std.proofs.Common.{arith}
use Rattle.automaton.specs.Layers.{rule_at}
use Rattle.longest_match.proofs.Picking.{prefixed_next, prefixed_all}
use Rattle.longest_match.proofs.steps.longest_prefixes.Goals as goal

pub longest_prefix-requires : goal.longest_prefix-requires
longest_prefix-requires c =
    let held = c.requires.held in
    record { rule = rule_at held.rules c.loop-rule.rule; table = held.holds.each c.loop-rule.rule (omega (arith, held.holds.count)) }

pub loop-rule-preserved : goal.loop-rule-preserved
loop-rule-preserved c = λ rs h.
    prefixed_next (c.loop-rule.invariant rs h) (omega arith)
    (grind (arith, c.longest_prefix.ensures _ (h.each c.loop-rule.rule (omega (arith, h.count)))))

pub returns : goal.returns
returns c = λ rs h. prefixed_all (c.loop-rule.invariant rs h) (omega (arith, h.count)) (omega arith)
