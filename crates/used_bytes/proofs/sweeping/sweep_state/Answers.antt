-- `sweep_state`: what is known after each of its three steps.
use mathlib.Core.Path.{◌∙◌}
use Rattle.automaton.specs.Layers.{first_of, body_at, leaving, state_of}
use Rattle.used_bytes.proofs.Useful.{final-ends, goes, led_chain, led_froms, led_gain, led_passing, passed_sweeping, some_ends}
use Rattle.used_bytes.proofs.Useful.{worklist_same}
use Rattle.used_bytes.proofs.sweeping.sweep_state.Goals as goal

pub sweep_chain-swept-requires : goal.sweep_chain-swept-requires
sweep_chain-swept-requires c =
    let a = c.requires in
    let g = c.gain.ensures a.bound a.rule c.args.end a.states a.transitions a.sweeping
    (final-ends c.args.spot a.sweeping a.led.led (c.is_final.ensures ∙ a.led.spot.final) c.state-s.ensures) in
    led_passing a.led c.head.ensures c.state-s.ensures a.tos g.sweeping a.room a.short a.stamp_below

pub gain-requires-2 : goal.gain-requires-2
gain-requires-2 c =
    let a = c.requires in
    let f = c.is_final.ensures ∙ a.led.spot.final in
    let g = c.gain.ensures a.bound a.rule c.args.end a.states a.transitions a.sweeping
    (final-ends c.args.spot a.sweeping a.led.led f c.state-s.ensures) in
    led_gain a.led c.state-s.ensures
    (passed_sweeping c.args.spot a.sweeping a.led.led f c.state-s.ensures g
    (c.sweep_chain-swept.ensures a.bound (first_of (body_at c.args.table.now a.number)) (leaving (state_of c.args.spot) a.rule.transitions)
    a.transitions g.states (led_chain a.led c.head.ensures) (led_froms a.led c.state-s.ensures) g.sweeping.waiting
    (worklist_same g.sweeping.worklist)))

pub returns : goal.returns
returns c = λ bound k m l gs us w.
    let p = c.args.spot in
    let e = c.state-s.ensures in
    let f = c.is_final.ensures ∙ l.spot.final in
    let g = c.gain.ensures bound m c.args.end gs us w (final-ends p w l.led f e) in
    let q = c.sweep_chain-swept.ensures bound (first_of (body_at c.args.table.now k)) (leaving (state_of p) m.transitions) us
    g.states (led_chain l c.head.ensures) (led_froms l e) g.sweeping.waiting (worklist_same g.sweeping.worklist) in
    goes p w l.led f e g q
    (c.gain-2.ensures bound m _ g.states _ (passed_sweeping p w l.led f e g q) (some_ends p w l.led f e g q))
