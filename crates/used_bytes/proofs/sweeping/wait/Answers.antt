-- `wait` puts the transition turned round.
use mathlib.Core.Path.{◌≡◌, sym, ap, ◌∙◌}
use Rattle.automaton.specs.Layers.{state_of}
use Rattle.used_bytes.proofs.Swept.{waiting_put}
use Rattle.used_bytes.proofs.sweeping.wait.Goals as goal

pub returns : goal.returns
returns c = λ bound us w.
    let a = c.requires in
    let e : a.0 ≡ bound = sym a.1.cells ∙ w.cells in
    waiting_put w a.2 a.3 _ _ _ _ _ _ (rw (← e) a.5) (rw (← e) a.6) (c.state-to.ensures ∙ ap state_of c.spot.ensures)
    c.low-low.ensures c.high-high.ensures c.head-head.ensures c.put_edge.ensures c.link_state.ensures
