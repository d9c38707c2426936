-- `lacking`: there is room enough without counting.
use Rattle.std.proofs.Common.{drop, length-drop, arith}
use Rattle.automaton.specs.Rule.{state_count}
use Rattle.longest_match.proofs.Held.{held_sound}
use Rattle.turns.proofs.Turning.{turn_short, turn_paid}
use Rattle.turns.proofs.by_rules.lacking.Goals as goal

pub returns-then-min-room : goal.returns-then-min-room
returns-then-min-room c = λ rs h.
    let text = drop c.args.place c.args.text.now in
    omega (arith, turn_paid state_count rs (held_sound h) text c.args.budget, simp length-drop at (turn_short rs text c.args.budget))
