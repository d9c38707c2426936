-- `run`: `Running`, for any rules that the table holds.
use Rattle.std.proofs.Common.{length, ◌-◌, List}
use Rattle.automaton.specs.Rule.{Rule}
use Rattle.automaton.specs.Layers.{Holds}
use Rattle.turns.proofs.Taking.{Running}
use Rattle.turns.proofs.running.run.Given as goal

abbrev pub invariant-loop-at : goal.invariant-loop-at
invariant-loop-at l = (rs : List Rule) → Holds l.table rs
    → Running l.writing rs l.text l.place l.budget l.fn.records l.records l.fn.masks l.masks l.at l.left l.tokens

abbrev pub decreases-loop-at : goal.decreases-loop-at
decreases-loop-at l = length l.text - l.at
