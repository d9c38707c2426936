-- `fill`: `Filling`, for any rules that the table holds.
use Rattle.std.proofs.Common.{length, ◌-◌, List}
use Rattle.automaton.specs.Rule.{Rule}
use Rattle.automaton.specs.Layers.{Holds}
use Rattle.lexer.proofs.Filled.{Filling}
use Rattle.lexer.proofs.filling.fill.Given as goal

abbrev pub invariant-loop-place : goal.invariant-loop-place
invariant-loop-place l = (rs : List Rule) → Holds l.table rs → Filling rs l.text l.fn.records l.records l.fn.masks l.masks l.place l.tokens

abbrev pub decreases-loop-place : goal.decreases-loop-place
decreases-loop-place l = length l.text - l.place
