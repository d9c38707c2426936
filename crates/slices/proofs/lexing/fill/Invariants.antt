-- `fill`: `Filling`, of the bytes that the tokens and the masks say, for any rules that the table holds.
use Rattle.std.proofs.Common.{length, ◌-◌, List}
use Rattle.automaton.specs.Rule.{Rule}
use Rattle.automaton.specs.Layers.{Holds}
use Rattle.record.specs.Encoding.{encoded}
use Rattle.record.specs.Masks.{mask_bytes}
use Rattle.lexer.proofs.Filled.{Filling}
use Rattle.slices.proofs.lexing.fill.Given as goal

abbrev pub invariant-loop-place : goal.invariant-loop-place
invariant-loop-place l =
    (rs : List Rule) → Holds l.table rs
    → Filling rs l.text (encoded l.fn.tokens) (encoded l.tokens) (mask_bytes l.fn.masks) (mask_bytes l.masks) l.place l.count

abbrev pub decreases-loop-place : goal.decreases-loop-place
decreases-loop-place l = length l.text - l.place
