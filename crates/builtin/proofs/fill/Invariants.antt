-- `fill`: `Filling` by the built-in rules.
use Rattle.std.proofs.Common.{length, ◌-◌}
use Rattle.lexer.proofs.Filled.{Filling}
use Rattle.builtin.specs.Book.{builtin_rules}
use Rattle.builtin.proofs.fill.Given as goal

abbrev pub invariant-loop-place : goal.invariant-loop-place
invariant-loop-place l = Filling builtin_rules l.text l.fn.records l.records l.fn.masks l.masks l.place l.tokens

abbrev pub decreases-loop-place : goal.decreases-loop-place
decreases-loop-place l = length l.text - l.place
