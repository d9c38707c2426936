use Rattle.std.proofs.Common.{List}
use Rattle.automaton.specs.Rule.{Rule}
use Rattle.automaton.specs.Layers.{Holds}
use Rattle.longest_match.proofs.Picking.{Prefixed}
use Rattle.longest_match.proofs.steps.longest_prefixes.Given as goal

-- the rules so far, for any that the table holds
abbrev pub invariant-loop-rule : goal.invariant-loop-rule
invariant-loop-rule l = (rs : List Rule) → Holds l.table rs → Prefixed rs l.text l.lengths l.rule
