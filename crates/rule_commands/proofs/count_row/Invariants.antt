-- The bytes below b are gone through. Assumes nothing.
use Rattle.std.proofs.Common.{ℕ, ◌≤◌}
use Rattle.rule_commands.proofs.Measuring.{CountingRow}
use Rattle.rule_commands.proofs.count_row.Given as goal

abbrev pub invariant-loop-b : goal.invariant-loop-b
invariant-loop-b l = record { few : l.count ≤ l.b; row : (from : ℕ) → CountingRow from l.row l.count l.b }
