-- `first_refused`: no fault among the first tokens.
use mathlib.Core.Option.{Option}
use Rattle.answer.specs.declared.Reason.{Reason}
use Rattle.record.specs.declared.TokenRecord.{TokenRecord}
use Rattle.token_list.specs.Layers.{Finds}
use Rattle.token_list.proofs.Passes.{Passing}
use Rattle.token_list.proofs.first_refused.Given as goal

abbrev pub invariant-loop-k : goal.invariant-loop-k
invariant-loop-k g l = (fault : TokenRecord → Option Reason) → Finds (goal.F-post g l.fault) fault → Passing fault l.records l.k
