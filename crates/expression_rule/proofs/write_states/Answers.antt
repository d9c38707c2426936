-- `write_states`: the rows and final states are what `write_rule` is given.
use Rattle.expression_rule.proofs.Compiling.{stood_rows}
use Rattle.expression_rule.proofs.write_states.Goals as goal

pub returns : goal.returns
returns c = λ rows s. rw (stood_rows s, ← c.list_finals-found.ensures.1) c.write_rule.ensures
