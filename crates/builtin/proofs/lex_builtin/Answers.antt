-- `lex_builtin`: the built-in book is accepted, with the built-in rules.
use Rattle.builtin.proofs.Accepted.{builtin_outcome}
use Rattle.builtin.proofs.lex_builtin.Goals as goal

pub returns-clause-value : goal.returns-clause-value
returns-clause-value c = rw (builtin_outcome c.args.text.now c.args.records.now c.args.masks.now) c.lex_lent.ensures.answer

pub returns-clause-records_after : goal.returns-clause-records_after
returns-clause-records_after c = rw (builtin_outcome c.args.text.now c.args.records.now c.args.masks.now) c.lex_lent.ensures.records

pub returns-clause-masks_after : goal.returns-clause-masks_after
returns-clause-masks_after c = rw (builtin_outcome c.args.text.now c.args.records.now c.args.masks.now) c.lex_lent.ensures.masks
