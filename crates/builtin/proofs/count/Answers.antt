-- `count`: the invariant is `Cutting` by the built-in rules.
use Rattle.std.proofs.Common.{arith}
use Rattle.longest_match.proofs.Cutting.{cutting_next, cutting_stop, lex_stop, lex-end}
use Rattle.builtin.specs.Book.{builtin_rules}
use Rattle.builtin.proofs.Scanned.{picked}
use Rattle.builtin.proofs.count.Goals as goal

pub loop-at-preserved : goal.loop-at-preserved
loop-at-preserved c = cutting_next c.loop-at.invariant (picked c.in-Some.ensures).chooses c.in-Some.ensures.some

pub returns-after-loop-at : goal.returns-after-loop-at
returns-after-loop-at c = cutting_stop c.loop-at.invariant (lex-end builtin_rules c.args.text.now c.loop-at.at (omega arith))

pub returns-in_default : goal.returns-in_default
returns-in_default c = cutting_stop c.loop-at.invariant (lex_stop builtin_rules _ c.in_default.ensures)
