-- `print_passed` writes what is put together.
use Rattle.std.proofs.Common.{rules, arith}
use Rattle.spacing.specs.Separators.{spelled}
use Rattle.separated.proofs.Answering.{passed_spaceable, answered_full, answered_at}
use Rattle.separated.proofs.print_passed.Goals as goal

pub put_list-requires : goal.put_list-requires
put_list-requires c = passed_spaceable c.requires.passed

pub write_from-requires : goal.write_from-requires
write_from-requires c = (
  ((c.put_list.ensures c.requires.passed.held.rules c.requires.passed.held.holds).at _ c.in-Some.is).within,
  omega (arith, c.put_list.auto.scratch, c.requires.roomy.short),
)

pub returns-in-Some : goal.returns-in-Some
returns-in-Some c = λ rs h.
    answered_at (spelled rs c.args.separator c.args.mode c.args.records.now c.args.pool.now) c.args.out.now (c.put_list.ensures rs h)
    c.in-Some.is c.write_from.ensures

pub returns-in-None : goal.returns-in-None
returns-in-None c = λ rs h.
    answered_full c.requires.roomy rs c.args.out.now c.put_list.auto.scratch (c.put_list.ensures rs h) c.in-None.is
    (search rules)
