-- `print_rules`: too many tokens, what is wrong with the list, or what `write` answers. Assumes nothing.
use mathlib.Core.Path.{ap}
use native.Mathlib.Omega.{arith}
use Rattle.std.specs.Prelude.{Err}
use Rattle.printer.proofs.ByRules.{answered_many, answered_troubled, clean_written}
use Rattle.printer.proofs.by_rules.print_rules.Goals as goal

pub returns-then-records-gt-TOKENS : goal.returns-then-records-gt-TOKENS
returns-then-records-gt-TOKENS c = λ rs h. answered_many rs _ _ _ (omega arith) (ap Err c.at.ensures)

pub write-requires : goal.write-requires
write-requires c =
    let held = c.requires.held in
    let clean = (c.rehearse.ensures held.rules held.holds).clean _ c.in-Ok.is in
    omega (arith, c.requires.roomy.room _ clean.spanned)

pub returns-in-Ok : goal.returns-in-Ok
returns-in-Ok c = λ rs h. clean_written rs _ _ _ (omega arith) ((c.rehearse.ensures rs h).clean _ c.in-Ok.is) c.write.ensures

pub returns-in-Err : goal.returns-in-Err
returns-in-Err c = λ rs h. answered_troubled rs _ _ _ (omega arith) (c.find_refusal.ensures rs h)
