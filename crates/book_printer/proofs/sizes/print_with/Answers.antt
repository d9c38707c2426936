-- The table holds the rules of an accepted book.
use Rattle.std.proofs.lemmas.Result.{err_from_is_err_and}
use Rattle.reader.proofs.Loaded.{loaded_held}
use Rattle.printer.proofs.Outcomes.{answered_book, answered_refused}
use Rattle.book_printer.proofs.sizes.print_with.Goals as goal

pub print_rules-requires-clause-held : goal.print_rules-requires-clause-held
print_rules-requires-clause-held c = loaded_held c.load.ensures c.in_ok-load.was

pub returns : goal.returns
returns c = answered_book c.load.ensures c.in_ok-load.was _ _ _ _ _ c.print_rules.ensures

pub returns-in_err-load : goal.returns-in_err-load
returns-in_err-load c =
    let p = err_from_is_err_and c.from_residual.result c.from_residual.ensures.1 in
    rw (p.1, p.2) (answered_refused c.load.ensures c.in_err-load.was _ _ _)
