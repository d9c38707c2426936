-- The table holds the rules of an accepted book.
use Rattle.reader.proofs.Loaded.{loaded_held}
use Rattle.book_reader.proofs.Rules.{inspects_accepted, inspects_refused}
use Rattle.book_reader.proofs.inspect_with.Goals as goal

pub rule_in-requires : goal.rule_in-requires
rule_in-requires c = loaded_held c.load_by.ensures c.in-Ok.is

pub returns-in-Ok : goal.returns-in-Ok
returns-in-Ok c = inspects_accepted c.load_by.ensures c.in-Ok.is _ _ c.rule_in.ensures

pub returns-in-Err : goal.returns-in-Err
returns-in-Err c = inspects_refused c.load_by.ensures c.in-Err.is _
