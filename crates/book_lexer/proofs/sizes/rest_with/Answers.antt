-- The table holds the rules of an accepted book.
use Rattle.reader.proofs.Loaded.{loaded_held}
use Rattle.lexer.proofs.Outcomes.{rest_book, rest_refused}
use Rattle.book_lexer.proofs.sizes.rest_with.Goals as goal

pub rest_rules-requires : goal.rest_rules-requires
rest_rules-requires c = loaded_held c.load.ensures c.in-Ok.is

pub returns-in-Ok : goal.returns-in-Ok
returns-in-Ok c = rest_book c.load.ensures c.in-Ok.is _ _ c.rest_rules.ensures

pub returns-in-Err : goal.returns-in-Err
returns-in-Err c = rest_refused c.load.ensures c.in-Err.is _
