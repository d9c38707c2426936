use Rattle.book_reader.specs.Rules.{rule_outcome}
use Rattle.book_reader.proofs.rule.Goals as goal

pub returns : goal.returns
unfolding rule_outcome
returns c = c.inspect.ensures.rule
