-- `rest_rules`: the place that `count` answers.
use Rattle.lexer.proofs.ByRules.{rest_cut}
use Rattle.lexer.proofs.by_rules.rest_rules.Goals as goal

pub returns-then-text-le-TEXT : goal.returns-then-text-le-TEXT
returns-then-text-le-TEXT c = λ rs h. rest_cut rs _ c.if-text-le-TEXT.true (c.count.ensures rs h)
