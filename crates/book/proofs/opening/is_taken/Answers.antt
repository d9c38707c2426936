-- `is_taken`: the tag has a rule. Assumes nothing.
use mathlib.Core.Path.{◌∙◌}
use Rattle.book.proofs.Ranking.{found_taken}
use Rattle.book.proofs.opening.is_taken.Goals as goal

pub returns : goal.returns
returns c = λ rs h. c.is_some.ensures ∙ found_taken rs c.args.tag c.find_tag.result (c.find_tag.ensures rs h)
