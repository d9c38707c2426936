-- `check_call` answers `separated_refusal`.
use Rattle.std.proofs.Common.{rules, sym, ◌∙◌}
use Rattle.separated.proofs.Checking.{call_shared, call_list}
use Rattle.separated.proofs.checks.check_call.Goals as goal

pub returns-in-Some : goal.returns-in-Some
returns-in-Some c = λ rs h. call_shared rs _ _ _ _ (sym c.in-Some.is ∙ c.shared_byte.ensures rs h) (search rules)

pub returns-in-None : goal.returns-in-None
returns-in-None c = λ rs h. call_list rs _ _ _ _ (sym c.in-None.is ∙ c.shared_byte.ensures rs h) (c.check_list.ensures rs h)
