use Rattle.longest_match.proofs.Agreeing.{steps_chosen, steps-agreed}
use Rattle.longest_match.proofs.steps.choose_by_steps.Goals as goal

pub returns-clause-chooses : goal.returns-clause-chooses
returns-clause-chooses c = λ rs h. steps_chosen (c.longest_prefixes.ensures rs h) c.choose_from.ensures.picks

pub returns-clause-agrees : goal.returns-clause-agrees
returns-clause-agrees c = λ rs h. steps-agreed (c.longest_prefixes.ensures rs h) c.choose_from.ensures.picks
