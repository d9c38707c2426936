-- `is_due` answers `follows`, by what is chosen at the token.
use Rattle.std.proofs.Common.{sym, ◌∙◌}
use Rattle.longest_match.proofs.Parts.{part_end}
use Rattle.longest_match.proofs.Held.{held_empty}
use Rattle.spacing.proofs.Due.{due_last, due_always, due_more, due_by, due_none}
use Rattle.spacing.proofs.is_due.Goals as goal

pub returns-then-last : goal.returns-then-last
returns-then-last c = λ rs h t us a. due_last _ a c.if-last.true

pub returns-then-meaning_of-eq1 : goal.returns-then-meaning_of-eq1
returns-then-meaning_of-eq1 c = λ rs h t us a. due_always _ a c.if-last.false (sym c.meaning_of.ensures ∙ c.if-meaning_of-eq1.true)

pub returns-in-Some : goal.returns-in-Some
returns-in-Some c = λ rs h t us a. due_by _ a c.if-last.false (λ z. c.if-meaning_of-eq1.false (c.meaning_of.ensures ∙ z)) (held_empty h)
    (c.in-Some.ensures.chooses rs _ h (part_end _ _))

pub returns-in-None : goal.returns-in-None
returns-in-None c = λ rs h t us a. due_more _ a c.if-last.false (λ z. c.if-meaning_of-eq1.false (c.meaning_of.ensures ∙ z)) (held_empty h)
    (c.in-None.ensures.chooses rs _ h (part_end _ _))
    (due_none _ a c.if-last.false (λ z. c.if-meaning_of-eq1.false (c.meaning_of.ensures ∙ z)) (held_empty h)
    (c.in-None.ensures.chooses rs _ h (part_end _ _)))
