-- What is asked inside a rule, and what is said of a move. Assumes nothing.
use mathlib.Core.Path.{refl}
use Rattle.book.specs.Draft.{apply}
use Rattle.book.proofs.Steps.{inside_room}
use Rattle.reader.proofs.applying.apply.Goals as goal

pub add_transition-requires-clause-inside : goal.add_transition-requires-clause-inside
add_transition-requires-clause-inside c = inside_room c.requires.represented c.requires.inside_value.0 c.in-Step.is refl

pub add_transition-requires-in-Span-clause-inside : goal.add_transition-requires-in-Span-clause-inside
add_transition-requires-in-Span-clause-inside c = inside_room c.requires.represented c.requires.inside_value.0 c.in-Span.is refl

pub close-requires : goal.close-requires
close-requires c = inside_room c.requires.represented c.requires.inside_value.0 c.in-Close.is refl

pub returns-in-Step : goal.returns-in-Step
unfolding apply
returns-in-Step c = rw c.in-Step.is c.add_transition.ensures

pub returns-in-Span : goal.returns-in-Span
unfolding apply
returns-in-Span c = rw c.in-Span.is c.add_transition-in-Span.ensures
