-- `set_once`: by its two tests, in their order. Assumes nothing.
use mathlib.Core.Path.{sym, ◌∙◌}
use Rattle.book.specs.Layers.{once}
use Rattle.book.proofs.set_once.Goals as goal

pub returns-then-is_no_state : goal.returns-then-is_no_state
unfolding once
returns-then-is_no_state c = rw (sym c.is_no_state.ensures ∙ c.if-is_no_state.true, c.at.ensures)

pub returns-then-is_some : goal.returns-then-is_some
unfolding once
returns-then-is_some c =
    rw (sym c.is_no_state.ensures ∙ c.if-is_no_state.false, sym c.is_some.ensures ∙ c.if-is_some.true, c.at-then-is_some.ensures)

pub returns : goal.returns
unfolding once
returns c = rw (sym c.is_no_state.ensures ∙ c.if-is_no_state.false, sym c.is_some.ensures ∙ c.if-is_some.false)
