-- What the first fault of a text is, which `read_expression` is to find.
use Rattle.std.specs.Prelude.{List, ℕ, ◌+◌, ◌≤◌, ◌<◌, length, take}
use Rattle.expression.specs.Expression.{Expression}
use Rattle.expression.specs.Spelling.{alternatives, Spells, Begins}
use Rattle.expression.specs.Reading.{Reading, right, wrong}

-- The place of the first byte that no right expression has after what stands before it, or of the text's end.
pub record FirstFault (text : List ℕ) (place : ℕ) : Type 0 where
  pub within : place ≤ length text
  pub before : Begins (take place text)
  pub fault : place < length text → Begins (take (place + 1) text) → ⊥
  pub spells_none : (e : Expression) → Spells alternatives e text → ⊥

-- what a reading says of the text
abbrev pub Says : List ℕ → Reading → Type 0
Says text (right e) = Spells alternatives e text
Says text (wrong place) = FirstFault text place
