-- Texts as they are read.
use mathlib.Core.Path.{◌≡◌, refl}
use mathlib.Core.List.{[], ◌∷◌}
use Prim.Native.Nat.{ℕ}
use Rattle.expression.specs.Expression.{Expression, byte, list, position, group, union, concat, star}
use Rattle.expression.specs.Spelling.{is_special, is_ordinary, is_listed}
use Rattle.expression.specs.Reading.{high_end, low_end, item_at, after_item, items_from, range_of, and_then, list_of, escaped_at, closed}
use Rattle.expression.specs.Reading.{atom_at, repeated, after_piece, after_sequence, read_from, read_as, right, wrong, whole}
use Rattle.expression.specs.Reading.{read_expression}

abbrev char : ℕ → Expression
char b = position (byte b)

pub wrongs :
    (read_expression [] ≡ wrong 0)  -- the empty text
    × (read_expression (40 ∷ 41 ∷ []) ≡ wrong 1)  -- ()
    × (read_expression (97 ∷ 124 ∷ []) ≡ wrong 2)  -- a|
    × (read_expression (97 ∷ 42 ∷ 42 ∷ []) ≡ wrong 2)  -- a**
    × (read_expression (97 ∷ 41 ∷ []) ≡ wrong 1)  -- a)
    × (read_expression (91 ∷ 98 ∷ 45 ∷ 97 ∷ 93 ∷ []) ≡ wrong 3)  -- [b-a]
    × (read_expression (91 ∷ 97 ∷ 45 ∷ 93 ∷ []) ≡ wrong 3)  -- [a-]
    × (read_expression (91 ∷ 97 ∷ 45 ∷ 99 ∷ 45 ∷ 100 ∷ 93 ∷ []) ≡ wrong 4)  -- [a-c-d]
    × (read_expression (92 ∷ 97 ∷ []) ≡ wrong 1)  -- \a
unfolding read_expression whole read_as read_from and_then atom_at is_ordinary is_special is_listed repeated after_piece after_sequence closed
    escaped_at list_of items_from item_at low_end high_end after_item
wrongs = (refl, refl, refl, refl, refl, refl, refl, refl, refl)

pub rights :
    (read_expression (97 ∷ 98 ∷ 124 ∷ 99 ∷ 42 ∷ []) ≡ right (union (concat (char 97) (char 98)) (star (char 99))))  -- ab|c*
    × (read_expression (40 ∷ 97 ∷ 41 ∷ 91 ∷ 97 ∷ 45 ∷ 99 ∷ 100 ∷ 93 ∷ [])
    ≡ right (concat (group (char 97)) (position (list (range_of 97 99 ∷ range_of 100 100 ∷ [])))))  -- (a)[a-cd]
unfolding read_expression whole read_as read_from and_then atom_at is_ordinary is_special is_listed repeated after_piece after_sequence closed
    escaped_at list_of items_from item_at low_end high_end after_item
rights = (refl, refl)
