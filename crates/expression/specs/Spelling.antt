-- The texts that spell an expression: the grammar of document 02, wish 9. Bytes are written as numbers: 40 and 41 are ( and ), 42 *, 43 +,
-- 45 -, 46 the period, 63 ?, 91 and 93 [ and ], 92 the backslash, 124 |.
use Rattle.std.specs.Prelude.{◌≡◌, Bool, true, not, ◌||◌, List, [], ◌∷◌, ◌++◌, ℕ, ◌≤◌, eqb}
use Rattle.automaton.specs.Choice.{among}
use Rattle.expression.specs.Expression.{Range, byte, period, list}
use Rattle.expression.specs.Expression.{Expression, position, group, union, concat, star, plus, optional}

-- one of ^ . [ $ ( ) | * + ? { \
unfoldable pub is_special : ℕ → Bool
is_special b = among b (94 ∷ 46 ∷ 91 ∷ 36 ∷ 40 ∷ 41 ∷ 124 ∷ 42 ∷ 43 ∷ 63 ∷ 123 ∷ 92 ∷ [])

-- stands for itself outside lists
unfoldable pub is_ordinary : ℕ → Bool
is_ordinary b = not (eqb b 0 || is_special b)

-- stands for itself in a list, or as an end of a range: all but 00 and ] [ - \ ^
unfoldable pub is_listed : ℕ → Bool
is_listed b = not (among b (0 ∷ 93 ∷ 91 ∷ 45 ∷ 92 ∷ 94 ∷ []))

-- a byte of a list, or a range
pub data SpellsItem : Range → List ℕ → Type 0 where
  single : {b : ℕ} → is_listed b ≡ true → SpellsItem (record { low = b; high = b }) (b ∷ [])
  ranged : {a b : ℕ} → is_listed a ≡ true → is_listed b ≡ true → a ≤ b → SpellsItem (record { low = a; high = b }) (a ∷ 45 ∷ b ∷ [])

-- one or more of them
pub data SpellsItems : List Range → List ℕ → Type 0 where
  last : {r : Range} {t : List ℕ} → SpellsItem r t → SpellsItems (r ∷ []) t
  more : {r : Range} {rs : List Range} {s t : List ℕ} → SpellsItem r s → SpellsItems rs t → SpellsItems (r ∷ rs) (s ++ t)

-- Alternatives hold sequences, sequences hold pieces, a piece is an atom that may carry one of * + ?, and an atom may be alternatives in
-- parentheses.
pub data Level : Type 0 where
  alternatives sequence piece atom : Level

pub data Spells : Level → Expression → List ℕ → Type 0 where
  ordinary : {b : ℕ} → is_ordinary b ≡ true → Spells atom (position (byte b)) (b ∷ [])
  escaped : {b : ℕ} → is_special b ≡ true → Spells atom (position (byte b)) (92 ∷ b ∷ [])
  any_byte : Spells atom (position period) (46 ∷ [])
  listed : {rs : List Range} {t : List ℕ} → SpellsItems rs t → Spells atom (position (list rs)) (91 ∷ (t ++ (93 ∷ [])))
  parenthesised : {e : Expression} {t : List ℕ} → Spells alternatives e t → Spells atom (group e) (40 ∷ (t ++ (41 ∷ [])))
  bare : {e : Expression} {t : List ℕ} → Spells atom e t → Spells piece e t
  starred : {e : Expression} {t : List ℕ} → Spells atom e t → Spells piece (star e) (t ++ (42 ∷ []))
  plussed : {e : Expression} {t : List ℕ} → Spells atom e t → Spells piece (plus e) (t ++ (43 ∷ []))
  questioned : {e : Expression} {t : List ℕ} → Spells atom e t → Spells piece (optional e) (t ++ (63 ∷ []))
  alone : {e : Expression} {t : List ℕ} → Spells piece e t → Spells sequence e t
  followed : {e f : Expression} {s t : List ℕ} → Spells piece e s → Spells sequence f t → Spells sequence (concat e f) (s ++ t)
  only : {e : Expression} {t : List ℕ} → Spells sequence e t → Spells alternatives e t
  or : {e f : Expression} {s t : List ℕ} → Spells sequence e s → Spells alternatives f t → Spells alternatives (union e f) (s ++ (124 ∷ t))

-- a right expression begins so
pub record Begins (t : List ℕ) : Type 0 where
  pub expression : Expression
  pub behind : List ℕ
  pub spells : Spells alternatives expression (t ++ behind)
