-- What is spelled is read, where nothing stands behind it that would go on. Assumes nothing.
use mathlib.Core.Path.{◌≡◌, refl, sym, ap, ◌∙◌, subst}
use mathlib.Core.Bool.{Bool, true, false, not, ◌||◌}
use mathlib.Core.List.{List, [], ◌∷◌, ◌++◌, append-nil, append_assoc}
use Prim.Native.Nat.{ℕ}
use lib.Dec.{eqb}
use borrow.Author.Tests.{eqb-true, ne_eqb, le-leb, not-true, not-false}
use Rattle.automaton.proofs.Tests.{clash, or_false}
use Rattle.expression.specs.Expression.{Range, Expression, concat}
use Rattle.expression.specs.Spelling.{is_special, is_ordinary, is_listed, SpellsItem, single, ranged, SpellsItems, last, more}
use Rattle.expression.specs.Spelling.{Level, alternatives, sequence, piece, atom, Spells, ordinary, escaped, any_byte, listed}
use Rattle.expression.specs.Spelling.{parenthesised, bare, starred, plussed, questioned, alone, followed, only, or}
use Rattle.expression.specs.Reading.{item, high_end, low_end, item_at, items, after_item, items_in}
use Rattle.expression.specs.Reading.{Parsed, parsed, and_then, list_of, escaped_at, closed, atom_at, repeated, after_piece}
use Rattle.expression.specs.Reading.{after_sequence, read_as, right, whole, read_expression}
use Rattle.expression.proofs.Unfolding.{items_unfold, alternatives_unfold, sequence_unfold, piece_unfold, atom_unfold}

-- ---- kinds of bytes

-- an ordinary byte is no special one
pub ordinary_not : (b : ℕ) → is_ordinary b ≡ true → (x : ℕ) → is_special x ≡ true → eqb b x ≡ false
unfolding is_ordinary
ordinary_not b c x d =
    ne_eqb b x (λ e. clash (ap is_special e ∙ d) (or_false (eqb b 0) (is_special b) (not-true (eqb b 0 || is_special b) c)).1)

pub listed_not : (b : ℕ) → is_listed b ≡ true → (x : ℕ) → is_listed x ≡ false → eqb b x ≡ false
listed_not b c x d = ne_eqb b x (λ e. clash (sym (ap is_listed e) ∙ c) d)

-- a text that is not empty begins so
pub record First (P : ℕ → Type 0) (s : List ℕ) : Type 0 where
  pub first : ℕ
  pub others : List ℕ
  pub splits : s ≡ first ∷ others
  pub fits : P first

first-append : {P : ℕ → Type 0} (s t : List ℕ) → First P s → First P (s ++ t)
first-append s t h = record {
  first = h.first;
  others = h.others ++ t;
  splits = ap (λ (x : List ℕ). x ++ t) h.splits;
  fits = h.fits;
}

-- ---- lists

item_first : {r : Range} {s : List ℕ} → SpellsItem r s → First (λ (b : ℕ). is_listed b ≡ true) s
item_first (single c) = record { first = _; others = []; splits = refl; fits = c }
item_first (ranged {a} {b} c d l) = record { first = a; others = 45 ∷ b ∷ []; splits = refl; fits = c }

items_first : {rs : List Range} {s : List ℕ} → SpellsItems rs s → First (λ (b : ℕ). is_listed b ≡ true) s
items_first (last h) = item_first h
items_first (more {s = s} {t = t} h k) = first-append s t (item_first h)

item_complete : {r : Range} {s : List ℕ} → SpellsItem r s → (d : ℕ) (rest : List ℕ) → eqb d 45 ≡ false
    → item_at (s ++ d ∷ rest) ≡ item r (d ∷ rest)
unfolding item_at low_end high_end
item_complete (single c) d rest n = rw (c, n)
item_complete (ranged {a} {b} c e l) d rest n = rw (c, e, le-leb a b l)

items_complete : {rs : List Range} {s : List ℕ} → SpellsItems rs s → (rest : List ℕ) → items_in (s ++ 93 ∷ rest) ≡ items rs rest
unfolding after_item is_listed
items_complete (last {t = t} h) rest = rw (items_unfold (t ++ 93 ∷ rest), item_complete h 93 rest refl)
items_complete (more {r = r} {rs = rs} {s = s} {t = t} h k) rest = go (items_first k) (items_complete k rest)
  where
    go : First (λ (b : ℕ). is_listed b ≡ true) t → items_in (t ++ 93 ∷ rest) ≡ items rs rest
        → items_in ((s ++ t) ++ 93 ∷ rest) ≡ items (r ∷ rs) rest
    go f ih =
        let x = f.others ++ 93 ∷ rest in
        let q : t ++ 93 ∷ rest ≡ f.first ∷ x = ap (λ (y : List ℕ). y ++ 93 ∷ rest) f.splits in
        let j : items_in (f.first ∷ x) ≡ items rs rest = subst (λ (y : List ℕ). items_in y ≡ items rs rest) q ih in
        rw (
          append_assoc s t (93 ∷ rest),
          q,
          items_unfold (s ++ f.first ∷ x),
          item_complete h f.first x (listed_not f.first f.fits 45 refl),
          listed_not f.first f.fits 93 refl,
          j,
        )

-- ---- expressions

-- behind something of the level, a byte that belongs to it too
abbrev pub goes_on : Level → ℕ → Bool
goes_on atom b = false
goes_on piece b = eqb b 42 || (eqb b 43 || eqb b 63)
goes_on sequence b = not (eqb b 124 || eqb b 41)
goes_on alternatives b = not (eqb b 41)

abbrev pub Stops : Level → List ℕ → Type 0
Stops level [] = Unit {0}
Stops level (b ∷ t) = goes_on level b ≡ false

-- a piece's first byte belongs to no piece before it, and to the sequence that goes on
pub record Fresh (b : ℕ) : Type 0 where
  pub new : goes_on piece b ≡ false
  pub same : goes_on sequence b ≡ true

pub spells-first : {level : Level} {e : Expression} {s : List ℕ} → Spells level e s → First Fresh s
unfolding is_special
spells-first (ordinary {b} c) = record {
  first = b;
  others = [];
  splits = refl;
  fits = record {
    new = rw (ordinary_not b c 42 refl, ordinary_not b c 43 refl, ordinary_not b c 63 refl);
    same = rw (ordinary_not b c 124 refl, ordinary_not b c 41 refl);
  };
}
spells-first (escaped {b} c) = record { first = 92; others = b ∷ []; splits = refl; fits = record { new = refl; same = refl } }
spells-first any_byte = record { first = 46; others = []; splits = refl; fits = record { new = refl; same = refl } }
spells-first (listed {t = t} h) = record { first = 91; others = t ++ 93 ∷ []; splits = refl; fits = record { new = refl; same = refl } }
spells-first (parenthesised {t = t} h) = record {
  first = 40;
  others = t ++ 41 ∷ [];
  splits = refl;
  fits = record { new = refl; same = refl };
}
spells-first (bare h) = spells-first h
spells-first (starred {t = t} h) = first-append t (42 ∷ []) (spells-first h)
spells-first (plussed {t = t} h) = first-append t (43 ∷ []) (spells-first h)
spells-first (questioned {t = t} h) = first-append t (63 ∷ []) (spells-first h)
spells-first (alone h) = spells-first h
spells-first (followed {s = s} {t = t} h k) = first-append s t (spells-first h)
spells-first (only h) = spells-first h
spells-first (or {s = s} {t = t} h k) = first-append s (124 ∷ t) (spells-first h)

repeated_stops : (e : Expression) (rest : List ℕ) → Stops piece rest → repeated e rest ≡ parsed e rest
unfolding repeated
repeated_stops e [] n = refl
repeated_stops e (b ∷ x) n =
    let k = or_false (eqb b 42) (eqb b 43 || eqb b 63) n in
    let l = or_false (eqb b 43) (eqb b 63) k.1 in
    rw (k.0, l.0, l.1)

after_piece_stops : (next : List ℕ → Parsed) (e : Expression) (rest : List ℕ) → Stops sequence rest → after_piece next e rest ≡ parsed e rest
unfolding after_piece
after_piece_stops next e [] n = refl
after_piece_stops next e (b ∷ x) n = rw (not-false (eqb b 124 || eqb b 41) n)

after_piece_goes : (next : List ℕ → Parsed) (e : Expression) (x : List ℕ) → First Fresh x
    → after_piece next e x ≡ and_then (next x) (λ f rest. parsed (concat e f) rest)
unfolding after_piece
after_piece_goes next e x f = rw (f.splits, not-true (eqb f.first 124 || eqb f.first 41) f.fits.same)

after_sequence_stops : (next : List ℕ → Parsed) (e : Expression) (rest : List ℕ) → Stops alternatives rest
    → after_sequence next e rest ≡ parsed e rest
unfolding after_sequence
after_sequence_stops next e [] n = refl
after_sequence_stops next e (b ∷ x) n = rw (eqb-true b 41 (not-false (eqb b 41) n))

-- what a level does not take, its parts do not take
alternatives_stops : (rest : List ℕ) → Stops alternatives rest → Stops sequence rest
alternatives_stops [] n = tt
alternatives_stops (b ∷ x) n = rw (eqb-true b 41 (not-false (eqb b 41) n))

sequence_stops : (rest : List ℕ) → Stops sequence rest → Stops piece rest
sequence_stops [] n = tt
sequence_stops (b ∷ x) n = go (eqb b 124) refl (not-false (eqb b 124 || eqb b 41) n)
  where
    go : (c : Bool) → eqb b 124 ≡ c → c || eqb b 41 ≡ true → goes_on piece b ≡ false
    go true p q = rw (eqb-true b 124 p)
    go false p q = rw (eqb-true b 41 q)

atom_stops : (rest : List ℕ) → Stops atom rest
atom_stops [] = tt
atom_stops (b ∷ x) = refl

fresh_stops : (x : List ℕ) → First Fresh x → Stops piece x
fresh_stops x f = subst (Stops piece) (sym f.splits) f.fits.new

pub complete : {level : Level} {e : Expression} {s : List ℕ} → Spells level e s → (rest : List ℕ) → Stops level rest
    → read_as level (s ++ rest) ≡ parsed e rest
unfolding atom_at escaped_at list_of closed repeated after_sequence and_then is_special
complete (ordinary {b} c) rest n =
    rw (atom_unfold (b ∷ rest), ordinary_not b c 40 refl, ordinary_not b c 91 refl, ordinary_not b c 46 refl, ordinary_not b c 92 refl, c)
complete (escaped {b} c) rest n = rw (atom_unfold (92 ∷ b ∷ rest), c)
complete any_byte rest n = rw (atom_unfold (46 ∷ rest))
complete (listed {t = t} h) rest n =
    rw (atom_unfold (91 ∷ (t ++ 93 ∷ []) ++ rest), append_assoc t (93 ∷ []) rest, items_complete h rest)
complete (parenthesised {t = t} h) rest n =
    rw (atom_unfold (40 ∷ (t ++ 41 ∷ []) ++ rest), append_assoc t (41 ∷ []) rest, complete h (41 ∷ rest) refl)
complete (bare {e = e} {t = t} h) rest n = rw (piece_unfold (t ++ rest), complete h rest (atom_stops rest)) (repeated_stops e rest n)
complete (starred {t = t} h) rest n =
    rw (append_assoc t (42 ∷ []) rest, piece_unfold (t ++ 42 ∷ rest), complete h (42 ∷ rest) refl)
complete (plussed {t = t} h) rest n =
    rw (append_assoc t (43 ∷ []) rest, piece_unfold (t ++ 43 ∷ rest), complete h (43 ∷ rest) refl)
complete (questioned {t = t} h) rest n =
    rw (append_assoc t (63 ∷ []) rest, piece_unfold (t ++ 63 ∷ rest), complete h (63 ∷ rest) refl)
complete (alone {e = e} {t = t} h) rest n =
    rw (sequence_unfold (t ++ rest), complete h rest (sequence_stops rest n)) (after_piece_stops (read_as sequence) e rest n)
complete (followed {e = e} {s = s} {t = t} h k) rest n =
    let f = first-append t rest (spells-first k) in
    rw (
      append_assoc s t rest,
      sequence_unfold (s ++ (t ++ rest)),
      complete h (t ++ rest) (fresh_stops (t ++ rest) f),
      after_piece_goes (read_as sequence) e (t ++ rest) f,
      complete k rest n,
    )
complete (only {e = e} {t = t} h) rest n =
    rw (alternatives_unfold (t ++ rest), complete h rest (alternatives_stops rest n)) (after_sequence_stops (read_as alternatives) e rest n)
complete (or {e = e} {s = s} {t = t} h k) rest n =
    rw (append_assoc s (124 ∷ t) rest, alternatives_unfold (s ++ 124 ∷ (t ++ rest)), complete h (124 ∷ (t ++ rest)) refl, complete k rest n)

-- ---- whole texts

-- What spells an expression is read as right.
pub spells-right : (text : List ℕ) {e : Expression} → Spells alternatives e text → read_expression text ≡ right e
unfolding read_expression whole
spells-right text {e} h = rw (rw (append-nil text) at (complete h [] tt))

-- A text spells at most one expression.
pub spells_one : (text : List ℕ) {e f : Expression} → Spells alternatives e text → Spells alternatives f text → e ≡ f
spells_one text h k = let p = spells-right text h in let q = spells-right text k in cc
