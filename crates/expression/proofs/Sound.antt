-- What is read is spelled by the part of the text that was read, and what stands before a fault is the beginning of something right.
-- Assumes nothing.
use mathlib.Core.Path.{◌≡◌, refl, sym, ap, ◌∙◌, subst}
use mathlib.Core.Bool.{true, ◌&&◌, ◌||◌}
use mathlib.Core.List.{List, [], ◌∷◌, ◌++◌, append-nil, append_assoc}
use Prim.Native.Nat.{ℕ, ◌≤◌, ◌<◌}
use native.Mathlib.Nat.{le_refl}
use native.Mathlib.Omega.{arith}
use lib.Dec.{eqb, leb}
use lib.ListN.{length, length-append}
use borrow.Author.Tests.{eqb-true, leb-true}
use Rattle.automaton.proofs.Tests.{and_true}
use Rattle.expression.specs.Expression.{Range, byte, period, list, Expression, position, group, union, concat}
use Rattle.expression.specs.Spelling.{is_special, is_ordinary, is_listed, SpellsItem, single, ranged, SpellsItems, last, more}
use Rattle.expression.specs.Spelling.{Level, alternatives, sequence, piece, atom, Spells, ordinary, escaped, any_byte, listed}
use Rattle.expression.specs.Spelling.{parenthesised, bare, starred, plussed, questioned, alone, followed, only, or}
use Rattle.expression.specs.Reading.{Item, item, no_item, high_end, low_end, item_at, Items, items, no_items, in_front, after_item, items_in}
use Rattle.expression.specs.Reading.{Parsed, parsed, faulty, and_then, list_of, escaped_at, closed, atom_at, repeated, after_piece}
use Rattle.expression.specs.Reading.{after_sequence, read_as, right, wrong, whole, read_expression}
use Rattle.expression.proofs.Unfolding.{OfItem, OfItems, Of, by_test, of_then, by_length, by_reading}
use Rattle.expression.proofs.Unfolding.{items_unfold, alternatives_unfold, sequence_unfold, piece_unfold, atom_unfold}

-- `text`, from which something was read
pub record Read (S : List ℕ → Type 0) (t rest : List ℕ) : Type 0 where
  pub text : List ℕ
  pub splits : t ≡ text ++ rest
  pub spells : S text

-- `text`, before a fault, which `behind` makes right
pub record Stuck (A : Type 0) (S : A → List ℕ → Type 0) (t rest : List ℕ) : Type 0 where
  pub text : List ℕ
  pub splits : t ≡ text ++ rest
  pub behind : List ℕ
  pub what : A
  pub spelling : List ℕ
  pub begins : spelling ≡ text ++ behind
  pub spells : S what spelling

-- ---- lists

abbrev ItemRead : List ℕ → Item → Type 0
ItemRead t = OfItem (λ r. Read (SpellsItem r) t) (Stuck Range SpellsItem t)

-- with the ] behind them
abbrev ItemsRead : List ℕ → Items → Type 0
ItemsRead t = OfItems (λ rs rest. Read (SpellsItems rs) t (93 ∷ rest)) (Stuck (List Range) SpellsItems t)

-- nothing of an item has been read
no_item_lem : (t : List ℕ) → Stuck Range SpellsItem t t
unfolding is_listed
no_item_lem t = record {
  text = [];
  splits = refl;
  behind = 97 ∷ [];
  what = record { low = 97; high = 97 };
  spelling = 97 ∷ [];
  begins = refl;
  spells = single refl;
}

item_read : (t : List ℕ) → ItemRead t (item_at t)
unfolding item_at low_end high_end
item_read [] = no_item_lem []
item_read (a ∷ t) = by_test (ItemRead (a ∷ t)) (is_listed a) (λ c. go c t) (λ c. no_item_lem (a ∷ t))
  where
    missing : is_listed a ≡ true → (x : List ℕ) → Stuck Range SpellsItem (a ∷ 45 ∷ x) x
    missing c x = record {
      text = a ∷ 45 ∷ [];
      splits = refl;
      behind = a ∷ [];
      what = record { low = a; high = a };
      spelling = a ∷ 45 ∷ a ∷ [];
      begins = refl;
      spells = ranged c c (le_refl a);
    }

    high : is_listed a ≡ true → (x : List ℕ) → ItemRead (a ∷ 45 ∷ x) (high_end a x)
    high c [] = missing c []
    high c (b ∷ x) =
        by_test (ItemRead (a ∷ 45 ∷ b ∷ x)) (is_listed b && leb a b)
        (λ d. let k = and_true (is_listed b) (leb a b) d in
        record { text = a ∷ 45 ∷ b ∷ []; splits = refl; spells = ranged c k.0 (leb-true a b k.1) })
        (λ d. missing c (b ∷ x))

    go : is_listed a ≡ true → (x : List ℕ) → ItemRead (a ∷ x) (low_end a x)
    go c [] = record { text = a ∷ []; splits = refl; spells = single c }
    go c (b ∷ x) =
        by_test (ItemRead (a ∷ b ∷ x)) (eqb b 45)
        (λ d. subst (λ (y : ℕ). ItemRead (a ∷ y ∷ x) (high_end a x)) (sym (eqb-true b 45 d)) (high c x))
        (λ d. record { text = a ∷ []; splits = refl; spells = single c })

-- two parts, one behind the other
splits_on : (t s x y rest : List ℕ) → t ≡ s ++ x → x ≡ y ++ rest → t ≡ (s ++ y) ++ rest
splits_on t s x y rest p q = rw (append_assoc s y rest, ← q) p

longer : (t s x : List ℕ) → t ≡ s ++ x → 1 ≤ length s → length x < length t
longer t s x p l = omega (arith, ap length p, length-append s x)

item_byte : {r : Range} {s : List ℕ} → SpellsItem r s → 1 ≤ length s
item_byte (single c) = omega arith
item_byte (ranged c d l) = omega arith

module _ (t : List ℕ) (r : Range) (b : List ℕ) (h : Read (SpellsItem r) t b) where
  front_read : (is : Items) → ItemsRead b is → ItemsRead t (in_front r is)
  front_read (items rs rest) k = record {
    text = h.text ++ k.text;
    splits = splits_on t h.text b k.text (93 ∷ rest) h.splits k.splits;
    spells = more h.spells k.spells;
  }
  front_read (no_items rest) k = record {
    text = h.text ++ k.text;
    splits = splits_on t h.text b k.text rest h.splits k.splits;
    behind = k.behind;
    what = r ∷ k.what;
    spelling = h.text ++ k.spelling;
    begins = rw append_assoc (ap (λ (x : List ℕ). h.text ++ x) k.begins);
    spells = more h.spells k.spells;
  }

after_item_read : (t : List ℕ) → ((x : List ℕ) → length x < length t → ItemsRead x (items_in x)) → (i : Item) → ItemRead t i
    → ItemsRead t (after_item items_in i)
unfolding after_item
after_item_read t ih (no_item rest) h = record {
  text = h.text;
  splits = h.splits;
  behind = h.behind;
  what = h.what ∷ [];
  spelling = h.spelling;
  begins = h.begins;
  spells = last h.spells;
}
after_item_read t ih (item r []) h = record {
  text = h.text;
  splits = h.splits;
  behind = [];
  what = r ∷ [];
  spelling = h.text;
  begins = sym (append-nil h.text);
  spells = last h.spells;
}
after_item_read t ih (item r (b ∷ x)) h =
    by_test (ItemsRead t) (eqb b 93)
    (λ c. record { text = h.text; splits = rw (← eqb-true b 93 c) h.splits; spells = last h.spells })
    (λ c. front_read t r (b ∷ x) h (items_in (b ∷ x)) (ih (b ∷ x) (longer t h.text (b ∷ x) h.splits (item_byte h.spells))))

pub items_read : (t : List ℕ) → ItemsRead t (items_in t)
items_read =
    by_length (λ (t : List ℕ). ItemsRead t (items_in t)) (λ t ih. rw (items_unfold t) (after_item_read t ih (item_at t) (item_read t)))

-- ---- expressions

pub spells-byte : {level : Level} {e : Expression} {s : List ℕ} → Spells level e s → 1 ≤ length s
spells-byte (ordinary c) = omega arith
spells-byte (escaped c) = omega arith
spells-byte any_byte = omega arith
spells-byte (listed h) = omega arith
spells-byte (parenthesised h) = omega arith
spells-byte (bare h) = spells-byte h
spells-byte (starred {t = t} h) = simp length-append (omega arith)
spells-byte (plussed {t = t} h) = simp length-append (omega arith)
spells-byte (questioned {t = t} h) = simp length-append (omega arith)
spells-byte (alone h) = spells-byte h
spells-byte (followed {s = s} h k) = let l = spells-byte h in simp length-append (omega arith)
spells-byte (only h) = spells-byte h
spells-byte (or {s = s} h k) = simp length-append (omega arith)

abbrev pub LevelRead : Level → List ℕ → Parsed → Type 0
LevelRead level t = Of (λ e. Read (Spells level e) t) (Stuck Expression (Spells level) t)

-- the first part, which is something of the level by itself, and what goes on behind it
first_then : (part level : Level) → ((e : Expression) (s : List ℕ) → Spells part e s → Spells level e s) → (t : List ℕ) (p : Parsed)
    (next : Expression → List ℕ → Parsed) → LevelRead part t p
    → ((e : Expression) (rest : List ℕ) → Read (Spells part e) t rest → LevelRead level t (next e rest))
    → LevelRead level t (and_then p next)
first_then part level f t p next h k =
    of_then (λ e. Read (Spells part e) t) (λ e. Read (Spells level e) t) (Stuck Expression (Spells part) t)
    (Stuck Expression (Spells level) t) p next h k
    (λ rest g. record {
      text = g.text;
      splits = g.splits;
      behind = g.behind;
      what = g.what;
      spelling = g.spelling;
      begins = g.begins;
      spells = f g.what g.spelling g.spells;
    })

-- the second part, behind `front`
module _ (level : Level) (t front x : List ℕ) (split : t ≡ front ++ x) (both : Expression → Expression)
    (join : (f : Expression) (s : List ℕ) → Spells level f s → Spells level (both f) (front ++ s))
  where
    second_then : (p : Parsed) → LevelRead level x p → LevelRead level t (and_then p (λ f rest. parsed (both f) rest))
    second_then p h =
        of_then (λ e. Read (Spells level e) x) (λ e. Read (Spells level e) t) (Stuck Expression (Spells level) x)
        (Stuck Expression (Spells level) t) p _ h
        (λ f rest k. record {
          text = front ++ k.text;
          splits = splits_on t front x k.text rest split k.splits;
          spells = join f k.text k.spells;
        })
        (λ rest k. record {
          text = front ++ k.text;
          splits = splits_on t front x k.text rest split k.splits;
          behind = k.behind;
          what = both k.what;
          spelling = front ++ k.spelling;
          begins = rw append_assoc (ap (λ (y : List ℕ). front ++ y) k.begins);
          spells = join k.what k.spelling k.spells;
        })

-- nothing of an atom has been read
no_atom : (t : List ℕ) → Stuck Expression (Spells atom) t t
unfolding is_ordinary is_special
no_atom t = record {
  text = [];
  splits = refl;
  behind = 97 ∷ [];
  what = position (byte 97);
  spelling = 97 ∷ [];
  begins = refl;
  spells = ordinary refl;
}

-- behind a [
list_read : (x : List ℕ) (is : Items) → ItemsRead x is → LevelRead atom (91 ∷ x) (list_of is)
unfolding list_of
list_read x (items rs rest) h = record {
  text = 91 ∷ (h.text ++ 93 ∷ []);
  splits = ap (λ (y : List ℕ). 91 ∷ y) (rw append_assoc h.splits);
  spells = listed h.spells;
}
list_read x (no_items rest) h = record {
  text = 91 ∷ h.text;
  splits = ap (λ (y : List ℕ). 91 ∷ y) h.splits;
  behind = h.behind ++ 93 ∷ [];
  what = position (list h.what);
  spelling = 91 ∷ (h.spelling ++ 93 ∷ []);
  begins = ap (λ (y : List ℕ). 91 ∷ y) (ap (λ (y : List ℕ). y ++ 93 ∷ []) h.begins ∙ append_assoc h.text h.behind (93 ∷ []));
  spells = listed h.spells;
}

-- behind a backslash
escaped_read : (x : List ℕ) → LevelRead atom (92 ∷ x) (escaped_at x)
unfolding escaped_at is_special
escaped_read x = go x
  where
    missing : (y : List ℕ) → Stuck Expression (Spells atom) (92 ∷ y) y
    missing y = record {
      text = 92 ∷ [];
      splits = refl;
      behind = 46 ∷ [];
      what = position (byte 46);
      spelling = 92 ∷ 46 ∷ [];
      begins = refl;
      spells = escaped refl;
    }

    go : (y : List ℕ) → LevelRead atom (92 ∷ y) (escaped_at y)
    go [] = missing []
    go (b ∷ y) =
        by_test (LevelRead atom (92 ∷ b ∷ y)) (is_special b)
        (λ c. record { text = 92 ∷ b ∷ []; splits = refl; spells = escaped c }) (λ c. missing (b ∷ y))

-- behind a (
group_read : (x : List ℕ) (p : Parsed) → LevelRead alternatives x p → LevelRead atom (40 ∷ x) (and_then p closed)
unfolding closed
group_read x p h =
    of_then (λ e. Read (Spells alternatives e) x) (λ e. Read (Spells atom e) (40 ∷ x)) (Stuck Expression (Spells alternatives) x)
    (Stuck Expression (Spells atom) (40 ∷ x)) p closed h behind
    (λ rest k. record {
      text = 40 ∷ k.text;
      splits = ap (λ (y : List ℕ). 40 ∷ y) k.splits;
      behind = k.behind ++ 41 ∷ [];
      what = group k.what;
      spelling = 40 ∷ (k.spelling ++ 41 ∷ []);
      begins = ap (λ (y : List ℕ). 40 ∷ y) (ap (λ (y : List ℕ). y ++ 41 ∷ []) k.begins ∙ append_assoc k.text k.behind (41 ∷ []));
      spells = parenthesised k.spells;
    })
  where
    open_group : (e : Expression) (rest : List ℕ) → Read (Spells alternatives e) x rest → Stuck Expression (Spells atom) (40 ∷ x) rest
    open_group e rest k = record {
      text = 40 ∷ k.text;
      splits = ap (λ (y : List ℕ). 40 ∷ y) k.splits;
      behind = 41 ∷ [];
      what = group e;
      spelling = 40 ∷ (k.text ++ 41 ∷ []);
      begins = refl;
      spells = parenthesised k.spells;
    }

    behind : (e : Expression) (rest : List ℕ) → Read (Spells alternatives e) x rest → LevelRead atom (40 ∷ x) (closed e rest)
    behind e [] k = open_group e [] k
    behind e (b ∷ y) k =
        by_test (LevelRead atom (40 ∷ x)) (eqb b 41)
        (λ c. record {
          text = 40 ∷ (k.text ++ 41 ∷ []);
          splits = ap (λ (z : List ℕ). 40 ∷ z) (rw (append_assoc, ← eqb-true b 41 c) k.splits);
          spells = parenthesised k.spells;
        })
        (λ c. open_group e (b ∷ y) k)

atom_read : (t : List ℕ) → ((x : List ℕ) → length x < length t → LevelRead alternatives x (read_as alternatives x))
    → LevelRead atom t (atom_at (read_as alternatives) t)
unfolding atom_at
atom_read [] ih = no_atom []
atom_read (b ∷ x) ih =
    by_test R (eqb b 40)
    (λ c. at 40 c (and_then (read_as alternatives x) closed) (group_read x (read_as alternatives x) (ih x (omega arith))))
    (λ c. by_test R (eqb b 91) (λ c. at 91 c (list_of (items_in x)) (list_read x (items_in x) (items_read x)))
    (λ c. by_test R (eqb b 46) (λ c. at 46 c (parsed (position period) x) (record { text = 46 ∷ []; splits = refl; spells = any_byte }))
    (λ c. by_test R (eqb b 92) (λ c. at 92 c (escaped_at x) (escaped_read x))
    (λ c. by_test R (is_ordinary b) (λ c. record { text = b ∷ []; splits = refl; spells = ordinary c }) (λ c. no_atom (b ∷ x))))))
  where
    R : Parsed → Type 0
    R = LevelRead atom (b ∷ x)

    at : (k : ℕ) → eqb b k ≡ true → (p : Parsed) → LevelRead atom (k ∷ x) p → R p
    at k c p h = subst (λ (y : ℕ). LevelRead atom (y ∷ x) p) (sym (eqb-true b k c)) h

repeated_read : (t : List ℕ) (e : Expression) (rest : List ℕ) → Read (Spells atom e) t rest → LevelRead piece t (repeated e rest)
unfolding repeated
repeated_read t e [] h = record { text = h.text; splits = h.splits; spells = bare h.spells }
repeated_read t e (b ∷ x) h =
    by_test R (eqb b 42) (λ c. record { text = h.text ++ 42 ∷ []; splits = mark 42 c; spells = starred h.spells })
    (λ c. by_test R (eqb b 43) (λ c. record { text = h.text ++ 43 ∷ []; splits = mark 43 c; spells = plussed h.spells })
    (λ c. by_test R (eqb b 63) (λ c. record { text = h.text ++ 63 ∷ []; splits = mark 63 c; spells = questioned h.spells })
    (λ c. record { text = h.text; splits = h.splits; spells = bare h.spells })))
  where
    R : Parsed → Type 0
    R = LevelRead piece t

    mark : (k : ℕ) → eqb b k ≡ true → t ≡ (h.text ++ k ∷ []) ++ x
    mark k c = rw (append_assoc, ← eqb-true b k c) h.splits

after_piece_read : (t : List ℕ) → ((x : List ℕ) → length x < length t → LevelRead sequence x (read_as sequence x))
    → (e : Expression) (rest : List ℕ) → Read (Spells piece e) t rest → LevelRead sequence t (after_piece (read_as sequence) e rest)
unfolding after_piece
after_piece_read t ih e [] h = record { text = h.text; splits = h.splits; spells = alone h.spells }
after_piece_read t ih e (b ∷ x) h =
    by_test (LevelRead sequence t) (eqb b 124 || eqb b 41)
    (λ c. record { text = h.text; splits = h.splits; spells = alone h.spells })
    (λ c. second_then sequence t h.text (b ∷ x) h.splits (λ (f : Expression). concat e f) (λ f s k. followed h.spells k)
    (read_as sequence (b ∷ x)) (ih (b ∷ x) (longer t h.text (b ∷ x) h.splits (spells-byte h.spells))))

after_sequence_read : (t : List ℕ) → ((x : List ℕ) → length x < length t → LevelRead alternatives x (read_as alternatives x))
    → (e : Expression) (rest : List ℕ) → Read (Spells sequence e) t rest
    → LevelRead alternatives t (after_sequence (read_as alternatives) e rest)
unfolding after_sequence
after_sequence_read t ih e [] h = record { text = h.text; splits = h.splits; spells = only h.spells }
after_sequence_read t ih e (b ∷ x) h =
    by_test (LevelRead alternatives t) (eqb b 124)
    (λ c. second_then alternatives t (h.text ++ 124 ∷ []) x (rw (append_assoc, ← eqb-true b 124 c) h.splits)
    (λ (f : Expression). union e f) (λ f s k. rw append_assoc (or h.spells k)) (read_as alternatives x)
    (ih x (omega (arith, longer t h.text (b ∷ x) h.splits (spells-byte h.spells)))))
    (λ c. record { text = h.text; splits = h.splits; spells = only h.spells })

pub read_read : (level : Level) (t : List ℕ) → LevelRead level t (read_as level t)
read_read =
    by_reading (λ (level : Level) (t : List ℕ). LevelRead level t (read_as level t))
    (λ t h ih. rw (alternatives_unfold t)
    (first_then sequence alternatives (λ e s k. only k) t (read_as sequence t) _ h (after_sequence_read t ih)))
    (λ t h ih. rw (sequence_unfold t) (first_then piece sequence (λ e s k. alone k) t (read_as piece t) _ h (after_piece_read t ih)))
    (λ t h. rw (piece_unfold t) (first_then atom piece (λ e s k. bare k) t (read_as atom t) repeated h (repeated_read t)))
    (λ t ih. rw (atom_unfold t) (atom_read t ih))

-- ---- the laws; what is left is a tail of the text, by `splits`

pub items_sound : (t : List ℕ) {rs : List Range} {rest : List ℕ} → items_in t ≡ items rs rest → Read (SpellsItems rs) t (93 ∷ rest)
items_sound t q = subst (ItemsRead t) q (items_read t)

pub items_stuck : (t : List ℕ) {rest : List ℕ} → items_in t ≡ no_items rest → Stuck (List Range) SpellsItems t rest
items_stuck t q = subst (ItemsRead t) q (items_read t)

pub sound : (level : Level) (t : List ℕ) {e : Expression} {rest : List ℕ} → read_as level t ≡ parsed e rest → Read (Spells level e) t rest
sound level t q = subst (LevelRead level t) q (read_read level t)

pub stuck : (level : Level) (t : List ℕ) {rest : List ℕ} → read_as level t ≡ faulty rest → Stuck Expression (Spells level) t rest
stuck level t q = subst (LevelRead level t) q (read_read level t)

-- What is read as right spells that.
pub right-spells : (text : List ℕ) {e : Expression} → read_expression text ≡ right e → Spells alternatives e text
unfolding read_expression whole
right-spells text {e} q = go (read_as alternatives text) refl q
  where
    not_right : {n : ℕ} {A : Type 0} → wrong n ≡ right e → A
    not_right q = let z : ◌≡◌ {A = ℕ} 0 1 = cc in absurd (omega arith)

    go : (p : Parsed) → read_as alternatives text ≡ p → whole (length text) p ≡ right e → Spells alternatives e text
    go (parsed f []) r w =
        let k = sound alternatives text r in
        let same : f ≡ e = cc in
        rw (k.splits, append-nil k.text, ← same) k.spells
    go (parsed f (b ∷ t)) r w = not_right w
    go (faulty t) r w = not_right w
