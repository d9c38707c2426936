-- Reading unfolds: the steps that `read_as` and `items_in` count are enough, so that nobody opens `read_from` and `items_from` again.
-- Assumes nothing.
use mathlib.Core.Path.{◌≡◌, refl, sym, ◌∙◌, subst}
use mathlib.Core.Bool.{Bool, true, false, ◌&&◌, ◌||◌}
use mathlib.Core.List.{List, [], ◌∷◌}
use Prim.Native.Nat.{ℕ, zero, suc, ◌+◌, ◌*◌, ◌≤◌, ◌<◌}
use native.Mathlib.Omega.{arith}
use lib.Dec.{eqb, leb}
use lib.ListN.{length}
use Rattle.automaton.specs.Choice.{if}
use Rattle.expression.specs.Expression.{Range, Expression}
use Rattle.expression.specs.Spelling.{is_special, is_ordinary, is_listed, Level, alternatives, sequence, piece, atom}
use Rattle.expression.specs.Reading.{Item, item, no_item, high_end, low_end, item_at, Items, items, no_items, in_front, after_item}
use Rattle.expression.specs.Reading.{items_from, items_in, Parsed, parsed, faulty, and_then, list_of, escaped_at, closed, atom_at}
use Rattle.expression.specs.Reading.{repeated, after_piece, after_sequence, read_from, rank, read_as}

-- ---- what holds of the result of a reading: P where something was read, Q where there is a fault

abbrev pub OfItem : (Range → List ℕ → Type 0) → (List ℕ → Type 0) → Item → Type 0
OfItem P Q (item r rest) = P r rest
OfItem P Q (no_item rest) = Q rest

abbrev pub OfItems : (List Range → List ℕ → Type 0) → (List ℕ → Type 0) → Items → Type 0
OfItems P Q (items rs rest) = P rs rest
OfItems P Q (no_items rest) = Q rest

abbrev pub Of : (Expression → List ℕ → Type 0) → (List ℕ → Type 0) → Parsed → Type 0
Of P Q (parsed e rest) = P e rest
Of P Q (faulty rest) = Q rest

-- of either arm, of the choice
pub by_test : {A : Type 0} (P : A → Type 0) (c : Bool) {a b : A} → (c ≡ true → P a) → (c ≡ false → P b) → P (if c a b)
by_test P true f g = f refl
by_test P false f g = g refl

module _ (P P₁ : Expression → List ℕ → Type 0) (Q Q₁ : List ℕ → Type 0) where
  pub of_then : (p : Parsed) (next : Expression → List ℕ → Parsed) → Of P Q p
      → ((e : Expression) (rest : List ℕ) → P e rest → Of P₁ Q₁ (next e rest)) → ((rest : List ℕ) → Q rest → Q₁ rest)
      → Of P₁ Q₁ (and_then p next)
  unfolding and_then
  of_then (parsed e rest) next h k f = k e rest h
  of_then (faulty rest) next h k f = f rest h

-- ---- reading takes bytes: fewer than `k` are left where something was read, `n` at most where there is a fault

abbrev pub ItemWithin : ℕ → ℕ → Item → Type 0
ItemWithin k n = OfItem (λ r rest. length rest < k) (λ rest. length rest ≤ n)

abbrev pub ItemsWithin : ℕ → ℕ → Items → Type 0
ItemsWithin k n = OfItems (λ rs rest. length rest < k) (λ rest. length rest ≤ n)

abbrev pub Within : ℕ → ℕ → Parsed → Type 0
Within k n = Of (λ e rest. length rest < k) (λ rest. length rest ≤ n)

pub high_within : (a k n : ℕ) (x : List ℕ) → length x < k → length x ≤ n → ItemWithin k n (high_end a x)
unfolding high_end
high_within a k n [] l m = omega arith
high_within a k n (b ∷ x) l m = by_test (ItemWithin k n) (is_listed b && leb a b) (λ c. omega arith) (λ c. omega arith)

pub low_within : (a k n : ℕ) (x : List ℕ) → length x < k → length x ≤ n → ItemWithin k n (low_end a x)
unfolding low_end
low_within a k n [] l m = omega arith
low_within a k n (b ∷ x) l m =
    by_test (ItemWithin k n) (eqb b 45) (λ c. high_within a k n x (omega arith) (omega arith)) (λ c. omega arith)

item_within : (t : List ℕ) → ItemWithin (length t) (length t) (item_at t)
unfolding item_at
item_within [] = omega arith
item_within (a ∷ t) =
    by_test (ItemWithin (suc (length t)) (suc (length t))) (is_listed a)
    (λ c. low_within a (suc (length t)) (suc (length t)) t (omega arith) (omega arith)) (λ c. omega arith)

module _ (next : List ℕ → Items) (h : (x : List ℕ) → ItemsWithin (length x) (length x) (next x)) (k n : ℕ) (near : k ≤ suc n) where
  pub after_item_within : (i : Item) → ItemWithin k n i → ItemsWithin k n (after_item next i)
  unfolding after_item
  after_item_within (no_item rest) w = w
  after_item_within (item r []) w = omega arith
  after_item_within (item r (b ∷ x)) w = by_test (ItemsWithin k n) (eqb b 93) (λ c. omega arith) (λ c. front (next (b ∷ x)) (h (b ∷ x)))
    where
      front : (is : Items) → ItemsWithin (suc (length x)) (suc (length x)) is → ItemsWithin k n (in_front r is)
      front (items rs rest) g = omega arith
      front (no_items rest) g = omega arith

pub items_within : (n : ℕ) (t : List ℕ) → ItemsWithin (length t) (length t) (items_from n t)
unfolding items_from
items_within zero t = omega arith
items_within (suc n) t =
    after_item_within (items_from n) (items_within n) (length t) (length t) (omega arith) (item_at t) (item_within t)

pub within_then : (k n k₁ n₁ : ℕ) (p : Parsed) (next : Expression → List ℕ → Parsed) → Within k n p → n ≤ n₁
    → ((e : Expression) (rest : List ℕ) → length rest < k → Within k₁ n₁ (next e rest)) → Within k₁ n₁ (and_then p next)
within_then k n k₁ n₁ p next h l f =
    of_then (λ e rest. length rest < k) (λ e rest. length rest < k₁) (λ rest. length rest ≤ n) (λ rest. length rest ≤ n₁) p next h f
    (λ rest g. omega arith)

within_more : (k n k₁ n₁ : ℕ) → k ≤ k₁ → n ≤ n₁ → (p : Parsed) → Within k n p → Within k₁ n₁ p
within_more k n k₁ n₁ l m (parsed e rest) h = omega arith
within_more k n k₁ n₁ l m (faulty rest) h = omega arith

pub escaped_within : (t : List ℕ) → Within (suc (length t)) (length t) (escaped_at t)
unfolding escaped_at
escaped_within [] = omega arith
escaped_within (b ∷ t) = by_test (Within (suc (suc (length t))) (suc (length t))) (is_special b) (λ c. omega arith) (λ c. omega arith)

pub list_within : (t : List ℕ) → Within (suc (length t)) (length t) (list_of (items_in t))
unfolding list_of
list_within t = go (items_in t) (items_within (suc (length t)) t)
  where
    go : (is : Items) → ItemsWithin (length t) (length t) is → Within (suc (length t)) (length t) (list_of is)
    go (items rs rest) h = omega arith
    go (no_items rest) h = omega arith

module _ (k n : ℕ) where
  pub closed-within : (e : Expression) (t : List ℕ) → length t < k → length t ≤ n → Within k n (closed e t)
  unfolding closed
  closed-within e [] l m = omega arith
  closed-within e (b ∷ t) l m = by_test (Within k n) (eqb b 41) (λ c. omega arith) (λ c. omega arith)

  pub repeated-within : (e : Expression) (t : List ℕ) → length t < k → length t ≤ n → Within k n (repeated e t)
  unfolding repeated
  repeated-within e [] l m = l
  repeated-within e (b ∷ t) l m =
      by_test (Within k n) (eqb b 42) (λ c. omega arith)
      (λ c. by_test (Within k n) (eqb b 43) (λ c. omega arith) (λ c. by_test (Within k n) (eqb b 63) (λ c. omega arith) (λ c. l)))

module _ (next : List ℕ → Parsed) (h : (x : List ℕ) → Within (length x) (length x) (next x)) where
  pub group_within : (t : List ℕ) → Within (suc (length t)) (length t) (and_then (next t) closed)
  group_within t =
      within_then (length t) (length t) (suc (length t)) (length t) (next t) closed (h t) (omega arith)
      (λ e rest l. closed-within (suc (length t)) (length t) e rest (omega arith) (omega arith))

  atom_within : (t : List ℕ) → Within (length t) (length t) (atom_at next t)
  unfolding atom_at
  atom_within [] = omega arith
  atom_within (b ∷ t) =
      by_test W (eqb b 40) (λ c. on (and_then (next t) closed) (group_within t))
      (λ c. by_test W (eqb b 91) (λ c. on (list_of (items_in t)) (list_within t))
      (λ c. by_test W (eqb b 46) (λ c. omega arith)
      (λ c. by_test W (eqb b 92) (λ c. on (escaped_at t) (escaped_within t))
      (λ c. by_test W (is_ordinary b) (λ c. omega arith) (λ c. omega arith)))))
    where
      W : Parsed → Type 0
      W = Within (suc (length t)) (suc (length t))

      on : (p : Parsed) → Within (suc (length t)) (length t) p → W p
      on p = within_more (suc (length t)) (length t) (suc (length t)) (suc (length t)) (omega arith) (omega arith) p

  module _ (k n : ℕ) where
    pub after_piece_within : (e : Expression) (t : List ℕ) → length t < k → length t ≤ n → Within k n (after_piece next e t)
    unfolding after_piece
    after_piece_within e [] l m = l
    after_piece_within e (b ∷ t) l m =
        by_test (Within k n) (eqb b 124 || eqb b 41) (λ c. l)
        (λ c. within_then (suc (length t)) (suc (length t)) k n (next (b ∷ t)) _ (h (b ∷ t)) m (λ f rest g. omega arith))

    pub after_sequence_within : (e : Expression) (t : List ℕ) → length t < k → length t ≤ n → Within k n (after_sequence next e t)
    unfolding after_sequence
    after_sequence_within e [] l m = l
    after_sequence_within e (b ∷ t) l m =
        by_test (Within k n) (eqb b 124)
        (λ c. within_then (length t) (length t) k n (next t) _ (h t) (omega arith) (λ f rest g. omega arith)) (λ c. l)

pub read_within : (n : ℕ) (level : Level) (t : List ℕ) → Within (length t) (length t) (read_from n level t)
unfolding read_from
read_within zero level t = omega arith
read_within (suc n) alternatives t =
    let k = length t in
    within_then k k k k (read_from n sequence t) _ (read_within n sequence t) (omega arith)
    (λ e rest l. after_sequence_within (read_from n alternatives) (read_within n alternatives) k k e rest l (omega arith))
read_within (suc n) sequence t =
    let k = length t in
    within_then k k k k (read_from n piece t) _ (read_within n piece t) (omega arith)
    (λ e rest l. after_piece_within (read_from n sequence) (read_within n sequence) k k e rest l (omega arith))
read_within (suc n) piece t =
    let k = length t in
    within_then k k k k (read_from n atom t) repeated (read_within n atom t) (omega arith)
    (λ e rest l. repeated-within k k e rest l (omega arith))
read_within (suc n) atom t = atom_within (read_from n alternatives) (read_within n alternatives) t

-- ---- more steps do not change what is read

-- two ways to go on that agree on what is left come to the same
then_same : (p : Parsed) (f g : Expression → List ℕ → Parsed) → ((e : Expression) (rest : List ℕ) → p ≡ parsed e rest → f e rest ≡ g e rest)
    → and_then p f ≡ and_then p g
unfolding and_then
then_same (parsed e rest) f g h = h e rest refl
then_same (faulty rest) f g h = refl

abbrev Agree : {A : Type 0} → (List ℕ → A) → (List ℕ → A) → ℕ → Type 0
Agree f g n = (x : List ℕ) → length x < n → f x ≡ g x

item_same : (f g : List ℕ → Items) (n : ℕ) → Agree f g n → (i : Item) → ItemWithin n n i → after_item f i ≡ after_item g i
unfolding after_item
item_same f g n h (no_item rest) w = refl
item_same f g n h (item r []) w = refl
item_same f g n h (item r (b ∷ t)) w = rw (h (b ∷ t) w)

items_same : (n k : ℕ) (t : List ℕ) → length t < n → length t < k → items_from n t ≡ items_from k t
unfolding items_from
items_same zero k t l m = absurd (omega arith)
items_same (suc n) zero t l m = absurd (omega arith)
items_same (suc n) (suc k) t l m =
    item_same (items_from n) (items_from k) (length t) (λ x s. items_same n k x (omega arith) (omega arith)) (item_at t) (item_within t)

module _ (f g : List ℕ → Parsed) (n : ℕ) (h : Agree f g n) where
  atom_same : (t : List ℕ) → length t ≤ n → atom_at f t ≡ atom_at g t
  unfolding atom_at
  atom_same [] l = refl
  atom_same (b ∷ t) l = rw (h t l)

  after_piece_same : (e : Expression) (t : List ℕ) → length t < n → after_piece f e t ≡ after_piece g e t
  unfolding after_piece
  after_piece_same e [] l = refl
  after_piece_same e (b ∷ t) l = rw (h (b ∷ t) l)

  after_sequence_same : (e : Expression) (t : List ℕ) → length t < n → after_sequence f e t ≡ after_sequence g e t
  unfolding after_sequence
  after_sequence_same e [] l = refl
  after_sequence_same e (b ∷ t) l = rw (h t (omega arith))

left-within : (n : ℕ) (level : Level) (t : List ℕ) {e : Expression} {rest : List ℕ} → read_from n level t ≡ parsed e rest
    → length rest < length t
left-within n level t q = subst (Within (length t) (length t)) q (read_within n level t)

rank_positive : (level : Level) → 1 ≤ rank level
rank_positive alternatives = omega arith
rank_positive sequence = omega arith
rank_positive piece = omega arith
rank_positive atom = omega arith

read_same : (n k : ℕ) (level : Level) (t : List ℕ) → 4 * length t + rank level ≤ n → 4 * length t + rank level ≤ k
    → read_from n level t ≡ read_from k level t
unfolding read_from
read_same zero k level t l m = absurd (omega (arith, rank_positive level))
read_same (suc n) zero level t l m = absurd (omega (arith, rank_positive level))
read_same (suc n) (suc k) alternatives t l m =
    rw (read_same n k sequence t (omega arith) (omega arith))
    (then_same (read_from k sequence t) _ _
    (λ e rest q. after_sequence_same (read_from n alternatives) (read_from k alternatives) (length t)
    (λ x s. read_same n k alternatives x (omega arith) (omega arith)) e rest (left-within k sequence t q)))
read_same (suc n) (suc k) sequence t l m =
    rw (read_same n k piece t (omega arith) (omega arith))
    (then_same (read_from k piece t) _ _
    (λ e rest q. after_piece_same (read_from n sequence) (read_from k sequence) (length t)
    (λ x s. read_same n k sequence x (omega arith) (omega arith)) e rest (left-within k piece t q)))
read_same (suc n) (suc k) piece t l m = rw (read_same n k atom t (omega arith) (omega arith))
read_same (suc n) (suc k) atom t l m =
    atom_same (read_from n alternatives) (read_from k alternatives) (length t)
    (λ x s. read_same n k alternatives x (omega arith) (omega arith)) t (omega arith)

-- ---- the laws

pub items_enough : (n : ℕ) (t : List ℕ) → length t < n → items_from n t ≡ items_in t
items_enough n t l = items_same n (suc (length t)) t l (omega arith)

pub read_enough : (n : ℕ) (level : Level) (t : List ℕ) → 4 * length t + rank level ≤ n → read_from n level t ≡ read_as level t
unfolding read_as
read_enough n level t l = read_same n (4 * length t + rank level) level t l (omega arith)

-- what is read takes a byte at least
pub items_shorter : (t : List ℕ) {rs : List Range} {rest : List ℕ} → items_in t ≡ items rs rest → length rest < length t
items_shorter t q = subst (ItemsWithin (length t) (length t)) q (items_within (suc (length t)) t)

pub read_shorter : (level : Level) (t : List ℕ) {e : Expression} {rest : List ℕ} → read_as level t ≡ parsed e rest → length rest < length t
unfolding read_as
read_shorter level t q = left-within (4 * length t + rank level) level t q

pub items_unfold : (t : List ℕ) → items_in t ≡ after_item items_in (item_at t)
unfolding items_from
items_unfold t = item_same (items_from (length t)) items_in (length t) (λ x s. items_enough (length t) x s) (item_at t) (item_within t)

pub alternatives_unfold : (t : List ℕ) → read_as alternatives t ≡ and_then (read_as sequence t) (after_sequence (read_as alternatives))
unfolding read_from
alternatives_unfold t =
    let n = 4 * length t + 4 in
    sym (read_enough (suc n) alternatives t (omega arith))
    ∙ rw (read_enough n sequence t (omega arith))
    (then_same (read_as sequence t) _ _
    (λ e rest q. after_sequence_same (read_from n alternatives) (read_as alternatives) (length t)
    (λ x s. read_enough n alternatives x (omega arith)) e rest (read_shorter sequence t q)))

pub sequence_unfold : (t : List ℕ) → read_as sequence t ≡ and_then (read_as piece t) (after_piece (read_as sequence))
unfolding read_from
sequence_unfold t =
    let n = 4 * length t + 4 in
    sym (read_enough (suc n) sequence t (omega arith))
    ∙ rw (read_enough n piece t (omega arith))
    (then_same (read_as piece t) _ _
    (λ e rest q. after_piece_same (read_from n sequence) (read_as sequence) (length t)
    (λ x s. read_enough n sequence x (omega arith)) e rest (read_shorter piece t q)))

pub piece_unfold : (t : List ℕ) → read_as piece t ≡ and_then (read_as atom t) repeated
unfolding read_from
piece_unfold t =
    let n = 4 * length t + 4 in
    sym (read_enough (suc n) piece t (omega arith)) ∙ rw (read_enough n atom t (omega arith))

pub atom_unfold : (t : List ℕ) → read_as atom t ≡ atom_at (read_as alternatives) t
unfolding read_from
atom_unfold t =
    let n = 4 * length t + 4 in
    sym (read_enough (suc n) atom t (omega arith))
    ∙ atom_same (read_from n alternatives) (read_as alternatives) (length t)
    (λ x s. read_enough n alternatives x (omega arith)) t (omega arith)

-- ---- proofs by the steps of reading

pub by_length : (P : List ℕ → Type 0) → ((t : List ℕ) → ((x : List ℕ) → length x < length t → P x) → P t) → (t : List ℕ) → P t
by_length P f t = go (suc (length t)) t (omega arith)
  where
    go : (n : ℕ) (x : List ℕ) → length x < n → P x
    go zero x l = absurd (omega arith)
    go (suc n) x l = f x (λ y m. go n y (omega arith))

module _ (P : Level → List ℕ → Type 0)
    (at-alternatives : (t : List ℕ) → P sequence t → ((x : List ℕ) → length x < length t → P alternatives x) → P alternatives t)
    (at-sequence : (t : List ℕ) → P piece t → ((x : List ℕ) → length x < length t → P sequence x) → P sequence t)
    (at_piece : (t : List ℕ) → P atom t → P piece t)
    (at-atom : (t : List ℕ) → ((x : List ℕ) → length x < length t → P alternatives x) → P atom t)
  where
    pub by_reading : (level : Level) (t : List ℕ) → P level t
    by_reading level t = go (4 * length t + rank level) level t (omega arith)
      where
        go : (n : ℕ) (l : Level) (x : List ℕ) → 4 * length x + rank l ≤ n → P l x
        go zero l x m = absurd (omega (arith, rank_positive l))
        go (suc n) alternatives x m = at-alternatives x (go n sequence x (omega arith)) (λ y s. go n alternatives y (omega arith))
        go (suc n) sequence x m = at-sequence x (go n piece x (omega arith)) (λ y s. go n sequence y (omega arith))
        go (suc n) piece x m = at_piece x (go n atom x (omega arith))
        go (suc n) atom x m = at-atom x (λ y s. go n alternatives y (omega arith))
