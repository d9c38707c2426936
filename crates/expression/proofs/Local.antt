-- What stands behind the first byte that is left plays no part in a reading. Here, as in `Unfolding`, two texts are read in as many steps.
-- Assumes nothing.
use mathlib.Core.Path.{◌≡◌, refl, subst}
use mathlib.Core.Bool.{Bool, true, false, ◌&&◌, ◌||◌}
use mathlib.Core.List.{List, [], ◌∷◌, ◌++◌, append_cancel_right}
use Prim.Native.Nat.{ℕ, zero, suc, ◌+◌, ◌*◌, ◌≤◌, ◌<◌}
use native.Mathlib.Omega.{arith}
use lib.Dec.{eqb, leb}
use lib.ListN.{length}
use Rattle.automaton.specs.Choice.{if}
use Rattle.expression.specs.Expression.{Range, byte, period, list, Expression, position, group, union, concat, star, plus, optional}
use Rattle.expression.specs.Spelling.{is_special, is_ordinary, is_listed, Level, alternatives, sequence, piece, atom}
use Rattle.expression.specs.Reading.{Item, item, no_item, high_end, low_end, item_at, Items, items, no_items, in_front, after_item}
use Rattle.expression.specs.Reading.{range_of, items_from, items_in, Parsed, parsed, faulty, and_then, list_of, escaped_at, closed, atom_at}
use Rattle.expression.specs.Reading.{repeated, after_piece, after_sequence, read_from, rank, read_as}
use Rattle.expression.proofs.Unfolding.{ItemWithin, ItemsWithin, Within, high_within, low_within, after_item_within, items_within}
use Rattle.expression.proofs.Unfolding.{within_then, escaped_within, list_within, closed-within, repeated-within, group_within}
use Rattle.expression.proofs.Unfolding.{after_piece_within, after_sequence_within, read_within, items_enough, read_enough}

-- Two results, of texts that end in `end` and in `end₁`: they are the same, and the ends are left; or the first reading passes its end's
-- first byte.
data Alike (end end₁ : List ℕ) (A R : Type 0) (ok : A → List ℕ → R) (no : List ℕ → R) (Past : R → Type 0) : R → R → Type 0 where
  same : (a : A) (x : List ℕ) → Alike end end₁ A R ok no Past (ok a (x ++ end)) (ok a (x ++ end₁))
  fault : (x : List ℕ) → Alike end end₁ A R ok no Past (no (x ++ end)) (no (x ++ end₁))
  past : {p q : R} → Past p → Alike end end₁ A R ok no Past p q

by_test_both : {A : Type 0} (P : A → A → Type 0) (c : Bool) {a b a₁ b₁ : A} → (c ≡ true → P a a₁) → (c ≡ false → P b b₁)
    → P (if c a b) (if c a₁ b₁)
by_test_both P true f g = f refl
by_test_both P false f g = g refl

module _ (b : ℕ) (u v : List ℕ) where
  abbrev AlikeItem : Item → Item → Type 0
  AlikeItem = Alike (b ∷ u) (b ∷ v) Range Item item no_item (ItemWithin (suc (length u)) (length u))

  abbrev AlikeItems : Items → Items → Type 0
  AlikeItems = Alike (b ∷ u) (b ∷ v) (List Range) Items items no_items (ItemsWithin (suc (length u)) (length u))

  abbrev AlikeParsed : Parsed → Parsed → Type 0
  AlikeParsed = Alike (b ∷ u) (b ∷ v) Expression Parsed parsed faulty (Within (suc (length u)) (length u))

  -- ---- lists

  high_alike : (low : ℕ) (s : List ℕ) → AlikeItem (high_end low (s ++ b ∷ u)) (high_end low (s ++ b ∷ v))
  unfolding high_end
  high_alike low [] = by_test_both AlikeItem (is_listed b && leb low b) (λ c. past (omega arith)) (λ c. fault [])
  high_alike low (d ∷ s) = by_test_both AlikeItem (is_listed d && leb low d) (λ c. same (range_of low d) s) (λ c. fault (d ∷ s))

  low_alike : (low : ℕ) (s : List ℕ) → AlikeItem (low_end low (s ++ b ∷ u)) (low_end low (s ++ b ∷ v))
  unfolding low_end
  low_alike low [] =
      by_test_both AlikeItem (eqb b 45) (λ c. past (high_within low (suc (length u)) (length u) u (omega arith) (omega arith)))
      (λ c. same (range_of low low) [])
  low_alike low (d ∷ s) = by_test_both AlikeItem (eqb d 45) (λ c. high_alike low s) (λ c. same (range_of low low) (d ∷ s))

  item_alike : (s : List ℕ) → AlikeItem (item_at (s ++ b ∷ u)) (item_at (s ++ b ∷ v))
  unfolding item_at
  item_alike [] =
      by_test_both AlikeItem (is_listed b) (λ c. past (low_within b (suc (length u)) (length u) u (omega arith) (omega arith)))
      (λ c. fault [])
  item_alike (d ∷ s) = by_test_both AlikeItem (is_listed d) (λ c. low_alike d s) (λ c. fault (d ∷ s))

  front-alike : (r : Range) (is js : Items) → AlikeItems is js → AlikeItems (in_front r is) (in_front r js)
  front-alike r is js (same rs x) = same (r ∷ rs) x
  front-alike r is js (fault x) = fault x
  front-alike r is js (past h) = past (go is h)
    where
      go : (ks : Items) → ItemsWithin (suc (length u)) (length u) ks → ItemsWithin (suc (length u)) (length u) (in_front r ks)
      go (items rs rest) g = g
      go (no_items rest) g = g

  after_item_alike : (n : ℕ) → ((s : List ℕ) → AlikeItems (items_from n (s ++ b ∷ u)) (items_from n (s ++ b ∷ v)))
      → (i j : Item) → AlikeItem i j → AlikeItems (after_item (items_from n) i) (after_item (items_from n) j)
  unfolding after_item
  after_item_alike n ih i j (same r []) =
      by_test_both AlikeItems (eqb b 93) (λ c. past (omega arith)) (λ c. front-alike r _ _ (ih []))
  after_item_alike n ih i j (same r (d ∷ x)) =
      by_test_both AlikeItems (eqb d 93) (λ c. same (r ∷ []) x) (λ c. front-alike r _ _ (ih (d ∷ x)))
  after_item_alike n ih i j (fault x) = fault x
  after_item_alike n ih i j (past h) =
      past (after_item_within (items_from n) (items_within n) (suc (length u)) (length u) (omega arith) i h)

  items_alike : (n : ℕ) (s : List ℕ) → AlikeItems (items_from n (s ++ b ∷ u)) (items_from n (s ++ b ∷ v))
  unfolding items_from
  items_alike zero s = fault s
  items_alike (suc n) s = after_item_alike n (items_alike n) (item_at (s ++ b ∷ u)) (item_at (s ++ b ∷ v)) (item_alike s)

  items_in_alike : (s : List ℕ) → AlikeItems (items_in (s ++ b ∷ u)) (items_in (s ++ b ∷ v))
  items_in_alike s =
      let n = suc (length (s ++ b ∷ u) + length (s ++ b ∷ v)) in
      rw (items_enough n (s ++ b ∷ u) (omega arith), items_enough n (s ++ b ∷ v) (omega arith)) at (items_alike n s)

  -- ---- expressions

  then_alike : (p q : Parsed) (f g : Expression → List ℕ → Parsed) → AlikeParsed p q
      → ((e : Expression) (x : List ℕ) → AlikeParsed (f e (x ++ b ∷ u)) (g e (x ++ b ∷ v)))
      → ((e : Expression) (rest : List ℕ) → length rest < suc (length u) → Within (suc (length u)) (length u) (f e rest))
      → AlikeParsed (and_then p f) (and_then q g)
  unfolding and_then
  then_alike p q f g (same e x) h w = h e x
  then_alike p q f g (fault x) h w = fault x
  then_alike p q f g (past k) h w =
      past (within_then (suc (length u)) (length u) (suc (length u)) (length u) p f k (omega arith) w)

  list_alike : (is js : Items) → AlikeItems is js → AlikeParsed (list_of is) (list_of js)
  unfolding list_of
  list_alike is js (same rs x) = same (position (list rs)) x
  list_alike is js (fault x) = fault x
  list_alike is js (past h) = past (go is h)
    where
      go : (ks : Items) → ItemsWithin (suc (length u)) (length u) ks → Within (suc (length u)) (length u) (list_of ks)
      go (items rs rest) g = g
      go (no_items rest) g = g

  escaped_alike : (s : List ℕ) → AlikeParsed (escaped_at (s ++ b ∷ u)) (escaped_at (s ++ b ∷ v))
  unfolding escaped_at
  escaped_alike [] = by_test_both AlikeParsed (is_special b) (λ c. past (omega arith)) (λ c. fault [])
  escaped_alike (d ∷ s) = by_test_both AlikeParsed (is_special d) (λ c. same (position (byte d)) s) (λ c. fault (d ∷ s))

  closed-alike : (e : Expression) (s : List ℕ) → AlikeParsed (closed e (s ++ b ∷ u)) (closed e (s ++ b ∷ v))
  unfolding closed
  closed-alike e [] = by_test_both AlikeParsed (eqb b 41) (λ c. past (omega arith)) (λ c. fault [])
  closed-alike e (d ∷ s) = by_test_both AlikeParsed (eqb d 41) (λ c. same (group e) s) (λ c. fault (d ∷ s))

  repeated-alike : (e : Expression) (s : List ℕ) → AlikeParsed (repeated e (s ++ b ∷ u)) (repeated e (s ++ b ∷ v))
  unfolding repeated
  repeated-alike e [] =
      by_test_both AlikeParsed (eqb b 42) (λ c. past (omega arith))
      (λ c. by_test_both AlikeParsed (eqb b 43) (λ c. past (omega arith))
      (λ c. by_test_both AlikeParsed (eqb b 63) (λ c. past (omega arith)) (λ c. same e [])))
  repeated-alike e (d ∷ s) =
      by_test_both AlikeParsed (eqb d 42) (λ c. same (star e) s)
      (λ c. by_test_both AlikeParsed (eqb d 43) (λ c. same (plus e) s)
      (λ c. by_test_both AlikeParsed (eqb d 63) (λ c. same (optional e) s) (λ c. same e (d ∷ s))))

  module _ (next : List ℕ → Parsed) (w : (x : List ℕ) → Within (length x) (length x) (next x))
      (h : (s : List ℕ) → AlikeParsed (next (s ++ b ∷ u)) (next (s ++ b ∷ v)))
    where
      atom_alike : (s : List ℕ) → AlikeParsed (atom_at next (s ++ b ∷ u)) (atom_at next (s ++ b ∷ v))
      unfolding atom_at
      atom_alike [] =
          by_test_both AlikeParsed (eqb b 40) (λ c. past (group_within next w u))
          (λ c. by_test_both AlikeParsed (eqb b 91) (λ c. past (list_within u))
          (λ c. by_test_both AlikeParsed (eqb b 46) (λ c. past (omega arith))
          (λ c. by_test_both AlikeParsed (eqb b 92) (λ c. past (escaped_within u))
          (λ c. by_test_both AlikeParsed (is_ordinary b) (λ c. past (omega arith)) (λ c. fault [])))))
      atom_alike (d ∷ s) =
          by_test_both AlikeParsed (eqb d 40)
          (λ c. then_alike (next (s ++ b ∷ u)) (next (s ++ b ∷ v)) closed closed (h s) closed-alike
          (λ e rest l. closed-within (suc (length u)) (length u) e rest l (omega arith)))
          (λ c. by_test_both AlikeParsed (eqb d 91) (λ c. list_alike _ _ (items_in_alike s))
          (λ c. by_test_both AlikeParsed (eqb d 46) (λ c. same (position period) s)
          (λ c. by_test_both AlikeParsed (eqb d 92) (λ c. escaped_alike s)
          (λ c. by_test_both AlikeParsed (is_ordinary d) (λ c. same (position (byte d)) s) (λ c. fault (d ∷ s))))))

      -- what is read second, with what was read first
      both_alike : (both : Expression → Expression) (s : List ℕ)
          → AlikeParsed (and_then (next (s ++ b ∷ u)) (λ f rest. parsed (both f) rest))
          (and_then (next (s ++ b ∷ v)) (λ f rest. parsed (both f) rest))
      both_alike both s =
          then_alike (next (s ++ b ∷ u)) (next (s ++ b ∷ v)) (λ f rest. parsed (both f) rest) (λ f rest. parsed (both f) rest) (h s)
          (λ f x. same (both f) x) (λ f rest l. l)

      after_piece_alike : (e : Expression) (s : List ℕ) → AlikeParsed (after_piece next e (s ++ b ∷ u)) (after_piece next e (s ++ b ∷ v))
      unfolding after_piece
      after_piece_alike e [] =
          by_test_both AlikeParsed (eqb b 124 || eqb b 41) (λ c. same e []) (λ c. both_alike (λ (f : Expression). concat e f) [])
      after_piece_alike e (d ∷ s) =
          by_test_both AlikeParsed (eqb d 124 || eqb d 41) (λ c. same e (d ∷ s)) (λ c. both_alike (λ (f : Expression). concat e f) (d ∷ s))

      after_sequence_alike : (e : Expression) (s : List ℕ)
          → AlikeParsed (after_sequence next e (s ++ b ∷ u)) (after_sequence next e (s ++ b ∷ v))
      unfolding after_sequence
      after_sequence_alike e [] =
          by_test_both AlikeParsed (eqb b 124)
          (λ c. past (within_then (length u) (length u) (suc (length u)) (length u) (next u) _ (w u) (omega arith) (λ f rest g. omega arith)))
          (λ c. same e [])
      after_sequence_alike e (d ∷ s) =
          by_test_both AlikeParsed (eqb d 124) (λ c. both_alike (λ (f : Expression). union e f) s) (λ c. same e (d ∷ s))

  read_alike : (n : ℕ) (level : Level) (s : List ℕ) → AlikeParsed (read_from n level (s ++ b ∷ u)) (read_from n level (s ++ b ∷ v))
  unfolding read_from
  read_alike zero level s = fault s
  read_alike (suc n) alternatives s =
      then_alike (read_from n sequence (s ++ b ∷ u)) (read_from n sequence (s ++ b ∷ v)) _ _ (read_alike n sequence s)
      (after_sequence_alike (read_from n alternatives) (read_within n alternatives) (read_alike n alternatives))
      (λ e rest l. after_sequence_within (read_from n alternatives) (read_within n alternatives) (suc (length u)) (length u) e rest l
      (omega arith))
  read_alike (suc n) sequence s =
      then_alike (read_from n piece (s ++ b ∷ u)) (read_from n piece (s ++ b ∷ v)) _ _ (read_alike n piece s)
      (after_piece_alike (read_from n sequence) (read_within n sequence) (read_alike n sequence))
      (λ e rest l. after_piece_within (read_from n sequence) (read_within n sequence) (suc (length u)) (length u) e rest l (omega arith))
  read_alike (suc n) piece s =
      then_alike (read_from n atom (s ++ b ∷ u)) (read_from n atom (s ++ b ∷ v)) repeated repeated (read_alike n atom s) repeated-alike
      (λ e rest l. repeated-within (suc (length u)) (length u) e rest l (omega arith))
  read_alike (suc n) atom s = atom_alike (read_from n alternatives) (read_within n alternatives) (read_alike n alternatives) s

  read_as_alike : (level : Level) (s : List ℕ) → AlikeParsed (read_as level (s ++ b ∷ u)) (read_as level (s ++ b ∷ v))
  read_as_alike level s =
      let n = 4 * length (s ++ b ∷ u) + (4 * length (s ++ b ∷ v) + rank level) in
      rw (read_enough n level (s ++ b ∷ u) (omega arith), read_enough n level (s ++ b ∷ v) (omega arith)) at (read_alike n level s)

  -- ---- the laws

  pub parsed_local : (level : Level) (s : List ℕ) {e : Expression} → read_as level (s ++ b ∷ u) ≡ parsed e (b ∷ u)
      → read_as level (s ++ b ∷ v) ≡ parsed e (b ∷ v)
  parsed_local level s {e} q = go (read_as level (s ++ b ∷ u)) (read_as level (s ++ b ∷ v)) (read_as_alike level s) q
    where
      go : (p₁ p₂ : Parsed) → AlikeParsed p₁ p₂ → p₁ ≡ parsed e (b ∷ u) → p₂ ≡ parsed e (b ∷ v)
      go p₁ p₂ (same f x) r =
          let l : x ++ b ∷ u ≡ b ∷ u = cc in
          let x_empty : x ≡ [] = append_cancel_right x [] (b ∷ u) l in
          let f_is : f ≡ e = cc in
          rw (x_empty, f_is)
      go p₁ p₂ (fault x) r = let z : ◌≡◌ {A = ℕ} 0 1 = cc in absurd (omega arith)
      go p₁ p₂ (past h) r =
          let l : suc (length u) < suc (length u) = subst (Within (suc (length u)) (length u)) r h in absurd (omega arith)

  pub faulty_local : (level : Level) (s : List ℕ) → read_as level (s ++ b ∷ u) ≡ faulty (b ∷ u)
      → read_as level (s ++ b ∷ v) ≡ faulty (b ∷ v)
  faulty_local level s q = go (read_as level (s ++ b ∷ u)) (read_as level (s ++ b ∷ v)) (read_as_alike level s) q
    where
      go : (p₁ p₂ : Parsed) → AlikeParsed p₁ p₂ → p₁ ≡ faulty (b ∷ u) → p₂ ≡ faulty (b ∷ v)
      go p₁ p₂ (same f x) r = let z : ◌≡◌ {A = ℕ} 0 1 = cc in absurd (omega arith)
      go p₁ p₂ (fault x) r =
          let l : x ++ b ∷ u ≡ b ∷ u = cc in
          let x_empty : x ≡ [] = append_cancel_right x [] (b ∷ u) l in
          rw x_empty
      go p₁ p₂ (past h) r =
          let l : suc (length u) ≤ length u = subst (Within (suc (length u)) (length u)) r h in absurd (omega arith)
