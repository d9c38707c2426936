-- Marks while they are set, and the search for the lowest. Assumes nothing.
use mathlib.Core.Path.{◌≡◌, refl, sym, ap}
use mathlib.Core.Bool.{Bool, true, false, ◌&&◌, ◌||◌}
use mathlib.Core.Logic.{◌⊎◌, inl, inr}
use mathlib.Core.Option.{none, some}
use mathlib.Core.List.{List}
use Prim.Native.Nat.{ℕ, zero, suc, ◌+◌, ◌-◌, ◌≤◌, ◌<◌}
use native.Mathlib.Omega.{arith}
use native.Mathlib.Numerals.{add-one}
use lib.Dec.{leb, eqb}
use lib.ListN.{length, get_or, replicate}
use borrow.Author.Tests.{leb-true, leb-false, eqb-true, eqb-false}
use Rattle.automaton.proofs.Tests.{or_false}
use Rattle.byte_set.specs.Lowest.{lowest_from}
use Rattle.automaton.specs.Choice.{if}
use Rattle.std.specs.Prelude as std
use Rattle.std.specs.Prelude.{MatchOption}
use Rattle.byte_set.specs.Layers.{Ranged, some_below, lowest_of}

-- no marks
pub unmarked : (n x : ℕ) → get_or (replicate n false) x false ≡ false
unmarked zero x = refl
unmarked (suc n) zero = refl
unmarked (suc n) (suc x) = unmarked n x

-- the marks from `start` to before b are those of f, the others as they were
pub record Filling (f : ℕ → Bool) (start b : ℕ) (before after : List Bool) : Type 0 where
  pub from : start ≤ b
  pub size : length after ≡ 256
  pub inside : (x : ℕ) → start ≤ x → x < b → get_or after x false ≡ f x
  pub outside : (x : ℕ) → (x < start) ⊎ (b ≤ x) → get_or after x false ≡ get_or before x false

-- a range
pub ranging_end : {low high b : ℕ} {before after : List Bool} → Filling (λ (x : ℕ). true) low b before after → high < b
    → b ≤ low + (high + 1 - low) → Ranged low high before after
ranging_end {low} {high} {before = before} {after} w l m = record { size = w.size; marks = λ x. go x (leb low x) refl (leb x high) refl }
  where
    go : (x : ℕ) (s : Bool) → leb low x ≡ s → (t : Bool) → leb x high ≡ t → get_or after x false ≡ s && t || get_or before x false
    go x true p true q =
        let y : low ≤ x = leb-true low x p in
        let z : x ≤ high = leb-true x high q in
        w.inside x y (omega arith)
    go x true p false q =
        let y : low ≤ x = leb-true low x p in
        let z : high < x = leb-false x high q in
        w.outside x (inr (omega arith))
    go x false p t q = let y : x < low = leb-false low x p in w.outside x (inl y)

-- ---- whether there is one

pub some_none : (f : ℕ → Bool) → false ≡ some_below f 0
unfolding some_below
some_none f = refl

pub some_next : (f : ℕ → Bool) (b : ℕ) {common : Bool} → common ≡ some_below f b → common || f b ≡ some_below f (b + 1)
unfolding some_below
some_next f b e = rw (e, add-one)

pub some_not : (f : ℕ → Bool) (n : ℕ) → some_below f n ≡ false → (b : ℕ) → b < n → f b ≡ false
unfolding some_below
some_not f zero e b l = absurd (omega arith)
some_not f (suc n) e b l = go (eqb b n) refl (some_not f n (or_false (some_below f n) (f n) e).0 b)
  where
    go : (c : Bool) → eqb b n ≡ c → (b < n → f b ≡ false) → f b ≡ false
    go true q ih = let y : b ≡ n = eqb-true b n q in rw y (or_false (some_below f n) (f n) e).1
    go false q ih = let y = eqb-false b n q in ih (omega arith)

pub not_from : (f : ℕ → Bool) (b n : ℕ) → ((x : ℕ) → x < b + n → f x ≡ false) → lowest_from f b n ≡ none
unfolding lowest_from
not_from f b zero h = refl
not_from f b (suc n) h = rw (h b (omega arith), not_from f (suc b) n (λ x l. h x (omega arith)))

pub lowest_none : (f : ℕ → Bool) (n : ℕ) → some_below f n ≡ false → lowest_from f 0 n ≡ none
lowest_none f n e = not_from f 0 n (λ x l. some_not f n e x (omega arith))

-- what `find` answers
pub lowest_at : (f : ℕ → Bool) (b n i : ℕ) → b ≤ i → i < b + n → f i ≡ true → ((k : ℕ) → b ≤ k → k < i → f k ≡ false) → lowest_from f b n ≡ some i
unfolding lowest_from
lowest_at f b zero i l m e h = absurd (omega arith)
lowest_at f b (suc n) i l m e h = go (eqb b i) refl (λ y. lowest_at f (suc b) n i y (omega arith) e (λ k p r. h k (omega arith) r))
  where
    go : (c : Bool) → eqb b i ≡ c → (suc b ≤ i → lowest_from f (suc b) n ≡ some i) → if (f b) (some b) (lowest_from f (suc b) n) ≡ some i
    go true q ih = let y : b ≡ i = eqb-true b i q in rw (y, e)
    go false q ih = let y = eqb-false b i q in rw (h b (omega arith) (omega arith)) (ih (omega arith))

pub first_is_lowest : (f : ℕ → Bool) (n : ℕ) (r : std.Option ℕ)
    → MatchOption r ((k : ℕ) → 0 ≤ k → k < n → f k ≡ false) (λ i. (0 ≤ i) × (i < n) × (f i ≡ true) × ((k : ℕ) → 0 ≤ k → k < i → f k ≡ false))
    → r ≡ lowest_of (lowest_from f 0 n)
first_is_lowest f n std.None h = ap lowest_of (sym (not_from f 0 n (λ x l. h x (omega arith) (omega (arith, l)))))
first_is_lowest f n (std.Some i) h = ap lowest_of (sym (lowest_at f 0 n i h.0 (omega (arith, h.1)) h.2 h.3))

-- it is the same by tests that agree
pub lowest_same : (f g : ℕ → Bool) (b n : ℕ) → ((i : ℕ) → b ≤ i → i < b + n → f i ≡ g i) → lowest_from f b n ≡ lowest_from g b n
unfolding lowest_from
lowest_same f g b zero h = refl
lowest_same f g b (suc n) h = rw (h b (omega arith) (omega arith), lowest_same f g (suc b) n (λ i l m. h i (omega arith) (omega arith)))
