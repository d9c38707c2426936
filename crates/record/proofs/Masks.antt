-- Masks in bytes: stored, counted, those of a slice of numbers, and that nothing is lost. Assumes nothing.
use mathlib.Core.Path.{◌≡◌, refl, ◌∙◌, ap}
use mathlib.Core.List.{List, [], ◌∷◌, ◌++◌}
use Prim.Native.Nat.{ℕ, zero, suc, ◌+◌, ◌*◌, ◌<◌, ◌≤◌}
use native.Mathlib.Omega.{arith}
use lib.ListN.{length, get_or, set, take, drop}
use lib.Seq.{sets, sets-eq}
use Rattle.automaton.specs.Choice.{All}
use Rattle.big_endian.specs.Numbers.{four_at, four}
use Rattle.big_endian.proofs.Numbers.{four_value}
use Rattle.record.specs.Masks.{mask_bytes, mask_count, FitsMask}

four_more : (n : ℕ) → 4 * suc n ≡ suc (suc (suc (suc (4 * n))))
four_more n = omega arith

-- ---- stored and counted

pub mask_stored : (l : List ℕ) (i mask : ℕ) → i + 4 ≤ length l → sets l i (four mask) ≡ take i l ++ four mask ++ drop (i + 4) l
mask_stored l i mask h = sets-eq (four mask) l i h

pub length_mask_bytes : (ms : List ℕ) → length (mask_bytes ms) ≡ 4 * length ms
unfolding mask_bytes
length_mask_bytes [] = refl
length_mask_bytes (m ∷ ms) = omega (arith, length_mask_bytes ms)

-- a slice counts as its length
pub count_mask_bytes : (ms : List ℕ) → mask_count (mask_bytes ms) ≡ length ms
count_mask_bytes ms = omega (arith, length_mask_bytes ms)

-- to store a mask is to put its bytes in the place of another's
pub mask_bytes_set : (ms : List ℕ) (i m : ℕ) → i < length ms
    → mask_bytes (set ms i m) ≡ take (4 * i) (mask_bytes ms) ++ four m ++ drop (4 * i + 4) (mask_bytes ms)
unfolding mask_bytes
mask_bytes_set [] i m l = absurd (omega arith)
mask_bytes_set (x ∷ xs) zero m l = refl
mask_bytes_set (x ∷ xs) (suc i) m l =
    let p : 4 * suc i + 4 ≡ suc (suc (suc (suc (4 * i + 4)))) = omega arith in
    rw (p, four_more i, mask_bytes_set xs i m (omega arith))

-- ---- nothing is lost

pub mask_bytes_injective : (ms ns : List ℕ) → All FitsMask ms → All FitsMask ns → mask_bytes ms ≡ mask_bytes ns → ms ≡ ns
unfolding mask_bytes
mask_bytes_injective [] [] f g e = refl
mask_bytes_injective [] (n ∷ ns) f g e = absurd (omega (arith, ap length e))
mask_bytes_injective (m ∷ ms) [] f g e = absurd (omega (arith, ap length e))
mask_bytes_injective (m ∷ ms) (n ∷ ns) (f, fs) (g, gs) e =
    let a : m ≡ n = cc (e, four_value m f, four_value n g) in
    let b : mask_bytes ms ≡ mask_bytes ns = cc in
    rw (a, mask_bytes_injective ms ns fs gs b)

-- ---- the first n masks, and what lies behind them

pub take_mask_bytes : (ms : List ℕ) (n : ℕ) → take (4 * n) (mask_bytes ms) ≡ mask_bytes (take n ms)
unfolding mask_bytes
take_mask_bytes ms zero = refl
take_mask_bytes [] (suc n) = rw (four_more n)
take_mask_bytes (m ∷ ms) (suc n) = rw (four_more n, take_mask_bytes ms n)

pub drop_mask_bytes : (ms : List ℕ) (n : ℕ) → drop (4 * n) (mask_bytes ms) ≡ mask_bytes (drop n ms)
unfolding mask_bytes
drop_mask_bytes ms zero = refl
drop_mask_bytes [] (suc n) = rw (four_more n)
drop_mask_bytes (m ∷ ms) (suc n) = rw (four_more n, drop_mask_bytes ms n)

-- ---- mask number i

later : (m : ℕ) (bytes : List ℕ) (i : ℕ) → four_at (four m ++ bytes) (4 * suc i) ≡ four_at bytes (4 * i)
later m bytes i =
    rw (
      over (4 * suc i + 3) (4 * i + 3) (omega arith),
      over (4 * suc i + 2) (4 * i + 2) (omega arith),
      over (4 * suc i + 1) (4 * i + 1) (omega arith),
      over (4 * suc i) (4 * i) (omega arith),
    )
  where
    over : (a b : ℕ) → a ≡ suc (suc (suc (suc b))) → get_or (four m ++ bytes) a 0 ≡ get_or bytes b 0
    over a b e = rw e

-- it stands behind i others
pub mask_at : (ms : List ℕ) (m : ℕ) (ns rest : List ℕ) → FitsMask m → four_at (mask_bytes (ms ++ m ∷ ns) ++ rest) (4 * length ms) ≡ m
unfolding mask_bytes
mask_at [] m ns rest f = four_value m f
mask_at (x ∷ ms) m ns rest f = later x (mask_bytes (ms ++ m ∷ ns) ++ rest) (length ms) ∙ mask_at ms m ns rest f

-- that of a slice
pub mask_in_lem : (ms : List ℕ) (i : ℕ) → i < length ms → All FitsMask ms → four_at (mask_bytes ms) (4 * i) ≡ get_or ms i 0
unfolding mask_bytes
mask_in_lem [] i l f = absurd (omega arith)
mask_in_lem (m ∷ ms) zero l (f, fs) = four_value m f
mask_in_lem (m ∷ ms) (suc i) l (f, fs) = later m (mask_bytes ms) i ∙ mask_in_lem ms i (omega arith) fs
