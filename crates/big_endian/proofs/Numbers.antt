-- A number of two or four bytes is had back from them, and how its bytes are stored. Assumes nothing.
use mathlib.Core.Path.{◌≡◌, sym}
use mathlib.Core.List.{List}
use Prim.Native.Nat.{ℕ, ◌+◌, ◌*◌, ◌/◌, ◌%◌, ◌<◌, ◌≤◌}
use native.Mathlib.Omega.{arith}
use native.Mathlib.Nat.{div-add-mod', div-div-eq-div-mul}
use native.Mathlib.Numerals.{add-two}
use lib.Seq.{sets}
use lib.ListN.{length, take, drop}
use borrow.Rule.Slice.PartMut.{put_mid}
use Rattle.std.proofs.lemmas.List.Edits.{sets-eq}
use Rattle.std.proofs.Common.{append_assoc}
use Rattle.std.proofs.lemmas.List.{drop-drop}
use Rattle.big_endian.specs.Numbers.{two_at, four_at, two, four}

pub two_value : (n : ℕ) → n < 65536 → n / 256 % 256 * 256 + n % 256 ≡ n
two_value n l = omega arith

pub four_value : (n : ℕ) → n < 4294967296 → ((n / 16777216 % 256 * 256 + n / 65536 % 256) * 256 + n / 256 % 256) * 256 + n % 256 ≡ n
four_value n l =
    let z : n / 16777216 % 256 ≡ n / 16777216 = omega arith in
    rw (z, upper, middle) (div-add-mod' n 256)
  where
    upper : n / 16777216 * 256 + n / 65536 % 256 ≡ n / 65536
    upper = rw (div-div-eq-div-mul n 65536 256) at (div-add-mod' (n / 65536) 256)

    middle : n / 65536 * 256 + n / 256 % 256 ≡ n / 256
    middle = rw (div-div-eq-div-mul n 256 256) at (div-add-mod' (n / 256) 256)

-- four bytes are two and two, read and stored
pub four_read : (l : List ℕ) (i : ℕ) → two_at l i * 65536 + two_at l (i + 2) ≡ four_at l i
four_read l i =
    let e : i + 2 + 1 ≡ i + 3 = omega arith in
    rw e (omega arith)

pub four-stored : (l : List ℕ) (i n : ℕ) → sets (sets l i (two (n / 65536))) (i + 2) (two n) ≡ sets l i (four n)
four-stored l i n = rw (add-two, div-div-eq-div-mul n 65536 256)

-- the lowest bytes are those of what is left over the rest
pub two_low : (n : ℕ) → two (n % 65536) ≡ two n
two_low n =
    let a : n % 65536 / 256 % 256 ≡ n / 256 % 256 = omega arith in
    let b : n % 65536 % 256 ≡ n % 256 = omega arith in
    rw (a, b)

pub four_low : (n : ℕ) → four (n % 4294967296) ≡ four n
four_low n =
    let a : n % 4294967296 / 16777216 % 256 ≡ n / 16777216 % 256 = omega arith in
    let b : n % 4294967296 / 65536 % 256 ≡ n / 65536 % 256 = omega arith in
    let d : n % 4294967296 / 256 % 256 ≡ n / 256 % 256 = omega arith in
    let e : n % 4294967296 % 256 ≡ n % 256 = omega arith in
    rw (a, b, d, e)

-- bytes put in the place of others are a run of stores
pub stored : (vs l : List ℕ) (i k : ℕ) → i + length vs ≤ length l → k ≡ length vs → put_mid i k l vs ≡ sets l i vs
stored vs l i k h e = rw (e, drop-drop (length vs) i l, ← append_assoc (take i l) vs (drop (i + length vs) l)) (sym (sets-eq vs l i h))
