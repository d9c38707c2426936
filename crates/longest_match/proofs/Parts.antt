-- Parts of a text: to its end, of so many bytes, and of its front. Assumes nothing.
use mathlib.Core.Path.{◌≡◌, refl}
use mathlib.Core.List.{List, [], ◌∷◌}
use Prim.Native.Nat.{ℕ, zero, suc, ◌+◌, ◌-◌, ◌≤◌}
use native.Mathlib.Nat.{le_refl}
use native.Mathlib.Numerals.{unary_clauses}
use native.Mathlib.Omega.{arith}
use lib.ListN.{length, take, drop, length-drop}
use lib.Seq.{take_all}
use Rattle.longest_match.specs.Layers.{part}

pub part_end : (text : List ℕ) (at : ℕ) → part text at (length text) ≡ drop at text
unfolding part
part_end text at =
    let l : length (drop at text) ≤ length text - at = simp length-drop (le_refl _) in
    take_all _ (drop at text) l

pub part_bytes : (text : List ℕ) (at len : ℕ) → part text at (at + len) ≡ take len (drop at text)
unfolding part
part_bytes text at len =
    let l : at + len - at ≡ len = omega arith in
    rw l

nil_take : (n : ℕ) → take {A = ℕ} n [] ≡ []
nil_take zero = refl
nil_take (suc n) = refl

-- the front of a text, from a place on
pub part-front : (text : List ℕ) (at total : ℕ) → part text at total ≡ drop at (take total text)
unfolding part
part-front text zero total = simp unary_clauses
part-front [] (suc at) total = rw (nil_take total) (nil_take (total - suc at))
part-front (x ∷ xs) (suc at) zero =
    let l : 0 - suc at ≡ 0 = omega arith in
    rw l
part-front (x ∷ xs) (suc at) (suc total) = simp unary_clauses (part-front xs at total)
