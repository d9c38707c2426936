-- Bytes in front of what is written. Assumes nothing.
use mathlib.Core.Path.{◌≡◌, sym, ap, ◌∙◌, subst}
use mathlib.Core.List.{List, ◌++◌}
use Prim.Native.Nat.{ℕ, ◌+◌, ◌<◌, ◌≤◌}
use native.Mathlib.Omega.{arith}
use lib.ListN.{length, drop, length-append, length-drop}
use lib.Seq.{drop-drop, drop-append_seam}
use Rattle.std.specs.Prelude.{Some, None}
use Rattle.output.specs.Layers.{Stand, Stands}

pub stands_at : {start : ℕ} {bytes scratch : List ℕ} → Stand start bytes scratch → Stands (Some start) bytes scratch
stands_at {start} {bytes} {scratch} s =
    record {
      at = λ k e. let q : start ≡ k = cc in subst (λ (i : ℕ). Stand i bytes scratch) q s;
      full = λ e. cc;
    }

pub stands_full : (bytes scratch : List ℕ) → length scratch < length bytes → Stands None bytes scratch
stands_full bytes scratch l = record { at = λ k e. cc; full = λ e. l }

-- what stands behind the bytes that were put in front stays
pub behind : {start : ℕ} (at : ℕ) (bytes scratch : List ℕ) {exit : List ℕ} → Stand start (bytes ++ drop at scratch) exit → length exit
    ≡ length scratch
    → at ≤ length scratch → drop at exit ≡ drop at scratch
behind {start} at bytes scratch {exit} s e l =
    let k = simp (length-drop, length-append) at (ap length s.laid) in
    let q : at ≡ start + length bytes = omega (arith, s.within) in
    ap (λ (i : ℕ). drop i exit) q ∙ sym (drop-drop (length bytes) start exit) ∙ rw s.laid (drop-append_seam bytes (drop at scratch))
