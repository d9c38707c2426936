-- A buffer that is filled from its start, piece by piece. Assumes nothing.
use mathlib.Core.Path.{◌≡◌, refl, sym, ap, ◌∙◌}
use mathlib.Core.List.{List, [], ◌++◌, append_assoc, append-nil}
use Prim.Native.Nat.{ℕ, ◌+◌, ◌≤◌}
use native.Mathlib.Omega.{arith}
use lib.ListN.{length, take, drop, length-append, length-take, take-append-drop}
use lib.Seq.{paste, take-paste, drop-paste, length-paste, drop-drop, length-take-le}

-- `at` bytes of `whole` stand at the start of `out`, `rest` is still to come, and past them all is as at entry
pub record Filling (whole rest entry out : List ℕ) (at : ℕ) : Type 0 where
  pub same : length out ≡ length entry
  pub room : at + length rest ≤ length entry
  pub written : whole ≡ take at out ++ rest
  pub kept : drop at out ≡ drop at entry

pub filling_start : (whole entry : List ℕ) → length whole ≤ length entry → Filling whole whole entry entry 0
filling_start whole entry l = record { same = refl; room = omega arith; written = refl; kept = refl }

module _ {whole rest entry out : List ℕ} {at : ℕ} (w : Filling whole rest entry out at) where
  module _ (piece more : List ℕ) (e : rest ≡ piece ++ more) where
    parts : length rest ≡ length piece + length more
    parts = ap length e ∙ length-append piece more

    pub filling_room : at + length piece ≤ length out
    filling_room = omega (arith, parts, w.room, w.same)

    -- the next piece is copied from a source
    pub filling_next : (source : List ℕ) {n : ℕ} → n ≡ length piece → take n source ≡ piece → {next : List ℕ} → next ≡ paste out at source n
        → Filling whole more entry next (at + n)
    filling_next source {n} q t p =
        let fits : at + n ≤ length out = omega (arith, filling_room) in
        let below : at ≤ length out = omega arith in
        let enough : n ≤ length source = omega (arith, length-take n source, ap length t) in
        record {
          same = ap length p ∙ length-paste out at source n fits enough ∙ w.same;
          room = omega (arith, parts, w.room);
          written = w.written ∙ rw (e, p, take-paste out at source n below enough, t, append_assoc);
          kept =
              ap (drop (at + n)) p ∙ drop-paste out at source n below enough ∙ sym (drop-drop n at out) ∙ ap (drop n) w.kept
              ∙ drop-drop n at entry;
        }

  pub filling_end : rest ≡ [] → out ≡ whole ++ drop (length whole) entry
  filling_end e =
      let b : whole ≡ take at out = w.written ∙ rw (e, append-nil) in
      let n : length whole ≡ at = ap length b ∙ length-take-le at out (omega (arith, w.room, w.same)) in
      rw (n, b, ← w.kept) (sym (take-append-drop at out))
