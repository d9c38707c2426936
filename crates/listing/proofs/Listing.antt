-- The lines of records, one behind the other. Assumes nothing.
use Rattle.answer.specs.Refusals.{number_of}
use Rattle.answer.specs.declared.Cut.{Cut}
use Rattle.std.specs.Prelude.{Result, Err}
use Rattle.answer.specs.Answers.{lexed}
use mathlib.Core.Path.{◌≡◌, refl, sym, ◌∙◌, subst}
use mathlib.Core.List.{List, [], ◌∷◌, ◌++◌}
use mathlib.Core.Bool.{Bool, true, false}
use Prim.Native.Nat.{ℕ, zero, suc, ◌+◌, ◌-◌, ◌*◌, ◌<◌, ◌≤◌}
use native.Mathlib.Omega.{arith}
use native.Mathlib.Numerals.{add-one}
use lib.Dec.{ltb}
use lib.ListN.{length, length-append}
use borrow.Author.Tests.{ltb-true, ltb-false}
use Rattle.answer.specs.declared.Refusal.{Refusal}
use Rattle.listing.specs.Decimal.{decimal, field, blank, line_end, last_two}
use Rattle.listing.specs.Layers.{Room, Puts, refused_bytes, LinesFit}
use Rattle.listing.proofs.Putting.{puts_nothing, puts_then, room_second, digits}
use Rattle.listing.specs.Lines.{record_line, rest_line, refused_word, refused_line, record_lines, lines_of}

lines_more : (records : List ℕ) (k : ℕ) → record_lines records (k + 1) ≡ record_lines records k ++ record_line records k
unfolding record_lines
lines_more records k = rw add-one

pub lines_within : (records : List ℕ) (k n : ℕ) → k < n
    → length (record_lines records k) + length (record_line records k) ≤ length (record_lines records n)
unfolding record_lines
lines_within records k zero l = absurd (omega arith)
lines_within records k (suc n) l = go (ltb k n) refl (lines_within records k n)
  where
    both : length (record_lines records n ++ record_line records n) ≡ length (record_lines records n) + length (record_line records n)
    both = length-append (record_lines records n) (record_line records n)

    go : (t : Bool) → ltb k n ≡ t
        → (k < n → length (record_lines records k) + length (record_line records k) ≤ length (record_lines records n))
        → length (record_lines records k) + length (record_line records k) ≤ length (record_lines records n ++ record_line records n)
    go true e h = omega (arith, h (ltb-true k n e), both)
    go false e h =
        let f : n ≤ k = ltb-false k n e in
        let q : k ≡ n = omega arith in
        rw q (omega (arith, both))

-- the lines of the first k records are written
pub record Going (entry records : List ℕ) (n : ℕ) (out : List ℕ) (at k : ℕ) : Type 0 where
  pub within : k ≤ n
  pub same : length out ≡ length entry
  pub put : Puts entry 0 (record_lines records k) at out

pub going_start : (entry records : List ℕ) (n : ℕ) → Going entry records n entry 0 0
unfolding record_lines
going_start entry records n = record { within = omega arith; same = refl; put = puts_nothing entry 0 }

module _ {entry records out : List ℕ} {n at k : ℕ} (g : Going entry records n out at k) (r : Room 0 (record_lines records n) entry) where
  more : k < n → Room 0 (record_lines records k ++ record_line records k) entry
  more l = record {
    room = omega (arith, lines_within records k n l, length-append (record_lines records k) (record_line records k), r.room);
  }

  pub going-room : k < n → Room at (record_line records k) out
  going-room l = room_second g.put g.same (more l)

  pub going_next : {after : List ℕ} {next : ℕ} → k < n → length after ≡ length out → Puts out at (record_line records k) next after
      → Going entry records n after next (k + 1)
  going_next {after} {next} l e p = record {
    within = omega arith;
    same = e ∙ g.same;
    put = rw (lines_more records k) (puts_then g.put p (record { room = omega (arith, lines_within records k n l, r.room) }));
  }

  pub going_end : n ≤ k → Puts entry 0 (record_lines records n) at out
  going_end l = let q : k ≡ n = omega (arith, g.within) in subst (λ (m : ℕ). Puts entry 0 (record_lines records m) at out) q g.put

-- ---- by the answer

module _ {a : Result Cut Refusal} {tokens rest : ℕ} (e : a ≡ lexed tokens rest) (records : List ℕ) (len : ℕ) where
  pub fit_lexed : {out : List ℕ} → LinesFit a records len out
      → (10 * tokens ≤ length records) × (rest ≤ len) × Room 0 (record_lines records tokens ++ rest_line rest (len - rest)) out
  fit_lexed {out} f = subst (λ (x : Result Cut Refusal). LinesFit x records len out) e f

  pub puts_lexed : {out after : List ℕ} {end : ℕ} → Puts out 0 (record_lines records tokens ++ rest_line rest (len - rest)) end after
      → Puts out 0 (lines_of a records len) end after
  puts_lexed {out} {after} {end} p = subst (λ (x : Result Cut Refusal). Puts out 0 (lines_of x records len) end after) (sym e) p

module _ {a : Result Cut Refusal} {f : Refusal} (e : a ≡ Err f) (records : List ℕ) (len : ℕ) where
  pub room_refused : {out : List ℕ} → LinesFit a records len out → (number_of f.reason) < 256 → f.place < 18446744073709551616
      → Room 0 (refused_line (number_of f.reason) f.place) out
  unfolding refused_line last_two
  room_refused {out} t l m =
      let room : refused_bytes ≤ length out = subst (λ (x : Result Cut Refusal). LinesFit x records len out) e t in
      record {
        room = omega (
          arith,
          room,
          digits 2 (number_of f.reason) (omega arith),
          digits 19 f.place (omega arith),
          length-append refused_word (field (number_of f.reason) blank ++ field f.place line_end),
          length-append (field (number_of f.reason) blank) (field f.place line_end),
          length-append (decimal (number_of f.reason)) (blank ∷ []),
          length-append (decimal f.place) (line_end ∷ []),
        );
      }

  pub puts_refused : {out after : List ℕ} {end : ℕ} → Puts out 0 (refused_line (number_of f.reason) f.place) end after
      → Puts out 0 (lines_of a records len) end after
  puts_refused {out} {after} {end} p = subst (λ (x : Result Cut Refusal). Puts out 0 (lines_of x records len) end after) (sym e) p
