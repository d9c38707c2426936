-- What the loops and stores of writing leave. Assumes nothing.
use Rattle.std.specs.Prelude.{Ok}
use mathlib.Core.Path.{◌≡◌, refl, ap, ◌∙◌}
use mathlib.Core.Bool.{true, false}
use mathlib.Core.List.{List, [], ◌∷◌, ◌++◌, append-nil, flatten}
use Prim.Native.Nat.{ℕ, suc, ◌+◌, ◌*◌, ◌<◌, ◌≤◌}
use native.Mathlib.Nat.{zero-add}
use native.Mathlib.Numerals.{add-one}
use native.Mathlib.Omega.{arith}
use lib.ListN.{length, get_or, take, drop, length-append, drop_of_length-le}
use lib.Seq.{paste-zero, drop-cons, take-length, length-take-le}
use Rattle.automaton.specs.Rule.{Transition}
use Rattle.command.proofs.Commands.{if-le}
use Rattle.output.specs.Outcome.{written}
use Rattle.output.specs.Layers.{PrintAnswered}
use Rattle.output.proofs.Filling.{Filling, filling_start, filling_room, filling_next, filling_end}
use Rattle.output.proofs.Written.{written-whole}
use Rattle.rule_commands.specs.Spans.{row_spans, spans_of}
use Rattle.rule_commands.specs.Bytes.{final_bytes, head_bytes, rule_bytes, table_bytes}
use Rattle.rule_commands.specs.Layers.{row_at, rows_of, apart_at, closes_at, ended_at, next_low, bytes_of, Put}
use Rattle.rule_commands.proofs.Read.{finals_bytes, rule-length}
use Rattle.rule_commands.proofs.Measuring.{rows_left, spans_in, spans_start, spans_end, spans_next, spans_rows, spans_rows_end}

-- ---- bytes from a place on

module _ (bytes entry : List ℕ) (to : ℕ) (room : to + length bytes ≤ length entry) where
  pub put-start : Filling (take to entry ++ bytes) bytes entry entry to
  put-start = record { same = refl; room = room; written = refl; kept = refl }

  pub put-end : {rest out : List ℕ} {at : ℕ} → Filling (take to entry ++ bytes) rest entry out at → rest ≡ [] → Put bytes to entry at out
  put-end {rest} {out} {at} f e =
      let len : length (take to entry ++ bytes) ≡ to + length bytes =
      length-append (take to entry) bytes ∙ rw (length-take-le to entry (omega arith)) in
      let same : take to entry ++ bytes ≡ take at out = f.written ∙ rw (e, append-nil) in
      let whole = ap length same ∙ length-take-le at out (omega (arith, f.room, f.same)) in
      record { past = omega arith; laid = filling_end f e ∙ rw (len, take-length) }

pub put_next : {whole rest entry out : List ℕ} {at : ℕ} → Filling whole rest entry out at → (piece more : List ℕ) → rest ≡ piece ++ more
    → {next : ℕ} {exit : List ℕ} → Put piece at out next exit → Filling whole more entry exit next
put_next f piece more e p = rw p.past (filling_next f piece more e piece refl (take-length piece) p.laid)

pub put_none : (out : List ℕ) (to : ℕ) → Put [] to out to out
put_none out to = record { past = omega arith; laid = paste-zero out to [] }

-- all of what is to be written
pub put_written : (bytes out : List ℕ) → length bytes ≤ length out → {next : ℕ} {exit : List ℕ} → Put bytes 0 out next exit
    → PrintAnswered (written bytes out) (Ok next) exit
put_written bytes out l {next} p =
    let e : next ≡ length bytes = omega (arith, p.past) in
    written-whole bytes out e (omega arith) (p.laid ∙ rw (e, take-length, zero-add))

-- ---- FINALs

-- the first i are written
pub record WritingFinals (states entry out : List ℕ) (to at i : ℕ) : Type 0 where
  pub filling : Filling (take to entry ++ finals_bytes states) (finals_bytes (drop i states)) entry out at

pub writing_finals_start : (states entry : List ℕ) (to : ℕ) → to + length (finals_bytes states) ≤ length entry
    → WritingFinals states entry entry to to 0
writing_finals_start states entry to l = record { filling = put-start (finals_bytes states) entry to l }

module _ {states entry out : List ℕ} {to at i : ℕ} (w : WritingFinals states entry out to at i) where
  module _ (l : i < length states) where
    finals_parts : finals_bytes (drop i states) ≡ final_bytes (get_or states i 0) ++ finals_bytes (drop (i + 1) states)
    unfolding flatten
    finals_parts = rw (drop-cons states i 0 l, add-one)

    pub writing_finals_room : at + 2 ≤ length out
    writing_finals_room =
        filling_room w.filling (final_bytes (get_or states i 0)) (finals_bytes (drop (i + 1) states)) finals_parts

    pub writing_finals_next : {next : ℕ} {exit : List ℕ} → Put (final_bytes (get_or states i 0)) at out next exit
        → WritingFinals states entry exit to next (i + 1)
    writing_finals_next p =
        record { filling = put_next w.filling (final_bytes (get_or states i 0)) (finals_bytes (drop (i + 1) states)) finals_parts p }

  pub writing_finals_end : to + length (finals_bytes states) ≤ length entry → length states ≤ i → Put (finals_bytes states) to entry at out
  unfolding flatten
  writing_finals_end l m = put-end (finals_bytes states) entry to l w.filling (rw (drop_of_length-le states m))

-- ---- the SPANs of a row

pub bytes_append : (xs ys : List Transition) → bytes_of (xs ++ ys) ≡ bytes_of xs ++ bytes_of ys
unfolding flatten
bytes_append [] ys = refl
bytes_append (x ∷ xs) ys = rw (bytes_append xs ys)

-- the bytes of the SPAN that ends at a byte, if one does
module _ (from low b : ℕ) (row : List ℕ) where
  pub ended_none : closes_at row b ≡ false → bytes_of (ended_at from low b row) ≡ []
  unfolding ended_at flatten
  ended_none e = rw e

  pub ended_one : closes_at row b ≡ true → bytes_of (ended_at from low b row) ≡ 6 ∷ from ∷ low ∷ b ∷ get_or row b 0 ∷ []
  unfolding ended_at flatten
  ended_one e = rw e

pub record WritingRow (from : ℕ) (row entry out : List ℕ) (to at low b : ℕ) : Type 0 where
  pub within : b ≤ 256
  pub begun : low ≤ b
  pub filling : Filling (take to entry ++ bytes_of (row_spans from row)) (bytes_of (spans_in from low b (drop b row))) entry out at

pub writing-row-start : (from : ℕ) (row entry : List ℕ) (to : ℕ) → to + length (bytes_of (row_spans from row)) ≤ length entry
    → WritingRow from row entry entry to to 0 0
writing-row-start from row entry to l =
    record {
      within = omega arith;
      begun = omega arith;
      filling = rw (← (spans_start from row)) (put-start (bytes_of (row_spans from row)) entry to l);
    }

module _ {from : ℕ} {row entry out : List ℕ} {to at low b : ℕ} (w : WritingRow from row entry out to at low b) (e : length row ≡ 256) where
  module _ (l : b < 256) where
    abbrev behind : List Transition
    behind = spans_in from (next_low row low b) (suc b) (drop (suc b) row)

    row_parts : bytes_of (spans_in from low b (drop b row)) ≡ bytes_of (ended_at from low b row) ++ bytes_of behind
    row_parts = ap bytes_of (spans_next from low b row (omega arith)) ∙ bytes_append (ended_at from low b row) behind

    pub writing-row-room : at + length (bytes_of (ended_at from low b row)) ≤ length out
    writing-row-room = filling_room w.filling (bytes_of (ended_at from low b row)) (bytes_of behind) row_parts

    pub writing-row_next : {next : ℕ} {exit : List ℕ} → Put (bytes_of (ended_at from low b row)) at out next exit
        → {began : ℕ} → began ≡ next_low row low b → WritingRow from row entry exit to next began (b + 1)
    writing-row_next p q =
        record {
          within = omega arith;
          begun = rw q (omega (arith, if-le (apart_at row b) {a = suc b} {b = low} {m = suc b} (omega arith) (omega (arith, w.begun))));
          filling = rw (q, add-one) (put_next w.filling (bytes_of (ended_at from low b row)) (bytes_of behind) row_parts p);
        }

  pub writing-row-end : to + length (bytes_of (row_spans from row)) ≤ length entry → 256 ≤ b
      → Put (bytes_of (row_spans from row)) to entry at out
  unfolding flatten
  writing-row-end l m =
      put-end (bytes_of (row_spans from row)) entry to l w.filling (rw (spans_end from low b row (omega arith)))

-- ---- the SPANs of all rows

pub record WritingRows (targets : List ℕ) (n : ℕ) (entry out : List ℕ) (to at k : ℕ) : Type 0 where
  pub filling : Filling (take to entry ++ bytes_of (spans_of 0 (rows_of targets n))) (bytes_of (spans_of k (rows_left targets n k))) entry out at

module _ {targets : List ℕ} {n : ℕ} {entry out : List ℕ} {to at k : ℕ} (w : WritingRows targets n entry out to at k) where
  module _ (l : k < n) where
    abbrev first : List Transition
    first = row_spans k (row_at targets k)

    abbrev others : List Transition
    others = spans_of (k + 1) (rows_left targets n (k + 1))

    rows_parts : bytes_of (spans_of k (rows_left targets n k)) ≡ bytes_of first ++ bytes_of others
    rows_parts = ap bytes_of (spans_rows targets n k l) ∙ bytes_append first others

    pub writing_rows_room : at + length (bytes_of first) ≤ length out
    writing_rows_room = filling_room w.filling (bytes_of first) (bytes_of others) rows_parts

    pub writing_rows_next : {next : ℕ} {exit : List ℕ} → Put (bytes_of first) at out next exit
        → WritingRows targets n entry exit to next (k + 1)
    writing_rows_next p = record { filling = put_next w.filling (bytes_of first) (bytes_of others) rows_parts p }

  pub writing_rows_end : to + length (bytes_of (spans_of 0 (rows_of targets n))) ≤ length entry → n ≤ k
      → Put (bytes_of (spans_of 0 (rows_of targets n))) to entry at out
  unfolding flatten
  writing_rows_end l m =
      put-end (bytes_of (spans_of 0 (rows_of targets n))) entry to l w.filling (rw (spans_rows_end targets n k m))

-- ---- the whole rule

module _ (tag kind : ℕ) (finals : List ℕ) (rows : List (List ℕ)) where
  abbrev pub table : List ℕ
  table = table_bytes tag kind finals rows

  abbrev pub spans_and_close : List ℕ
  spans_and_close = bytes_of (spans_of 0 rows) ++ (7 ∷ [])

  pub table-length : length table ≡ 9 + 2 * length finals + 5 * length (spans_of 0 rows)
  table-length = rule-length tag kind finals (spans_of 0 rows)

  module _ {entry : List ℕ} (room : length table ≤ length entry) {out₁ : List ℕ} {at₁ : ℕ} (p₁ : Put (head_bytes tag kind) 0 entry at₁ out₁)
    where
      head_written : Filling table (finals_bytes finals ++ spans_and_close) entry out₁ at₁
      unfolding rule_bytes
      head_written = put_next (filling_start table entry room) (head_bytes tag kind) (finals_bytes finals ++ spans_and_close) refl p₁

      pub finals_room : at₁ + length (finals_bytes finals) ≤ length out₁
      finals_room = filling_room head_written (finals_bytes finals) spans_and_close refl

      module _ {out₂ : List ℕ} {at₂ : ℕ} (p₂ : Put (finals_bytes finals) at₁ out₁ at₂ out₂) where
        finals_written : Filling table spans_and_close entry out₂ at₂
        finals_written = put_next head_written (finals_bytes finals) spans_and_close refl p₂

        pub spans_room : at₂ + length (bytes_of (spans_of 0 rows)) ≤ length out₂
        spans_room = filling_room finals_written (bytes_of (spans_of 0 rows)) (7 ∷ []) refl

        module _ {out₃ : List ℕ} {at₃ : ℕ} (p₃ : Put (bytes_of (spans_of 0 rows)) at₂ out₂ at₃ out₃) where
          spans_written : Filling table (7 ∷ []) entry out₃ at₃
          spans_written = put_next finals_written (bytes_of (spans_of 0 rows)) (7 ∷ []) refl p₃

          pub close_room : at₃ + 1 ≤ length out₃
          close_room = filling_room spans_written (7 ∷ []) [] refl

          pub table-written : {out₄ : List ℕ} {at₄ : ℕ} → Put (7 ∷ []) at₃ out₃ at₄ out₄ → Put table 0 entry at₄ out₄
          table-written p₄ = put-end table entry 0 (omega arith) (put_next spans_written (7 ∷ []) [] refl p₄) refl
