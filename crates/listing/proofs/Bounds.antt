-- The lines of an outcome fit the buffer: each has at most 24 bytes. Assumes nothing.
use Rattle.answer.specs.declared.Cut.{Cut}
use Rattle.answer.specs.declared.Refusal.{Refusal}
use Rattle.std.specs.Prelude.{Result}
use Rattle.answer.specs.declared.Reason.TheVariants.{TextTooLong, TooFewRecords}
use mathlib.Core.Path.{◌≡◌, refl, sym, ◌∙◌, ap}
use mathlib.Core.Bool.{Bool, true, false}
use mathlib.Core.List.{List, [], ◌∷◌, ◌++◌}
use Prim.Native.Nat.{ℕ, zero, suc, ◌+◌, ◌-◌, ◌*◌, ◌/◌, ◌%◌, ◌<◌, ◌≤◌}
use native.Mathlib.Omega.{arith}
use native.Mathlib.Nat.{add_assoc, add-zero, zero-add}
use lib.Dec.{ltb}
use lib.ListN.{length, get_or, drop, length-append, get_or-append}
use lib.Seq.{get_or-take, get_or-drop}
use borrow.Author.Tests.{ltb-false}
use Rattle.big_endian.proofs.Numbers.{four_value}
use Rattle.automaton.specs.Choice.{if}
use Rattle.automaton.specs.Rule.{Rule}
use Rattle.book.specs.Limits.{max_text}
use Rattle.reader.specs.Reading.{Reading, accepted, refused, read_book}
use Rattle.longest_match.specs.Lexer.{Token, lex}
use Rattle.longest_match.proofs.Lexing.{lex_lengths}
use Rattle.record.specs.Records.{record_of, records_at, record_count}
use Rattle.record.proofs.Records.{length_records, token_at, place_among, records_at_lem, laid_within}
use Rattle.record.specs.Tokens.{record_at}
use Rattle.big_endian.specs.Numbers.{two_at, four_at}
use Rattle.lexer.specs.Outcome.{LexOutcome, lex_refused, lex_accepted, lex_rules, lex_reading, lex_outcome}
use Rattle.listing.specs.Decimal.{decimal, field, blank, line_end, last_two}
use Rattle.listing.specs.Layers.{Puts, output_bytes, LinesFit}
use Rattle.listing.proofs.Putting.{digits}
use Rattle.listing.specs.Lines.{token_line, record_line, rest_word, rest_line, record_lines, record_bytes, lines_of, listing}

-- ---- lines

short_field : (n after : ℕ) → n < 100000 → length (field n after) ≤ 6
short_field n after l = omega (arith, length-append (decimal n) (after ∷ []), digits 4 n l)

short_two : (a b : ℕ) → a < 100000 → b < 100000 → length (last_two a b) ≤ 12
unfolding last_two
short_two a b l m = omega (arith, length-append (field a blank) (field b line_end), short_field a blank l, short_field b line_end m)

short_token : (number tag place len : ℕ) → number < 100000 → tag < 100000 → place < 100000 → len < 100000
    → length (token_line number tag place len) ≤ 24
unfolding token_line
short_token number tag place len l m n o =
    omega (
      arith,
      length-append (field number blank ++ field tag blank) (last_two place len),
      length-append (field number blank) (field tag blank),
      short_field number blank l,
      short_field tag blank m,
      short_two place len n o,
    )

short_rest : (place len : ℕ) → place < 100000 → len < 100000 → length (rest_line place len) ≤ 24
unfolding rest_line
short_rest place len l m = omega (arith, length-append rest_word (last_two place len), short_two place len l m)

short_lines : (records : List ℕ) (n : ℕ) → ((k : ℕ) → k < n → length (record_line records k) ≤ 24) → length (record_lines records n) ≤ 24 * n
unfolding record_lines
short_lines records zero h = omega arith
short_lines records (suc n) h =
    let l = length-append (record_lines records n) (record_line records n) in
    omega (arith, short_lines records n (λ k m. h k (omega arith)), h n (omega arith))

-- ---- the records of a cut

-- the number of four bytes from the bytes
four_is : (bytes : List ℕ) (i n : ℕ) → n < 4294967296 → get_or bytes i 0 ≡ n / 16777216 % 256 → get_or bytes (i + 1) 0 ≡ n / 65536 % 256
    → get_or bytes (i + 2) 0 ≡ n / 256 % 256 → get_or bytes (i + 3) 0 ≡ n % 256 → four_at bytes i ≡ n
four_is bytes i n l a b c d =
    rw (a, b, c, d) (four_value n l)

module _ (ts : List Token) (more : List ℕ) (k : ℕ) (l : k < length ts) where
  -- byte number j of record number k
  pub byte_at_lem : (j : ℕ) → j < 10
      → get_or (records_at 0 ts ++ more) (10 * k + j) 0
      ≡ get_or (record_of (token_at ts k).tag (place_among ts k) (length (token_at ts k).bytes)) j 0
  byte_at_lem j m =
      get_or-append (records_at 0 ts) more 0 (10 * k + j) (omega (arith, length_records ts 0))
      ∙ sym (get_or-drop (10 * k) (records_at 0 ts) j 0)
      ∙ sym (get_or-take 10 (drop (10 * k) (records_at 0 ts)) j 0 m)
      ∙ ap (λ (x : List ℕ). get_or x j 0) (rw zero-add at (records_at_lem ts 0 k l))

  tag_below : two_at (records_at 0 ts ++ more) (10 * k) < 65536
  tag_below = let z = rw add-zero at (byte_at_lem 0 (omega arith)) in omega (arith, byte_at_lem 1 (omega arith))

  pub place_is : place_among ts k < 4294967296 → four_at (records_at 0 ts ++ more) (10 * k + 2) ≡ place_among ts k
  place_is m =
      four_is (records_at 0 ts ++ more) (10 * k + 2) (place_among ts k) m (byte_at_lem 2 (omega arith))
      (rw add_assoc (byte_at_lem 3 (omega arith))) (rw add_assoc (byte_at_lem 4 (omega arith))) (rw add_assoc (byte_at_lem 5 (omega arith)))

  pub length_is : length (token_at ts k).bytes < 4294967296
      → four_at (records_at 0 ts ++ more) (10 * k + 6) ≡ length (token_at ts k).bytes
  length_is m =
      four_is (records_at 0 ts ++ more) (10 * k + 6) (length (token_at ts k).bytes) m (byte_at_lem 6 (omega arith))
      (rw add_assoc (byte_at_lem 7 (omega arith))) (rw add_assoc (byte_at_lem 8 (omega arith))) (rw add_assoc (byte_at_lem 9 (omega arith)))

-- ---- an outcome

abbrev OutcomeFits : LexOutcome → List ℕ → List ℕ → Type 0
OutcomeFits o text out = LinesFit o.answer o.records (length text) out

module _ (rules : List Rule) (text records : List ℕ) (small : length text ≤ max_text) where
  abbrev tokens : List Token
  tokens = (lex rules text).tokens

  abbrev filled : List ℕ
  filled = records_at 0 tokens ++ drop (10 * length tokens) records

  short_record : (k : ℕ) → k < length tokens → length tokens ≤ max_text → length (record_line filled k) ≤ 24
  unfolding record_line record_at
  short_record k l few =
      let w = laid_within tokens k l in
      let j = lex_lengths rules text in
      let p = place_is tokens (drop (10 * length tokens) records) k l (omega arith) in
      let q = length_is tokens (drop (10 * length tokens) records) k l (omega arith) in
      let t = tag_below tokens (drop (10 * length tokens) records) k l in
      short_token k (two_at filled (10 * k)) (four_at filled (10 * k + 2)) (four_at filled (10 * k + 6))
      (omega arith) (omega arith) (omega arith) (omega arith)

  fit_accepted : (out : List ℕ) → length records ≡ record_bytes → output_bytes ≤ length out → length tokens ≤ record_count records
      → OutcomeFits (lex_accepted (lex rules text) text records) text out
  fit_accepted out size room few =
      let j = lex_lengths rules text in
      let place : ℕ = length text - length (lex rules text).rest in (
        omega (arith, length-append (records_at 0 tokens) (drop (10 * length tokens) records), length_records tokens 0),
        omega arith,
        record {
          room = omega (
            arith,
            length-append (record_lines filled (length tokens)) (rest_line place (length text - place)),
            short_lines filled (length tokens) (λ k l. short_record k l (omega arith)),
            short_rest place (length text - place) (omega arith) (omega arith),
          );
        },
      )

module _ (text records out : List ℕ) (size : length records ≡ record_bytes) (room : output_bytes ≤ length out) where
  fit_rules : (rules : List Rule) → OutcomeFits (lex_rules rules text records) text out
  unfolding lex_rules
  fit_rules rules = go (ltb max_text (length text)) refl (ltb (record_count records) count) refl
    where
      count : ℕ
      count = length (lex rules text).tokens

      cut : LexOutcome
      cut = lex_accepted (lex rules text) text records

      go : (t : Bool) → ltb max_text (length text) ≡ t → (u : Bool) → ltb (record_count records) count ≡ u
          → OutcomeFits (if t (lex_refused TextTooLong 0 records) (if u (lex_refused TooFewRecords count records) cut)) text out
      go true e u f = omega arith
      go false e true f = omega arith
      go false e false f = fit_accepted rules text records (ltb-false _ _ e) out size room (ltb-false _ _ f)

  fit_reading : (o : Reading) → OutcomeFits (lex_reading o text records) text out
  fit_reading (accepted rules) = fit_rules rules
  fit_reading (refused _ _) = omega arith

  -- the lines of every outcome fit
  fit_outcome : (book : List ℕ) → OutcomeFits (lex_outcome book text records) text out
  unfolding lex_outcome
  fit_outcome book = fit_reading (read_book book)

-- ---- the whole listing, of an answer and records that are those of the outcome

module _ (book text records : List ℕ) {exit : List ℕ} {r : Result Cut Refusal}
    (a : r ≡ (lex_outcome book text records).answer) (b : exit ≡ (lex_outcome book text records).records) where
  pub fit_answer : (out : List ℕ) → length records ≡ record_bytes → length out ≡ output_bytes → LinesFit r exit (length text) out
  fit_answer out size room = rw (a, b) (fit_outcome text records out size (omega arith) book)

  pub listed : {out after : List ℕ} {end : ℕ} → Puts out 0 (lines_of r exit (length text)) end after
      → (end ≡ length (listing book text records)) × (after ≡ listing book text records ++ drop end out)
  unfolding listing
  listed {out} {after} {end} p =
      let q : Puts out 0 (listing book text records) end after = rw (a, b) at p in
      let e : end ≡ length (listing book text records) = q.behind ∙ zero-add _ in
      (e, q.written ∙ ap (λ (n : ℕ). listing book text records ++ drop n out) (sym q.behind))
