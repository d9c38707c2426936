-- Ten-byte records: stored byte by byte, counted, and read back. Assumes nothing.
use mathlib.Core.Path.{◌≡◌, refl, sym, ◌∙◌, ap}
use mathlib.Core.List.{List, [], ◌∷◌, ◌++◌, append_assoc}
use Prim.Native.Nat.{ℕ, zero, suc, ◌+◌, ◌*◌, ◌<◌, ◌≤◌}
use native.Mathlib.Omega.{arith}
use native.Mathlib.Nat.{add-zero, add_assoc}
use native.Mathlib.Numerals.{add-two, add_six}
use lib.ListN.{length, get_or, set, take, drop, length-append}
use lib.Seq.{sets, sets-eq, set_comm, take-append_seam, drop-append-add}
use Rattle.big_endian.specs.Numbers.{two, four}
use Rattle.automaton.specs.Rule.{Rule}
use Rattle.longest_match.specs.Lexer.{Token, lex, join}
use Rattle.longest_match.proofs.Lexing.{joins}
use Rattle.record.specs.Records.{record_of, records_at, record_count}
use Rattle.record.specs.Tokens.{records_from, records_of, tokens_in, tokens_of}

-- ---- stored

-- runs of stores that lie apart may be made in either order
set_sets : (ys l : List ℕ) (i x j : ℕ) → i < j → sets (set l i x) j ys ≡ set (sets l j ys) i x
set_sets [] l i x j h = refl
set_sets (y ∷ ys) l i x j h =
    ap (λ (m : List ℕ). sets m (suc j) ys) (set_comm l i j x y (λ e. omega arith)) ∙ set_sets ys (set l j y) i x (suc j) (omega arith)

sets_comm : (xs l : List ℕ) (i j : ℕ) (ys : List ℕ) → i + length xs ≤ j → sets (sets l i xs) j ys ≡ sets (sets l j ys) i xs
sets_comm [] l i j ys h = refl
sets_comm (x ∷ xs) l i j ys h =
    sets_comm xs (set l i x) (suc i) j ys (omega arith) ∙ ap (λ (m : List ℕ). sets m (suc i) xs) (set_sets ys l i x j (omega arith))

pub record_stored : (l : List ℕ) (i tag place len : ℕ) → i + 10 ≤ length l
    → sets (sets (sets l (i + 6) (four len)) (i + 2) (four place)) i (two tag) ≡ take i l ++ record_of tag place len ++ drop (i + 10) l
record_stored l i tag place len h =
    sym (sets_comm (two tag) (sets l (i + 6) (four len)) i (i + 2) (four place) (omega arith))
    ∙ ap (λ (m : List ℕ). sets m (i + 2) (four place)) (sym (sets_comm (two tag) l i (i + 6) (four len) (omega arith)))
    ∙ sym (sets_comm (four place) (sets l i (two tag)) (i + 2) (i + 6) (four len) (omega arith))
    ∙ rw (add-two, add_six) (sets-eq (record_of tag place len) l i h)

-- ---- counted

pub length_records : (ts : List Token) (place : ℕ) → length (records_at place ts) ≡ 10 * length ts
unfolding records_at
length_records [] place = refl
length_records (t ∷ ts) place = omega (arith, length_records ts (place + length t.bytes))

count_from : (records pool : List ℕ) (k n : ℕ) → length (tokens_in pool (records_from records k n)) ≡ n
unfolding records_from tokens_in
count_from records pool k zero = refl
count_from records pool k (suc n) = rw (count_from records pool (suc k) n)

-- records say as many tokens as they are
pub length-tokens : (records pool : List ℕ) → length (tokens_of records pool) ≡ record_count records
unfolding records_of
length-tokens records pool = count_from records pool 0 (record_count records)

-- ---- one list behind the other

pub records_append : (place : ℕ) (ts us : List Token)
    → records_at place (ts ++ us) ≡ records_at place ts ++ records_at (place + length (join ts)) us
unfolding records_at
records_append place [] us = rw add-zero
records_append place (t ∷ ts) us =
    rw (records_append (place + length t.bytes) ts us, append_assoc, length-append, add_assoc)

-- ---- read back

-- token number k, and its place among tokens that lie one behind the other
abbrev pub token_at : List Token → ℕ → Token
token_at ts k = get_or ts k (record { tag = 0; bytes = [] })

abbrev pub place_among : List Token → ℕ → ℕ
place_among ts k = length (join (take k ts))

-- record number k is that of token number k
pub records_at_lem : (ts : List Token) (place k : ℕ) → k < length ts
    → take 10 (drop (10 * k) (records_at place ts)) ≡ record_of (token_at ts k).tag (place + place_among ts k) (length (token_at ts k).bytes)
unfolding records_at
records_at_lem [] place k l = absurd (omega arith)
records_at_lem (t ∷ ts) place zero l = rw add-zero
records_at_lem (t ∷ ts) place (suc k) l =
    let q : 10 * suc k ≡ suc (suc (suc (suc (suc (suc (suc (suc (suc (suc (10 * k)))))))))) = omega arith in
    rw (q, records_at_lem ts (place + length t.bytes) k (omega arith), length-append, add_assoc)

-- and the text has the token's bytes there
pub token_laid : (ts : List Token) (rest : List ℕ) (k : ℕ) → k < length ts
    → take (length (token_at ts k).bytes) (drop (place_among ts k) (join ts ++ rest)) ≡ (token_at ts k).bytes
token_laid [] rest k l = absurd (omega arith)
token_laid (t ∷ ts) rest zero l = rw (append_assoc, take-append_seam)
token_laid (t ∷ ts) rest (suc k) l = rw (append_assoc, length-append, drop-append-add) (token_laid ts rest k (omega arith))

pub laid_within : (ts : List Token) (k : ℕ) → k < length ts → place_among ts k + length (token_at ts k).bytes ≤ length (join ts)
laid_within [] k l = absurd (omega arith)
laid_within (t ∷ ts) zero l = omega (arith, length-append t.bytes (join ts))
laid_within (t ∷ ts) (suc k) l =
    omega (arith, laid_within ts k (omega arith), length-append t.bytes (join ts), length-append t.bytes (join (take k ts)))

pub lexed_laid : (rules : List Rule) (text : List ℕ) (k : ℕ) → k < length (lex rules text).tokens
    → take (length (token_at (lex rules text).tokens k).bytes) (drop (place_among (lex rules text).tokens k) text)
    ≡ (token_at (lex rules text).tokens k).bytes
lexed_laid rules text k l =
    ap (λ (x : List ℕ). take (length (token_at (lex rules text).tokens k).bytes) (drop (place_among (lex rules text).tokens k) x))
    (sym (joins rules text))
    ∙ token_laid (lex rules text).tokens (lex rules text).rest k l
