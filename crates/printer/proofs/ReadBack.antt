-- The records of a list, read back from their bytes. Assumes nothing.
use mathlib.Core.Path.{◌≡◌, refl, sym, ap, ◌∙◌}
use mathlib.Core.List.{List, [], ◌∷◌, ◌++◌}
use Prim.Native.Nat.{ℕ, zero, suc, ◌+◌, ◌*◌, ◌/◌, ◌%◌, ◌<◌, ◌≤◌}
use native.Mathlib.Omega.{arith}
use native.Mathlib.Nat.{add-zero, zero-add}
use lib.ListN.{length, get_or, take, drop, length-append, length-drop}
use lib.Seq.{get_or-take, get_or-drop, drop-drop}
use Rattle.big_endian.specs.Numbers.{two_at, four_at}
use Rattle.big_endian.proofs.Numbers.{two_value, four_value}
use Rattle.automaton.specs.Choice.{All}
use Rattle.book.specs.Limits.{max_text}
use Rattle.longest_match.specs.Lexer.{Token, join}
use Rattle.record.specs.Records.{record_count, record_of, records_at}
use Rattle.record.proofs.Records.{length_records, token_at, place_among, records_at_lem, token_laid, laid_within}
use Rattle.record.specs.Tokens.{record_at, records_from, records_of, token_in, tokens_in, tokens_of, InPool}

-- ---- the tokens by their numbers

tokens_ext : (records pool : List ℕ) (ts : List Token) (k : ℕ)
    → ((j : ℕ) → j < length ts → token_in pool (record_at records (k + j)) ≡ token_at ts j)
    → tokens_in pool (records_from records k (length ts)) ≡ ts
unfolding records_from tokens_in
tokens_ext records pool [] k h = refl
tokens_ext records pool (t ∷ ts) k h =
    let q : token_in pool (record_at records k) ≡ t = rw add-zero at (h 0 (omega arith)) in
    rw (q, tokens_ext records pool ts (suc k) (λ j l. let z : suc k + j ≡ k + suc j = omega arith in rw z (h (suc j) (omega arith))))

inside_ext : (records pool : List ℕ) (k n : ℕ) → ((j : ℕ) → j < n → InPool pool (record_at records (k + j)))
    → All (InPool pool) (records_from records k n)
unfolding records_from
inside_ext records pool k zero h = tt
inside_ext records pool k (suc n) h = (
  rw add-zero at (h 0 (omega arith)),
  inside_ext records pool (suc k) n
      (λ j l. let z : suc k + j ≡ k + suc j = omega arith in rw z (h (suc j) (omega arith))),
)

-- ---- tokens that lie one behind the other in a text

-- tokens that lie in a text from a place on; their tags and the text's length can be stored
pub record Storable (ts : List Token) (from : ℕ) (rest text : List ℕ) : Type 0 where
  pub tags : All (λ (t : Token). t.tag < 65536) ts
  pub short : length text ≤ max_text
  pub inside : from ≤ length text
  pub joins : join ts ++ rest ≡ drop from text

tag_at : (ts : List Token) (k : ℕ) → All (λ (t : Token). t.tag < 65536) ts → k < length ts → (token_at ts k).tag < 65536
tag_at [] k h l = absurd (omega arith)
tag_at (t ∷ ts) zero (p, h) l = p
tag_at (t ∷ ts) (suc k) (p, h) l = tag_at ts k h (omega arith)

module _ (ts : List Token) (from : ℕ) (rest text : List ℕ) (s : Storable ts from rest text) where
  count_is : record_count (records_at from ts) ≡ length ts
  count_is = let l = length_records ts from in omega arith

  module _ (k : ℕ) (l : k < length ts) where
    byte_at_lem : (j : ℕ) → j < 10 → get_or (records_at from ts) (10 * k + j) 0
        ≡ get_or (record_of (token_at ts k).tag (from + place_among ts k) (length (token_at ts k).bytes)) j 0
    byte_at_lem j p =
        sym (get_or-drop (10 * k) (records_at from ts) j 0) ∙ sym (get_or-take 10 (drop (10 * k) (records_at from ts)) j 0 p)
        ∙ ap (λ (x : List ℕ). get_or x j 0) (records_at_lem ts from k l)

    within : from + place_among ts k + length (token_at ts k).bytes ≤ length text
    within =
        omega (arith, laid_within ts k l, s.inside, ap length s.joins, length-append (join ts) rest, length-drop from text)

    shifted : (a b j : ℕ) → a + b ≡ j → j < 10
        → get_or (records_at from ts) (10 * k + a + b) 0 ≡ get_or
        (record_of (token_at ts k).tag (from + place_among ts k) (length (token_at ts k).bytes)) j 0
    shifted a b j e p = let q : 10 * k + a + b ≡ 10 * k + j = omega arith in ap (λ (i : ℕ). get_or (records_at from ts) i 0) q ∙ byte_at_lem j p

    tag_is : two_at (records_at from ts) (10 * k) ≡ (token_at ts k).tag
    tag_is =
        let a : get_or (records_at from ts) (10 * k) 0 ≡ (token_at ts k).tag / 256 % 256 = rw add-zero at (byte_at_lem 0 (omega arith)) in
        let b : get_or (records_at from ts) (10 * k + 1) 0 ≡ (token_at ts k).tag % 256 = byte_at_lem 1 (omega arith) in
        rw (a, b) (two_value (token_at ts k).tag (tag_at ts k s.tags l))

    place_is : four_at (records_at from ts) (10 * k + 2) ≡ from + place_among ts k
    place_is =
        let b : from + place_among ts k < 4294967296 = omega (arith, within, s.short) in
        rw (byte_at_lem 2 (omega arith), shifted 2 1 3 refl (omega arith), shifted 2 2 4 refl (omega arith), shifted 2 3 5 refl (omega arith))
        (four_value (from + place_among ts k) b)

    len_is : four_at (records_at from ts) (10 * k + 6) ≡ length (token_at ts k).bytes
    len_is =
        rw (byte_at_lem 6 (omega arith), shifted 6 1 7 refl (omega arith), shifted 6 2 8 refl (omega arith), shifted 6 3 9 refl (omega arith))
        (four_value (length (token_at ts k).bytes) (omega (arith, within, s.short)))

    pub record_is : record_at (records_at from ts) k ≡ record
        { tag = (token_at ts k).tag; place = from + place_among ts k; len = length (token_at ts k).bytes }
    unfolding record_at
    record_is = rw (tag_is, place_is, len_is)

    laid_here : take (length (token_at ts k).bytes) (drop (from + place_among ts k) text) ≡ (token_at ts k).bytes
    laid_here = rw (← (drop-drop (place_among ts k) from text), ← s.joins) (token_laid ts rest k l)

    token_is : token_in text (record_at (records_at from ts) k) ≡ token_at ts k
    token_is = rw (record_is, laid_here)

    inside_is : InPool text (record_at (records_at from ts) k)
    inside_is = rw record_is (record { in_pool = within })

  -- the records say the tokens, and each lies in the text
  pub records_say : tokens_of (records_at from ts) text ≡ ts
  unfolding records_of
  records_say = rw count_is (tokens_ext (records_at from ts) text ts 0 (λ j l. rw zero-add (token_is j l)))

  pub records_inside : All (InPool text) (records_of (records_at from ts))
  unfolding records_of
  records_inside = rw count_is (inside_ext (records_at from ts) text 0 (length ts) (λ j l. rw zero-add (inside_is j l)))

  pub records_count : record_count (records_at from ts) ≡ length ts
  records_count = count_is
