-- What is printed of an accepted cut is a line for each of its tokens, and the rest. Assumes nothing.
use mathlib.Core.Path.{◌≡◌, refl, sym, ◌∙◌, ap}
use mathlib.Core.List.{List, [], ◌∷◌, ◌++◌, append_assoc, append-nil}
use Prim.Native.Nat.{ℕ, zero, suc, ◌+◌, ◌-◌, ◌*◌, ◌<◌, ◌≤◌}
use native.Mathlib.Omega.{arith}
use native.Mathlib.Nat.{add-zero, zero-add}
use lib.ListN.{length, take, drop, length-append}
use lib.Seq.{take-suc, take-length, length-take-le}
use borrow.Author.Tests.{le-ltb}
use Rattle.big_endian.proofs.Numbers.{two_value}
use Rattle.automaton.specs.Rule.{Rule}
use Rattle.automaton.proofs.Tests.{all_map, all_at}
use Rattle.command.specs.Commands.{byte_at}
use Rattle.book.specs.Valid.{ValidRule}
use Rattle.book.specs.Limits.{max_text}
use Rattle.reader.specs.Reading.{accepted, read_book}
use Rattle.reader.proofs.Accepted.{accepted_valid}
use Rattle.longest_match.specs.Lexer.{Token, lex, join}
use Rattle.longest_match.proofs.Lexing.{lex_lengths, lex_tags}
use Rattle.record.specs.Records.{records_at, record_count}
use Rattle.record.proofs.Records.{token_at, place_among, laid_within}
use Rattle.record.specs.Tokens.{record_at}
use Rattle.big_endian.specs.Numbers.{two_at}
use Rattle.lexer.specs.Outcome.{lex_rules, lex_outcome}
use Rattle.listing.specs.Lines.{token_line, token_lines, record_line, rest_line, record_lines, listing}
use Rattle.listing.proofs.Bounds.{byte_at_lem, place_is, length_is}

-- ---- a token more

lines_snoc : (number place : ℕ) (ts : List Token) (t : Token)
    → token_lines number place (ts ++ (t ∷ []))
    ≡ token_lines number place ts ++ token_line (number + length ts) t.tag (place + length (join ts)) (length t.bytes)
unfolding token_lines
lines_snoc number place [] t = rw (append-nil, add-zero number, add-zero place)
lines_snoc number place (u ∷ ts) t =
    let a : number + 1 + length ts ≡ number + suc (length ts) = omega arith in
    let l = length-append u.bytes (join ts) in
    let b : place + length u.bytes + length (join ts) ≡ place + length (u.bytes ++ join ts) = omega arith in
    rw (lines_snoc (number + 1) (place + length u.bytes) ts t, a, b, append_assoc)

-- ---- the records of tokens

module _ (ts : List Token) (more : List ℕ) (small : length (join ts) < 4294967296)
    (tags : (k : ℕ) → k < length ts → (token_at ts k).tag < 65536) where
  abbrev filled : List ℕ
  filled = records_at 0 ts ++ more

  tag_is : (k : ℕ) → k < length ts → two_at filled (10 * k) ≡ (token_at ts k).tag
  tag_is k l =
      rw (rw add-zero at (byte_at_lem ts more k l 0 (omega arith)), byte_at_lem ts more k l 1 (omega arith))
      (two_value (token_at ts k).tag (tags k l))

  line_is : (k : ℕ) → k < length ts
      → record_line filled k ≡ token_line k (token_at ts k).tag (place_among ts k) (length (token_at ts k).bytes)
  unfolding record_line record_at
  line_is k l =
      let w = laid_within ts k l in
      rw (tag_is k l, place_is ts more k l (omega arith), length_is ts more k l (omega arith))

  lines_are : (k : ℕ) → k ≤ length ts → record_lines filled k ≡ token_lines 0 0 (take k ts)
  unfolding record_lines token_lines
  lines_are zero l = refl
  lines_are (suc k) l =
      let n : length (take k ts) ≡ k = length-take-le k ts (omega arith) in
      ap (λ (x : List ℕ). x ++ record_line filled k) (lines_are k (omega arith))
      ∙ ap (λ (x : List ℕ). token_lines 0 0 (take k ts) ++ x) (line_is k (omega arith))
      ∙ sym (rw (
        take-suc ts k (token_at [] 0) (omega arith),
        lines_snoc 0 0 (take k ts) (token_at ts k),
        n,
        zero-add k,
        zero-add (place_among ts k),
      ))

  pub token_lines_lem : record_lines filled (length ts) ≡ token_lines 0 0 ts
  token_lines_lem = lines_are (length ts) (omega arith) ∙ rw take-length

-- ---- the whole

-- For an accepted book, and a text and records within their limits: a line for each token of the cut, and one for the rest.
pub listing_lexed : (book text records : List ℕ) (rules : List Rule) → ((i : ℕ) → byte_at book i < 256) → read_book book ≡ accepted rules
    → length text ≤ max_text → length (lex rules text).tokens ≤ record_count records
    → listing book text records
    ≡ token_lines 0 0 (lex rules text).tokens
    ++ rest_line (length text - length (lex rules text).rest) (length (lex rules text).rest)
unfolding listing lex_outcome lex_rules
listing_lexed book text records rules byte e small few =
    let j = lex_lengths rules text in
    let r : length text - (length text - length (lex rules text).rest) ≡ length (lex rules text).rest = omega arith in
    let valid = (accepted_valid book rules byte e).rules_valid in
    let tags = lex_tags (λ (x : ℕ). x < 65536) rules (all_map ValidRule _ (λ r v. v.tag_below) rules valid.each) text in
    rw (
      e,
      le-ltb _ _ small,
      le-ltb _ _ few,
      r,
      token_lines_lem (lex rules text).tokens (drop (10 * length (lex rules text).tokens) records) (omega arith)
          (all_at (λ (t : Token). t.tag < 65536) (lex rules text).tokens (token_at [] 0) tags),
    )
