-- The loop of `fill`: what holds at its head, and how a turn keeps it. Assumes nothing.
use mathlib.Core.Path.{◌≡◌, refl, ◌∙◌, ap, subst}
use mathlib.Core.List.{List, [], ◌++◌}
use Prim.Native.Nat.{ℕ, ◌+◌, ◌*◌, ◌<◌, ◌≤◌}
use native.Mathlib.Omega.{arith}
use lib.ListN.{length, take, drop, length-map}
use lib.Seq.{length-take-le}
use Rattle.big_endian.specs.Numbers.{four}
use Rattle.automaton.specs.Rule.{Rule}
use Rattle.automaton.specs.Layers.{rule_at}
use Rattle.longest_match.specs.Lexer.{lex}
use Rattle.longest_match.specs.Masks.{masks_of}
use Rattle.longest_match.specs.Layers.{Chooses, Agrees}
use Rattle.longest_match.proofs.Cutting.{Cutting, cutting_start, cutting_next, lex_more}
use Rattle.record.specs.Records.{record_of, records_at}
use Rattle.record.specs.Masks.{mask_bytes}
use Rattle.record.proofs.Records.{length_records}
use Rattle.record.proofs.Masks.{length_mask_bytes}
use Rattle.lexer.specs.Layers.{Room, Fills}
use Rattle.output.proofs.Filling as output

-- the bytes of the records, and of the masks, of the tokens from a place on
abbrev records_from : List Rule → List ℕ → ℕ → List ℕ
records_from rules text at = records_at at (lex rules (drop at text)).tokens

abbrev masks_from : List Rule → List ℕ → ℕ → List ℕ
masks_from rules text at = mask_bytes (masks_of rules (lex rules (drop at text)).tokens)

-- n tokens are cut, and their records and masks stand at the fronts
pub record Filling (rules : List Rule) (text entry records masks-entry masks : List ℕ) (at n : ℕ) : Type 0 where
  pub cut : Cutting rules text at n
  pub stored : output.Filling (records_from rules text 0) (records_from rules text at) entry records (10 * n)
  pub masked : output.Filling (masks_from rules text 0) (masks_from rules text at) masks-entry masks (4 * n)

module _ (rules : List Rule) (text : List ℕ) where
  records_length : length (records_from rules text 0) ≡ 10 * length (lex rules text).tokens
  records_length = length_records (lex rules text).tokens 0

  masks_length : length (masks_from rules text 0) ≡ 4 * length (lex rules text).tokens
  masks_length =
      length_mask_bytes (masks_of rules (lex rules text).tokens) ∙ ap (λ (n : ℕ). 4 * n) (length-map (lex rules text).tokens _)

  pub filling_start : (entry masks-entry : List ℕ) → Room rules text entry masks-entry
      → Filling rules text entry entry masks-entry masks-entry 0 0
  filling_start entry masks-entry room = record {
    cut = cutting_start rules text;
    stored = output.filling_start (records_from rules text 0) entry (omega (arith, records_length, room.in_records));
    masked = output.filling_start (masks_from rules text 0) masks-entry (omega (arith, masks_length, room.in_masks));
  }

module _ {rules : List Rule} {text entry records masks-entry masks : List ℕ} {at n : ℕ}
    (w : Filling rules text entry records masks-entry masks at n) {rule len : ℕ} (c : Chooses rules (drop at text) rule len)
    (p : 0 < len) where
  -- the bytes of one token, and those of the tokens behind it
  recorded : (tag : ℕ) → tag ≡ (rule_at rules rule).tag
      → records_from rules text at ≡ record_of tag at len ++ records_from rules text (at + len)
  unfolding records_at
  recorded tag tagged = rw (lex_more rules text at rule len c p, length-take-le len (drop at text) c.within, tagged)

  agreed : (mask : ℕ) → Agrees rules (drop at text) len mask → masks_from rules text at ≡ four mask ++ masks_from rules text (at + len)
  unfolding mask_bytes
  agreed mask a = rw (lex_more rules text at rule len c p, a.agreed p)

  -- there is room for one more
  pub filling_room : 10 * n + 10 ≤ length records
  filling_room = output.filling_room w.stored (record_of _ at len) _ (recorded _ refl)

  pub filling_mask_room : {mask : ℕ} → Agrees rules (drop at text) len mask → 4 * n + 4 ≤ length masks
  filling_mask_room {mask} a = output.filling_room w.masked (four mask) _ (agreed mask a)

  pub filling_next : {tag mask : ℕ} {records-after masks-after : List ℕ} → tag ≡ (rule_at rules rule).tag
      → Agrees rules (drop at text) len mask
      → records-after ≡ take (10 * n) records ++ record_of tag at len ++ drop (10 * n + 10) records
      → masks-after ≡ take (4 * n) masks ++ four mask ++ drop (4 * n + 4) masks
      → Filling rules text entry records-after masks-entry masks-after (at + len) (n + 1)
  filling_next {tag} {mask} tagged a e f =
      let ten : 10 * n + 10 ≡ 10 * (n + 1) = omega arith in
      let four_more : 4 * n + 4 ≡ 4 * (n + 1) = omega arith in
      record {
        cut = cutting_next w.cut c p;
        stored = subst (output.Filling (records_from rules text 0) (records_from rules text (at + len)) entry _) ten
            (output.filling_next w.stored (record_of tag at len) _ (recorded tag tagged) (record_of tag at len) refl refl e);
        masked = subst (output.Filling (masks_from rules text 0) (masks_from rules text (at + len)) masks-entry _) four_more
            (output.filling_next w.masked (four mask) _ (agreed mask a) (four mask) refl refl f);
      }

module _ {rules : List Rule} {text entry records masks-entry masks : List ℕ} {at n : ℕ}
    (w : Filling rules text entry records masks-entry masks at n)
    (e : lex rules (drop at text) ≡ record { tokens = []; rest = drop at text }) where
  pub filling_stop : Fills rules text entry records masks-entry masks
  unfolding records_at mask_bytes
  filling_stop = record {
    written = rw records_length at (output.filling_end w.stored (rw e));
    agreed = rw masks_length at (output.filling_end w.masked (rw e));
  }
