-- A cut with masks beside the same one without: what both answer and leave. Assumes nothing.
use Rattle.answer.specs.declared.Cut.{Cut}
use Rattle.std.specs.Prelude.{Result, Ok, Err}
use Rattle.answer.specs.declared.Reason.TheVariants.{TextTooLong, TooFewRecords}
use Rattle.answer.specs.Answers.{lexed}
use mathlib.Core.Path.{◌≡◌, refl, sym, ap, subst}
use mathlib.Core.Logic.{◌⊎◌, inl, inr}
use mathlib.Core.Bool.{Bool, true, false}
use mathlib.Core.List.{List, ◌++◌}
use Prim.Native.Nat.{ℕ, ◌*◌, ◌<◌, ◌≤◌}
use native.Mathlib.Omega.{arith}
use lib.Dec.{ltb}
use lib.ListN.{length, drop}
use borrow.Author.Tests.{le-ltb, ltb-true, ltb-false}
use Rattle.answer.specs.declared.Refusal.{Refusal}
use Rattle.automaton.specs.Choice.{if}
use Rattle.automaton.specs.Rule.{Rule}
use Rattle.book.specs.Limits.{max_text}
use Rattle.reader.specs.Reading.{Reading, accepted, refused, read_book}
use Rattle.longest_match.specs.Lexer.{lex}
use Rattle.longest_match.specs.Masks.{masks_of}
use Rattle.record.specs.Records.{record_count}
use Rattle.record.specs.Masks.{mask_bytes, mask_count}
use Rattle.lexer.specs.Outcome.{LexOutcome, lex_refused, lex_accepted, lex_rules, lex_reading, lex_outcome}
use Rattle.lexer.specs.Masked.{MaskedOutcome, masked_refused, with_masks, masked_rules, masked_reading, masked_outcome}

same_tokens : {m at n place : ℕ} → lexed m at ≡ lexed n place → m ≡ n
same_tokens {m} {at} {n} {place} e =
    let k : record { tokens = m; rest = at } ≡ record { tokens = n; rest = place } = cc in
    ap (λ (cut : Cut). cut.tokens) k

-- ---- from any answer and what is stored beside it

-- as without masks
pub record Same (o : LexOutcome) (m : MaskedOutcome) : Type 0 where
  pub answers : m.answer ≡ o.answer
  pub stores : m.records ≡ o.records

-- Refused, all stands as it did; where the same call without masks is not refused, it has n tokens, and they are too many for the masks.
pub record Refuses (o : LexOutcome) (m : MaskedOutcome) (records masks : List ℕ) (f : Refusal) : Type 0 where
  pub keeps : m.masks ≡ masks
  pub why : ((o.answer ≡ Err f) × (m.records ≡ o.records))
      ⊎ ((n : ℕ) × (place : ℕ) × (o.answer ≡ lexed n place) × (mask_count masks < n) × (f ≡ record { reason = TooFewRecords; place = n })
      × (m.records ≡ records))

-- Accepted, the masks are enough, and those of the tokens stand in front of what stood there.
pub record Accepts (o : LexOutcome) (m : MaskedOutcome) (agreed masks : List ℕ) (n place : ℕ) : Type 0 where
  pub same : Same o m
  pub cut : o.answer ≡ lexed n place
  pub enough : n ≤ mask_count masks
  pub leaves : m.masks ≡ mask_bytes agreed ++ drop (4 * n) masks

module _ (stored agreed records masks : List ℕ) where
  abbrev outcome : Result Cut Refusal → LexOutcome
  outcome a = record { answer = a; records = stored }

  abbrev masked : Result Cut Refusal → MaskedOutcome
  masked a = with_masks a stored agreed records masks

  with_enough : (a : Result Cut Refusal) → ((n place : ℕ) → a ≡ lexed n place → n ≤ mask_count masks) → Same (outcome a) (masked a)
  with_enough (Err f) h = record { answers = refl; stores = refl }
  with_enough (Ok cut) h = rw (le-ltb _ _ (h cut.tokens cut.rest refl)) (record { answers = refl; stores = refl })

  with_refused : (a : Result Cut Refusal) (f : Refusal) → (masked a).answer ≡ Err f → Refuses (outcome a) (masked a) records masks f
  with_refused (Err g) f e = record { keeps = refl; why = inl (e, refl) }
  with_refused (Ok cut) f e = go (ltb (mask_count masks) cut.tokens) refl e
    where
      go : (b : Bool) → ltb (mask_count masks) cut.tokens ≡ b
          → (if b (masked_refused (record { reason = TooFewRecords; place = cut.tokens }) records masks)
          (record { answer = Ok cut; records = stored; masks = mask_bytes agreed ++ drop (4 * cut.tokens) masks })).answer
          ≡ Err f
          → Refuses (outcome (Ok cut)) (masked (Ok cut)) records masks f
      go true q z =
          let w : record { reason = TooFewRecords; place = cut.tokens } ≡ f = cc in
          rw q (record { keeps = refl; why = inr (cut.tokens, cut.rest, refl, ltb-true _ _ q, sym w, refl) })
      go false q z = let y : ◌≡◌ {A = ℕ} 0 1 = cc in absurd (omega arith)

  with_lexed : (a : Result Cut Refusal) (n place : ℕ) → (masked a).answer ≡ lexed n place
      → Accepts (outcome a) (masked a) agreed masks n place
  with_lexed (Err g) n place e = let y : ◌≡◌ {A = ℕ} 0 1 = cc in absurd (omega arith)
  with_lexed (Ok cut) n place e = go (ltb (mask_count masks) cut.tokens) refl e
    where
      go : (b : Bool) → ltb (mask_count masks) cut.tokens ≡ b
          → (if b (masked_refused (record { reason = TooFewRecords; place = cut.tokens }) records masks)
          (record { answer = Ok cut; records = stored; masks = mask_bytes agreed ++ drop (4 * cut.tokens) masks })).answer
          ≡ lexed n place
          → Accepts (outcome (Ok cut)) (masked (Ok cut)) agreed masks n place
      go true q z = let y : ◌≡◌ {A = ℕ} 0 1 = cc in absurd (omega arith)
      go false q z =
          let k = same_tokens z in
          rw q (record {
            same = record { answers = refl; stores = refl };
            cut = z;
            enough = subst (λ (x : ℕ). x ≤ mask_count masks) k (ltb-false _ _ q);
            leaves = rw k;
          })

-- ---- by the bytes of a book

-- an accepted cut has no more tokens than there are records
lexed_fits : (book text records : List ℕ) (n place : ℕ) → (lex_outcome book text records).answer ≡ lexed n place
    → n ≤ record_count records
unfolding lex_outcome lex_rules
lexed_fits book text records n place e = go (read_book book) e
  where
    by_rules : (rules : List Rule) (long few : Bool) → ltb (record_count records) (length (lex rules text).tokens) ≡ few
        → (if long (lex_refused TextTooLong 0 records)
        (if few (lex_refused TooFewRecords (length (lex rules text).tokens) records) (lex_accepted (lex rules text) text records))).answer
        ≡ lexed n place
        → n ≤ record_count records
    by_rules rules true few f q = let y : ◌≡◌ {A = ℕ} 0 1 = cc in absurd (omega arith)
    by_rules rules false true f q = let y : ◌≡◌ {A = ℕ} 0 1 = cc in absurd (omega arith)
    by_rules rules false false f q =
        let k = same_tokens q in
        subst (λ (x : ℕ). x ≤ record_count records) k (ltb-false _ _ f)

    go : (o : Reading) → (lex_reading o text records).answer ≡ lexed n place → n ≤ record_count records
    go (refused number at) q = let y : ◌≡◌ {A = ℕ} 0 1 = cc in absurd (omega arith)
    go (accepted rules) q = by_rules rules (ltb max_text (length text)) _ refl q

module _ (book text records masks : List ℕ) where
  abbrev plain : LexOutcome
  plain = lex_outcome book text records

  abbrev beside : MaskedOutcome
  beside = masked_outcome book text records masks

  -- where the masks are enough for the tokens, there is no difference
  pub masked_same : ((n place : ℕ) → plain.answer ≡ lexed n place → n ≤ mask_count masks) → Same plain beside
  unfolding lex_outcome masked_outcome masked_rules
  masked_same h = go (read_book book) h
    where
      go : (o : Reading) → ((n place : ℕ) → (lex_reading o text records).answer ≡ lexed n place → n ≤ mask_count masks)
          → Same (lex_reading o text records) (masked_reading o text records masks)
      go (refused _ _) q = record { answers = refl; stores = refl }
      go (accepted rules) q =
          with_enough (lex_rules rules text records).records (masks_of rules (lex rules text).tokens) records masks
          (lex_rules rules text records).answer q

  -- as where there are as many masks as records
  pub masked_room : record_count records ≤ mask_count masks → Same plain beside
  masked_room l = masked_same (λ n place e. omega (arith, lexed_fits book text records n place e))

  pub masked_refused_lem : (f : Refusal) → beside.answer ≡ Err f → Refuses plain beside records masks f
  unfolding lex_outcome masked_outcome masked_rules
  masked_refused_lem f e = go (read_book book) e
    where
      go : (o : Reading) → (masked_reading o text records masks).answer ≡ Err f
          → Refuses (lex_reading o text records) (masked_reading o text records masks) records masks f
      go (refused _ _) q = record { keeps = refl; why = inl (q, refl) }
      go (accepted rules) q =
          with_refused (lex_rules rules text records).records (masks_of rules (lex rules text).tokens) records masks
          (lex_rules rules text records).answer f q

  pub masked_lexed : (n place : ℕ) → beside.answer ≡ lexed n place
      → (rules : List Rule) × ((read_book book ≡ accepted rules)
      × Accepts plain beside (masks_of rules (lex rules text).tokens) masks n place)
  unfolding lex_outcome masked_outcome masked_rules
  masked_lexed n place e = go (read_book book) refl e
    where
      go : (o : Reading) → read_book book ≡ o → (masked_reading o text records masks).answer ≡ lexed n place
          → (rules : List Rule) × ((o ≡ accepted rules)
          × Accepts (lex_reading o text records) (masked_reading o text records masks) (masks_of rules (lex rules text).tokens) masks n
          place)
      go (refused number at) r q = let y : ◌≡◌ {A = ℕ} 0 1 = cc in absurd (omega arith)
      go (accepted rules) r q = (
        rules,
        (
          refl,
          with_lexed (lex_rules rules text records).records (masks_of rules (lex rules text).tokens) records masks
              (lex_rules rules text records).answer n place q,
        ),
      )
