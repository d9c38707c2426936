-- How the answers of the code come to the outcome of document 01. Assumes nothing.
use Rattle.answer.specs.declared.Cut.{Cut}
use Rattle.std.specs.Prelude.{Result, Ok, Err}
use Rattle.answer.specs.declared.Reason.TheVariants.{BookTooLong, TextTooLong, TooFewRecords}
use Rattle.answer.specs.Answers.{lexed}
use mathlib.Core.Path.{◌≡◌, refl, ◌∙◌, ap}
use mathlib.Core.Bool.{Bool, true, false}
use mathlib.Core.List.{List}
use Prim.Native.Nat.{ℕ, ◌-◌, ◌<◌}
use native.Mathlib.Omega.{arith}
use lib.Dec.{ltb}
use lib.ListN.{length, take, drop, length-drop}
use lib.Seq.{take_all}
use Rattle.answer.specs.declared.Refusal.{Refusal}
use Rattle.automaton.specs.Choice.{if}
use Rattle.automaton.specs.Rule.{Rule}
use Rattle.automaton.specs.Layers.{Holds}
use Rattle.book.specs.Limits.{max_bytes, max_text}
use Rattle.reader.specs.Reading.{Reading, accepted, refused, read_book}
use Rattle.reader.specs.Layers.{Loaded}
use Rattle.reader.proofs.Loading.{read_too_long}
use Rattle.reader.proofs.Loaded.{loaded_rules, loaded_refusal}
use Rattle.longest_match.specs.Lexer.{lex}
use Rattle.longest_match.proofs.Lexing.{rest-drop}
use Rattle.record.specs.Records.{record_count}
use Rattle.lexer.specs.Outcome.{lex_refused, lex_accepted, lex_rules, rest_rules, lex_reading, lex_outcome, rest_reading, rest_of}
use Rattle.lexer.specs.Masked.{masked_rules, masked_outcome}
use Rattle.lexer.specs.Layers.{LexAnswered, RestAt}

module _ {bytes tb : List ℕ} {b : Result ℕ Refusal} {n : ℕ} (l : Loaded bytes b tb) (a : b ≡ Ok n) where
  abbrev read : (rules : List Rule) × ((read_book bytes ≡ accepted rules) × Holds tb rules)
  read = loaded_rules l a

  pub answered_book : (text records masks records-exit masks-exit : List ℕ) (r : Result Cut Refusal)
      → ((rules : List Rule) → Holds tb rules → LexAnswered (masked_rules rules text records masks) r records-exit masks-exit)
      → LexAnswered (masked_outcome bytes text records masks) r records-exit masks-exit
  unfolding masked_outcome
  answered_book text records masks records-exit masks-exit r h = rw read.1.0 (h read.0 read.1.1)

  pub rest_book : (text : List ℕ) (place : ℕ) → ((rules : List Rule) → Holds tb rules → RestAt text place (rest_rules rules text))
      → RestAt text place (rest_of bytes text)
  unfolding rest_of
  rest_book text place h = rw read.1.0 (h read.0 read.1.1)

module _ {bytes tb : List ℕ} {b : Result ℕ Refusal} {f : Refusal} (l : Loaded bytes b tb) (a : b ≡ Err f) where
  pub answered_refused : (text records masks : List ℕ)
      → LexAnswered (masked_outcome bytes text records masks) (Err f) records masks
  unfolding masked_outcome
  answered_refused text records masks = rw (loaded_refusal l a) (record { answer = refl; records = refl; masks = refl })

  pub rest_refused : (text : List ℕ) → RestAt text 0 (rest_of bytes text)
  unfolding rest_of
  rest_refused text = rw (loaded_refusal l a) (record { within = omega arith; tail = refl })

-- a book that is too long is refused before it is read
pub answered_too_long : (bytes text records masks : List ℕ) → max_bytes < length bytes
    → LexAnswered (masked_outcome bytes text records masks) (Err (record { reason = BookTooLong; place = 0 })) records masks
unfolding masked_outcome
answered_too_long bytes text records masks l =
    rw (read_too_long false bytes l) (record { answer = refl; records = refl; masks = refl })

-- ---- the rest

-- the part of the text from there on is the rest
pub rest_part : {text rest : List ℕ} {at : ℕ} → RestAt text at rest → take (length text - at) (drop at text) ≡ rest
rest_part {text} {rest} {at} r = take_all (length text - at) (drop at text) (omega (arith, length-drop at text)) ∙ r.tail

-- ---- both calls agree

same_rest : {m at n place : ℕ} → lexed m at ≡ lexed n place → at ≡ place
same_rest {m} {at} {n} {place} e =
    let k : record { tokens = m; rest = at } ≡ record { tokens = n; rest = place } = cc in
    ap (λ (cut : Cut). cut.rest) k

-- Where a text is cut, `rest_of` is its part from the place that the answer reports.
pub rest-agrees : (book text records : List ℕ) (tokens rest : ℕ) → (lex_outcome book text records).answer ≡ lexed tokens rest
    → rest_of book text ≡ drop rest text
unfolding lex_outcome lex_rules rest_of
rest-agrees book text records tokens rest e = by (read_book book) e
  where
    refused_not : {f : Refusal} {A : Type 0} → Err f ≡ lexed tokens rest → A
    refused_not q = let z : ◌≡◌ {A = ℕ} 0 1 = cc in absurd (omega arith)

    rules_agree : (rules : List Rule) (t u : Bool)
        → (if t (lex_refused TextTooLong 0 records)
        (if u (lex_refused TooFewRecords (length (lex rules text).tokens) records) (lex_accepted (lex rules text) text records))).answer
        ≡ lexed tokens rest
        → if t text (lex rules text).rest ≡ drop rest text
    rules_agree rules true u q = refused_not q
    rules_agree rules false true q = refused_not q
    rules_agree rules false false q =
        rest-drop rules text ∙ ap (λ (n : ℕ). drop n text) (same_rest q)

    by : (o : Reading) → (lex_reading o text records).answer ≡ lexed tokens rest → rest_reading o text ≡ drop rest text
    by (refused _ _) q = refused_not q
    by (accepted rules) q = rules_agree rules (ltb max_text (length text)) (ltb (record_count records) (length (lex rules text).tokens)) q
