-- How the answers of the code come to the outcome. Assumes nothing.
use Rattle.std.specs.Prelude.{Err}
use Rattle.answer.specs.declared.Reason.TheVariants.{TextTooLong, TooFewRecords}
use Rattle.answer.specs.Answers.{lexed}
use mathlib.Core.Path.{◌≡◌, refl, sym}
use mathlib.Core.Bool.{Bool, true, false}
use mathlib.Core.List.{List}
use Prim.Native.Nat.{ℕ, ◌<◌, ◌≤◌, min}
use native.Mathlib.Omega.{arith}
use lib.Dec.{ltb}
use lib.ListN.{length}
use borrow.Author.Tests.{lt-ltb, le-ltb, ltb-false}
use Rattle.automaton.specs.Rule.{Rule}
use Rattle.automaton.specs.Layers.{Holds, Held}
use Rattle.book.specs.Limits.{max_text}
use Rattle.longest_match.specs.Lexer.{lex}
use Rattle.longest_match.specs.Layers.{Cuts}
use Rattle.longest_match.proofs.Lexing.{lex_few, lex_lengths, rest-drop}
use Rattle.record.specs.Records.{record_count}
use Rattle.record.specs.Masks.{mask_count}
use Rattle.lexer.specs.Layers.{Room, RecordsRoom, Fills, LexAnswered, RestAt}
use Rattle.lexer.specs.Outcome.{lex_rules, rest_rules}
use Rattle.lexer.specs.Masked.{masked_rules}

-- how many tokens there is room for, in records and in masks
abbrev pub room_in : List ℕ → List ℕ → ℕ
room_in records masks = min (record_count records) (mask_count masks)

module _ (rules : List Rule) (text records masks : List ℕ) where
  pub answered_long : max_text < length text
      → LexAnswered (masked_rules rules text records masks) (Err (record { reason = TextTooLong; place = 0 })) records masks
  unfolding lex_rules masked_rules
  answered_long l = rw (lt-ltb _ _ l) (record { answer = refl; records = refl; masks = refl })

  pub answered_few : {tokens rest : ℕ} → length text ≤ max_text → Cuts rules text tokens rest → room_in records masks < tokens
      → LexAnswered (masked_rules rules text records masks) (Err (record { reason = TooFewRecords; place = tokens })) records masks
  unfolding lex_rules masked_rules
  answered_few {tokens} {rest} l c f = go (ltb (record_count records) tokens) refl
    where
      e : tokens ≡ length (lex rules text).tokens
      e = c.tokens_are

      go : (b : Bool) → ltb (record_count records) tokens ≡ b
          → LexAnswered (masked_rules rules text records masks) (Err (record { reason = TooFewRecords; place = tokens })) records masks
      go true q = rw (le-ltb _ _ l, ← e, q) (record { answer = refl; records = refl; masks = refl })
      go false q =
          let few : mask_count masks < tokens = omega (arith, ltb-false (record_count records) tokens q) in
          rw (le-ltb _ _ l, ← e, q, lt-ltb _ _ few) (record { answer = refl; records = refl; masks = refl })

  pub answered_lexed : {tokens rest : ℕ} {records-exit masks-exit : List ℕ} → length text ≤ max_text
      → length (lex rules text).tokens ≤ room_in records masks
      → Cuts rules text tokens rest → Fills rules text records records-exit masks masks-exit
      → LexAnswered (masked_rules rules text records masks) (lexed tokens rest) records-exit masks-exit
  unfolding lex_rules masked_rules
  answered_lexed l m c w =
      let a : length (lex rules text).tokens ≤ record_count records = omega arith in
      let b : length (lex rules text).tokens ≤ mask_count masks = omega arith in
      rw (le-ltb _ _ l, le-ltb _ _ a, le-ltb _ _ b)
      (record { answer = cc (c.tokens_are, c.rest_is); records = w.written; masks = w.agreed })

-- as many records and masks as the text has bytes are enough
pub enough : (rules : List Rule) (text : List ℕ) (room : ℕ) → length text ≤ room → length (lex rules text).tokens ≤ room
enough rules text room l = omega (arith, lex_few rules text)

pub room_for : (rules : List Rule) (text records masks : List ℕ) → length (lex rules text).tokens ≤ room_in records masks
    → Room rules text records masks
room_for rules text records masks l = record { in_records = omega arith; in_masks = omega arith }

pub room_of : {tb text records masks : List ℕ} → Held tb
    → ((rules : List Rule) → Holds tb rules → length (lex rules text).tokens ≤ room_in records masks) → RecordsRoom tb text records masks
room_of {tb} {text} {records} {masks} held f = record { held = held; room = λ rules h. room_for rules text records masks (f rules h) }

-- ---- the rest

module _ (rules : List Rule) (text : List ℕ) where
  pub rest_long : max_text < length text → RestAt text 0 (rest_rules rules text)
  rest_long l = rw (lt-ltb _ _ l) (record { within = omega arith; tail = refl })

  pub rest_cut : {tokens rest : ℕ} → length text ≤ max_text → Cuts rules text tokens rest → RestAt text rest (rest_rules rules text)
  rest_cut l c =
      let e = c.rest_is in
      rw (le-ltb _ _ l) (record { within = omega (arith, lex_lengths rules text); tail = rw e (sym (rest-drop rules text)) })
