-- Demand 3 on the plain printer, of the outcomes of `lex` and `print`. Assumes nothing.
use Rattle.std.specs.Prelude.{Ok, Err}
use Rattle.answer.specs.declared.Reason.TheVariants.{TextTooLong, TooFewRecords}
use Rattle.answer.specs.Answers.{lexed}
use Rattle.answer.specs.declared.Cut.{Cut as Parts}
use mathlib.Core.Path.{◌≡◌, refl, sym, ap, ◌∙◌}
use mathlib.Core.Logic.{◌↔◌}
use mathlib.Core.Bool.{Bool, true, false}
use mathlib.Core.Option.{none}
use mathlib.Core.List.{List, [], ◌∷◌, append-nil}
use Prim.Native.Nat.{ℕ, zero, suc, ◌-◌, ◌*◌, ◌<◌, ◌≤◌}
use native.Mathlib.Omega.{arith}
use lib.Dec.{ltb}
use lib.ListN.{length, take, drop}
use lib.Seq.{take-append_seam, take_at}
use borrow.Author.Tests.{le-ltb, ltb-false}
use Rattle.automaton.specs.Choice.{if, All}
use Rattle.automaton.specs.Rule.{Rule, Sound, state_count}
use Rattle.automaton.proofs.Tests.{all_map}
use Rattle.command.specs.Commands.{byte_at}
use Rattle.book.specs.Valid.{ValidRule, ValidRules, Valid}
use Rattle.book.specs.Limits.{max_text, max_tokens}
use Rattle.reader.specs.Reading.{Reading, accepted, refused, read_book}
use Rattle.reader.proofs.Accepted.{accepted_valid}
use Rattle.longest_match.specs.Lexer.{Lexed, first_match, lex, join, Printable}
use Rattle.longest_match.proofs.First.{nothing_empty}
use Rattle.longest_match.proofs.Lexing.{joins, lex_few, lex_lengths, lex_tags, printed_lexes, lexed_printable, join_injective}
use Rattle.record.specs.Records.{records_at, record_count}
use Rattle.record.proofs.Records.{length_records}
use Rattle.record.specs.Tokens.{records_of, tokens_of, InPool}
use Rattle.lexer.specs.Outcome.{LexOutcome, lex_accepted, lex_rules, lex_reading, lex_outcome}
use Rattle.output.specs.Outcome.{PrintOutcome, print_accepted, written}
use Rattle.output.proofs.Written.{written-fits}
use Rattle.printer.specs.Outcome.{print_outcome}
use Rattle.printer.proofs.Accepting.{Accepts, book_written, printed_accepts, written_joins, passes_printable}
use Rattle.printer.proofs.Accepting.{printable_faultless, printable_apart}
use Rattle.printer.proofs.ReadBack.{Storable, records_say, records_inside, records_count}

-- ---- an accepted book

pub byte_below : (bytes : List ℕ) → All (λ (b : ℕ). b < 256) bytes → (i : ℕ) → byte_at bytes i < 256
byte_below [] h i = omega arith
byte_below (b ∷ bytes) (p, h) zero = p
byte_below (b ∷ bytes) (p, h) (suc i) = byte_below bytes h i

pub valid_empty : {rules : List Rule} → ValidRules rules → first_match rules [] ≡ none
valid_empty {rules} v = nothing_empty state_count rules (all_map ValidRule (Sound state_count) (λ r h. h.sound) rules v.each)

pub same_rules : (book : List ℕ) {rules rules₁ : List Rule} → read_book book ≡ accepted rules → read_book book ≡ accepted rules₁ → rules
    ≡ rules₁
same_rules book p q = cc

nil_of : (w : List ℕ) → length w ≡ 0 → w ≡ []
nil_of [] e = refl
nil_of (b ∷ w) e = absurd (omega arith)

-- ---- an accepted cut

pub record Cut (book text room : List ℕ) (n place : ℕ) : Type 0 where
  pub rules : List Rule
  pub reads : read_book book ≡ accepted rules
  pub short : length text ≤ max_text
  pub enough : length (lex rules text).tokens ≤ record_count room
  pub count : n ≡ length (lex rules text).tokens
  pub place_is : place ≡ length text - length (lex rules text).rest
  pub outcome : lex_outcome book text room ≡ lex_accepted (lex rules text) text room

pub cut_accepts : (book text room : List ℕ) (rules : List Rule) → read_book book ≡ accepted rules → length text ≤ max_text
    → length (lex rules text).tokens ≤ record_count room → lex_outcome book text room ≡ lex_accepted (lex rules text) text room
unfolding lex_outcome lex_rules
cut_accepts book text room rules e s r = rw (e, le-ltb _ _ s, le-ltb _ _ r)

-- equal answers have equal parts
same_cut : {n place tokens rest : ℕ} → lexed n place ≡ lexed tokens rest → (n ≡ tokens) × (place ≡ rest)
same_cut {n} {place} {tokens} {rest} e =
    let q : ◌≡◌ {A = Parts} (record { tokens = n; rest = place }) (record { tokens = tokens; rest = rest }) = cc in
    (ap (λ (c : Parts). c.tokens) q, ap (λ (c : Parts). c.rest) q)

pub lexed_cut : (book text room : List ℕ) (n place : ℕ) → (lex_outcome book text room).answer ≡ lexed n place
    → Cut book text room n place
unfolding lex_outcome lex_rules
lexed_cut book text room n place e = go (read_book book) refl e
  where
    long : (rules : List Rule) (b : Bool) → ltb max_text (length text) ≡ b → (c : Bool)
        → ltb (record_count room) (length (lex rules text).tokens) ≡ c
        → (if b (record { answer = Err (record { reason = TextTooLong; place = 0 }); records = room })
        (if c (record { answer = Err (record { reason = TooFewRecords; place = length (lex rules text).tokens }); records = room })
        (lex_accepted (lex rules text) text room))).answer ≡ lexed n place
        → (b ≡ false) × (c ≡ false)
    long rules true p c q z = cc
    long rules false p true q z = cc
    long rules false p false q z = (refl, refl)

    go : (o : Reading) → read_book book ≡ o → (lex_reading o text room).answer ≡ lexed n place → Cut book text room n place
    go (refused number at) q z = cc
    go (accepted rules) q z =
        let t = long rules (ltb max_text (length text)) refl (ltb (record_count room) (length (lex rules text).tokens)) refl z in
        let s : length text ≤ max_text = ltb-false _ _ t.0 in
        let r : length (lex rules text).tokens ≤ record_count room = ltb-false _ _ t.1 in
        let o = cut_accepts book text room rules q s r in
        let a : lexed n place ≡ lexed (length (lex rules text).tokens) (length text - length (lex rules text).rest) =
        sym e ∙ ap (λ (x : LexOutcome). x.answer) o in
        record { rules = rules; reads = q; short = s; enough = r; count = (same_cut a).0; place_is = (same_cut a).1; outcome = o }

-- the records that an accepted cut stores
pub stored_records : {book text room : List ℕ} {n place : ℕ} (c : Cut book text room n place)
    → take (10 * n) (lex_outcome book text room).records ≡ records_at 0 (lex c.rules text).tokens
stored_records {book} {text} {room} {n} {place} c =
    let ts = (lex c.rules text).tokens in
    let l : length (records_at 0 ts) ≡ 10 * n = length_records ts 0 ∙ rw c.count in
    rw c.outcome (take_at (records_at 0 ts) (drop (10 * length ts) room) (10 * n) l)

-- ---- the tokens of a cut

pub cut_storable : (rules : List Rule) (text : List ℕ) → Valid rules → length text ≤ max_text
    → Storable (lex rules text).tokens 0 (lex rules text).rest text
cut_storable rules text v s =
    record {
      tags = lex_tags (λ (x : ℕ). x < 65536) rules (all_map ValidRule _ (λ r h. h.tag_below) rules v.rules_valid.each) text;
      short = s;
      inside = omega arith;
      joins = joins rules text;
    }

-- ---- the statements

module _ (book : List ℕ) (bytes : All (λ (b : ℕ). b < 256) book) where
  valid : {rules : List Rule} → read_book book ≡ accepted rules → Valid rules
  valid {rules} e = accepted_valid book rules (byte_below book bytes) e

  -- the stored records say the tokens of the cut
  pub stored_say : {text room : List ℕ} {n place : ℕ} → Cut book text room n place → (rules : List Rule) → read_book book ≡ accepted rules
      → tokens_of (take (10 * n) (lex_outcome book text room).records) text ≡ (lex rules text).tokens
  stored_say {text} {room} c rules e =
      let q : c.rules ≡ rules = same_rules book c.reads e in
      rw (stored_records c, q) (records_say (lex rules text).tokens 0 (lex rules text).rest text
      (cut_storable rules text (valid e) c.short))

  -- two accepted lists are equal exactly when the bytes written are
  pub equal_lists : (records pool out : List ℕ) (n : ℕ) (records₁ pool₁ out₁ : List ℕ) (n₁ : ℕ)
      → (print_outcome book records pool out).answer ≡ Ok n → (print_outcome book records₁ pool₁ out₁).answer ≡ Ok n₁
      → (tokens_of records pool ≡ tokens_of records₁ pool₁)
      ↔ (take n (print_outcome book records pool out).out ≡ take n₁ (print_outcome book records₁ pool₁ out₁).out)
  equal_lists records pool out n records₁ pool₁ out₁ n₁ e e₁ =
      let w = written_joins book records pool out n e in
      let w₁ = written_joins book records₁ pool₁ out₁ n₁ e₁ in
      let a = printed_accepts book records pool out n e in
      let a₁ = printed_accepts book records₁ pool₁ out₁ n₁ e₁ in (
        λ q. w ∙ ap join q ∙ sym w₁,
        λ q. join_injective a.rules (tokens_of records pool) (tokens_of records₁ pool₁) (valid_empty (valid a.reads).rules_valid)
            (passes_printable a.passes)
            (rw (same_rules book a.reads a₁.reads) (passes_printable a₁.passes)) (sym w ∙ q ∙ w₁),
      )

  -- a list that is printable, within its limits, is written where there is room
  pub printable_written : (rules : List Rule) → read_book book ≡ accepted rules → (records pool out : List ℕ)
      → record_count records ≤ max_tokens
      → All (InPool pool) (records_of records) → length (join (tokens_of records pool)) ≤ max_text
      → Printable rules (tokens_of records pool)
      → print_outcome book records pool out ≡ written (join (tokens_of records pool)) out
  printable_written rules e records pool out few inside short p = book_written book records pool out rules e record {
    few = few;
    faultless = printable_faultless rules pool (records_of records) 0 (valid e).rules_valid.distinct inside p;
    short = short;
    apart = printable_apart rules (tokens_of records pool) 0 p;
  }

  -- limits apart, a list is accepted exactly when it is printable
  pub accepts_printable : (rules : List Rule) → read_book book ≡ accepted rules → (records pool out : List ℕ)
      → record_count records ≤ max_tokens
      → All (InPool pool) (records_of records) → length (join (tokens_of records pool)) ≤ max_text
      → length (join (tokens_of records pool)) ≤ length out
      → ((n : ℕ) × ((print_outcome book records pool out).answer ≡ Ok n)) ↔ Printable rules (tokens_of records pool)
  accepts_printable rules e records pool out few inside short room = (
    λ q. let a = printed_accepts book records pool out q.0 q.1 in rw (same_rules book e a.reads) (passes_printable a.passes),
    λ p. (
      length (join (tokens_of records pool)),
      ap (λ (x : PrintOutcome). x.answer) (printable_written rules e records pool out few inside short p
          ∙ written-fits (join (tokens_of records pool)) out refl room),
    ),
  )

  -- what is written is cut without a rest, into the list
  pub output_lexes : (records pool out : List ℕ) (n : ℕ) (a : Accepts book records pool out n)
      → lex a.rules (join (tokens_of records pool)) ≡ record { tokens = tokens_of records pool; rest = [] }
  output_lexes records pool out n a = printed_lexes a.rules (tokens_of records pool) (valid_empty (valid a.reads).rules_valid)
      (passes_printable a.passes)

  pub output_cut : (records pool out : List ℕ) (n : ℕ) → (print_outcome book records pool out).answer ≡ Ok n
      → (text : List ℕ) → take n (print_outcome book records pool out).out ≡ text
      → (room : List ℕ) → length (tokens_of records pool) ≤ record_count room
      → ((lex_outcome book text room).answer ≡ lexed (length (tokens_of records pool)) (length text))
      × (tokens_of (take (10 * length (tokens_of records pool)) (lex_outcome book text room).records) text ≡ tokens_of records pool)
  output_cut records pool out n e text t room enough =
      let a = printed_accepts book records pool out n e in
      let j : text ≡ join (tokens_of records pool) = sym t ∙ written_joins book records pool out n e in
      let x : lex a.rules text ≡ record { tokens = tokens_of records pool; rest = [] } = rw j (output_lexes records pool out n a) in
      let s : length text ≤ max_text = rw j a.passes.short in
      let o : lex_outcome book text room ≡ lex_accepted (lex a.rules text) text room = cut_accepts book text room a.rules a.reads
      s (rw x enough) in
      let y : (lex_outcome book text room).answer ≡ lexed (length (tokens_of records pool)) (length text - 0) = rw (o, x) in
      let z : length text - 0 ≡ length text = omega arith in
      let w : (lex_outcome book text room).answer ≡ lexed (length (tokens_of records pool)) (length text) = rw z at y in
      let c = lexed_cut book text room (length (tokens_of records pool)) (length text) w in
      (w, stored_say c a.rules a.reads ∙ ap (λ (q : Lexed). q.tokens) x)

  -- what is cut without a rest
  whole : (rules : List Rule) (text : List ℕ) → length text ≡ length text - length (lex rules text).rest → (lex rules text).rest ≡ []
  whole rules text e = nil_of (lex rules text).rest (omega (arith, lex_lengths rules text))

  module _ (rules : List Rule) (reads : read_book book ≡ accepted rules) (text : List ℕ) (short : length text ≤ max_text)
      (no-rest : (lex rules text).rest ≡ []) where
    cut_joins : join (lex rules text).tokens ≡ text
    cut_joins = rw (no-rest, append-nil) at (joins rules text)

    cut_says : tokens_of (records_at 0 (lex rules text).tokens) text ≡ (lex rules text).tokens
    cut_says = records_say (lex rules text).tokens 0 (lex rules text).rest text (cut_storable rules text (valid reads) short)

    pub cut_outcome : (out : List ℕ) → length text ≤ length out → print_outcome book (records_at 0 (lex rules text).tokens) text out
        ≡ print_accepted text out
    cut_outcome out l =
        let ts = (lex rules text).tokens in
        let s = cut_storable rules text (valid reads) short in
        printable_written rules reads (records_at 0 ts) text out
        (rw (records_count ts 0 (lex rules text).rest text s) (omega (arith, lex_few rules text)))
        (records_inside ts 0 (lex rules text).rest text s) (rw (cut_says, cut_joins) short)
        (rw cut_says (lexed_printable rules text))
        ∙ rw (cut_says, cut_joins) (written-fits text out refl l)

  -- a text that is cut without a rest is printed from the records that the cut stores
  pub cut_printed : (text room out : List ℕ) (n : ℕ) → (lex_outcome book text room).answer ≡ lexed n (length text)
      → length text ≤ length out
      → ((print_outcome book (take (10 * n) (lex_outcome book text room).records) text out).answer ≡ Ok (length text))
      × (take (length text) (print_outcome book (take (10 * n) (lex_outcome book text room).records) text out).out ≡ text)
  cut_printed text room out n e l =
      let c = lexed_cut book text room n (length text) e in
      let o = cut_outcome c.rules c.reads text c.short (whole c.rules text c.place_is) out l in
      let q : print_outcome book (take (10 * n) (lex_outcome book text room).records) text out
      ≡ print_accepted text out = rw (stored_records c) o in
      (ap (λ (x : PrintOutcome). x.answer) q, rw q (take-append_seam text (drop (length text) out)))
