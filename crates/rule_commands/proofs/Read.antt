-- What a reader makes of a book that is the commands of one rule: by the limits and by whether the start is final. Assumes nothing.
use Rattle.answer.specs.declared.Reason.TheVariants.{BookTooLong, StartFinal, TooMany}
use mathlib.Core.Path.{◌≡◌, refl, ap, subst, ◌∙◌}
use mathlib.Core.Bool.{Bool, true, false}
use mathlib.Core.List.{List, [], ◌∷◌, ◌++◌, append_assoc, map, flatten, reverse, reverse_aux}
use mathlib.Core.Option.{some}
use Prim.Native.Nat.{ℕ, zero, suc, ◌+◌, ◌*◌, ◌/◌, ◌%◌, ◌<◌, ◌≤◌}
use native.Mathlib.Nat.{div-add-mod'}
use native.Mathlib.Omega.{arith}
use lib.Dec.{eqb}
use lib.ListN.{length, length-append}
use borrow.Author.Tests.{le-ltb, lt-ltb, le-leb, lt-leb, ne_eqb}
use Rattle.automaton.specs.Choice.{All, any, among}
use Rattle.automaton.specs.Rule.{Transition, Rule, overlaps, Ranged}
use Rattle.book.specs.Limits.{max_bytes, max_transitions}
use Rattle.book.specs.Draft.{Draft, between, bare, with_start, apply, check, move, rule_of}
use Rattle.reader.specs.Reading.{Reading, accepted, refused, read_from, read_by}
use Rattle.rule_commands.specs.Bytes.{final_bytes, span_bytes, head_bytes, rule_bytes}
use Rattle.rule_commands.specs.Fit.{error_state, Fit, rule_by, rule_book}
use Rattle.rule_commands.proofs.Places.{From, from-length, from_next, read_rule, read_start, read_error}
use Rattle.rule_commands.proofs.Places.{read_final, read_span, read_close, read_end}
use Rattle.rule_commands.proofs.Reversed.{all-reverse, any-reverse, none_of}

-- ---- lengths

abbrev pub finals_bytes : List ℕ → List ℕ
finals_bytes finals = flatten (map final_bytes finals)

abbrev spans_bytes : List Transition → List ℕ
spans_bytes spans = flatten (map span_bytes spans)

pub finals_length : (finals : List ℕ) → length (finals_bytes finals) ≡ 2 * length finals
unfolding flatten
finals_length [] = refl
finals_length (s ∷ finals) = omega (arith, finals_length finals)

spans_length : (spans : List Transition) → length (spans_bytes spans) ≡ 5 * length spans
unfolding flatten
spans_length [] = refl
spans_length (t ∷ spans) = omega (arith, spans_length spans)

pub rule-length : (tag kind : ℕ) (finals : List ℕ) (spans : List Transition)
    → length (rule_bytes tag kind finals spans) ≡ 9 + 2 * length finals + 5 * length spans
unfolding rule_bytes
rule-length tag kind finals spans =
    omega (
      arith,
      length-append (finals_bytes finals) (spans_bytes spans ++ (7 ∷ [])),
      length-append (spans_bytes spans) (7 ∷ []),
      finals_length finals,
      spans_length spans,
    )

-- ---- command by command

module _ (strict : Bool) (bytes : List ℕ) where
  -- where the book has these bytes from `at` on, reading there with d comes to r, with a step for each byte or more
  record Comes (at : ℕ) (tail : List ℕ) (d : Draft) (r : Reading) : Type 0 where
    by : (n : ℕ) → length tail ≤ n → From bytes at tail → read_from strict n bytes at d ≡ r

  comes_end : {at : ℕ} {tail : List ℕ} {d : Draft} {r : Reading} → 0 < length tail
      → ((n : ℕ) → From bytes at tail → read_from strict (suc n) bytes at d ≡ r) → Comes at tail d r
  comes_end {at} {tail} {d} {r} l k = record { by = go }
    where
      go : (n : ℕ) → length tail ≤ n → From bytes at tail → read_from strict n bytes at d ≡ r
      go zero m f = absurd (omega arith)
      go (suc n) m f = k n f

  comes_by : {at : ℕ} (front rest : List ℕ) {d e : Draft} {r : Reading} → 0 < length front
      → ((n : ℕ) → From bytes at (front ++ rest) → read_from strict (suc n) bytes at d ≡ read_from strict n bytes (at + length front) e)
      → Comes (at + length front) rest e r → Comes at (front ++ rest) d r
  comes_by {at} front rest {d} {e} {r} l k c = record { by = go }
    where
      go : (n : ℕ) → length (front ++ rest) ≤ n → From bytes at (front ++ rest) → read_from strict n bytes at d ≡ r
      go zero m f = absurd (omega (arith, length-append front rest))
      go (suc n) m f = k n f ∙ c.by n (omega (arith, length-append front rest)) (from_next front rest f)

  comes_at : {at at₁ : ℕ} {tail : List ℕ} {d : Draft} {r : Reading} → at ≡ at₁ → Comes at tail d r → Comes at₁ tail d r
  comes_at {tail = tail} {d} {r} e c = subst (λ (i : ℕ). Comes i tail d r) e c

  module _ (tag kind : ℕ) where
    abbrev draft : List ℕ → List Transition → Draft
    draft fs ts =
        record {
          rules = [];
          inside = true;
          tag = tag;
          kind = kind;
          start = some 0;
          error = some error_state;
          finals = fs;
          transitions = ts;
        }

    comes_finals : (finals : List ℕ) {at : ℕ} {rest fs : List ℕ} {ts : List Transition} {r : Reading}
        → All (λ (s : ℕ). s < error_state) finals
        → Comes (at + 2 * length finals) rest (draft (reverse_aux finals fs) ts) r
        → Comes at (finals_bytes finals ++ rest) (draft fs ts) r
    unfolding flatten apply check
    comes_finals [] {at} h c = comes_at (omega arith) c
    comes_finals (s ∷ finals) {at} {rest} {fs} {ts} (l, h) c =
        comes_by (4 ∷ s ∷ []) (finals_bytes finals ++ rest) (omega arith)
        (λ n f. read_final strict bytes at (draft fs ts) n f refl ∙ rw (lt-leb 4096 s (omega arith)))
        (comes_finals finals h (comes_at (omega arith) c))

    -- a SPAN where there is room for one more
    comes_span : (t : Transition) {at : ℕ} (rest : List ℕ) {fs : List ℕ} {ts : List Transition} {r : Reading} → Ranged error_state t
        → length ts < max_transitions → Comes (at + 5) rest (draft fs (t ∷ ts)) r → Comes at (span_bytes t ++ rest) (draft fs ts) r
    unfolding apply move check
    comes_span t {at} rest {fs} {ts} g l =
        comes_by (span_bytes t) rest (omega arith)
        (λ n f. read_span strict bytes at (draft fs ts) n f refl
        ∙ rw (
          lt-leb 4096 (length ts) l,
          le-ltb t.high t.low g.ordered,
          lt-leb 4096 t.from (omega (arith, g.from_below)),
          lt-leb 4096 t.to (omega (arith, g.to_below)),
        ))

    comes_spans : (spans : List Transition) {at : ℕ} {rest fs : List ℕ} {ts : List Transition} {r : Reading} → All (Ranged error_state) spans
        → length ts + length spans ≤ max_transitions
        → Comes (at + 5 * length spans) rest (draft fs (reverse_aux spans ts)) r
        → Comes at (spans_bytes spans ++ rest) (draft fs ts) r
    unfolding flatten
    comes_spans [] {at} h l c = comes_at (omega arith) c
    comes_spans (t ∷ spans) {at} {rest} (g, h) l c =
        comes_span t (spans_bytes spans ++ rest) g (omega arith) (comes_spans spans h (omega arith) (comes_at (omega arith) c))

    -- too many: the first without room is refused
    comes_many : (spans : List Transition) (room : ℕ) {at : ℕ} (rest : List ℕ) {fs : List ℕ} {ts : List Transition}
        → All (Ranged error_state) spans
        → length ts + room ≡ max_transitions → room < length spans
        → Comes at (spans_bytes spans ++ rest) (draft fs ts) (refused TooMany (at + 5 * room))
    unfolding flatten apply move check
    comes_many [] room rest h q l = absurd (omega arith)
    comes_many (t ∷ spans) zero {at} rest {fs} {ts} (g, h) q l =
        comes_end (omega arith)
        (λ n f. read_span strict bytes at (draft fs ts) n f refl
        ∙ rw (le-leb 4096 (length ts) (omega arith)) (ap (refused TooMany) (omega arith)))
    comes_many (t ∷ spans) (suc room) {at} rest {fs} {ts} (g, h) q l =
        comes_span t (spans_bytes spans ++ rest) g (omega arith)
        (subst (λ (i : ℕ). Comes (at + 5) (spans_bytes spans ++ rest) (draft fs (t ∷ ts)) (refused TooMany i)) (omega arith)
        (comes_many spans room rest h (omega arith) (omega arith)))

    -- ---- CLOSE and END

    abbrev rule : List ℕ → List Transition → Rule
    rule fs ts = rule_of (draft fs ts)

    comes_ended : {at : ℕ} (r : Rule) → Comes at (8 ∷ []) (between (r ∷ [])) (accepted (r ∷ []))
    unfolding apply check
    comes_ended {at} r =
        comes_end (omega arith)
        (λ n f. let size : length bytes ≡ at + 1 = from-length f (omega arith) in
        read_end strict bytes at (between (r ∷ [])) n f refl ∙ rw (le-ltb (at + 1) (length bytes) (omega arith)))

    module _ (fs : List ℕ) (ts : List Transition) (below : All (λ (s : ℕ). s < error_state) fs) (ranged : All (Ranged error_state) ts)
        (apart : overlaps ts ≡ false) where
      none_leaves : any (λ (t : Transition). eqb t.from error_state) ts ≡ false
      none_leaves =
          none_of (Ranged error_state) (λ (t : Transition). eqb t.from error_state)
          (λ t g. ne_eqb t.from error_state (λ e. omega (arith, g.from_below))) ts ranged

      not_final : among error_state fs ≡ false
      not_final = none_of (λ (s : ℕ). s < error_state) (eqb error_state) (λ s l. ne_eqb error_state s (λ e. omega arith)) fs below

      comes_refused : {at : ℕ} → among 0 fs ≡ true → Comes at (7 ∷ 8 ∷ []) (draft fs ts) (refused StartFinal at)
      unfolding apply check
      comes_refused {at} e =
          comes_end (omega arith)
          (λ n f. read_close strict bytes at (draft fs ts) n f refl ∙ rw (apart, none_leaves, not_final, e))

      comes_closed : {at : ℕ} → among 0 fs ≡ false → Comes at (7 ∷ 8 ∷ []) (draft fs ts) (accepted (rule fs ts ∷ []))
      unfolding apply check
      comes_closed {at} e =
          comes_by (7 ∷ []) (8 ∷ []) (omega arith)
          (λ n f. read_close strict bytes at (draft fs ts) n f refl ∙ rw (apart, none_leaves, not_final, e)) (comes_ended (rule fs ts))

    -- ---- RULE, START and ERROR

    comes_head : {rest : List ℕ} {r : Reading} → 0 < tag → tag < 65536 → kind ≤ 1 → Comes 8 rest (draft [] []) r
        → Comes 0 (head_bytes tag kind ++ rest) (between []) r
    unfolding apply check
    comes_head {rest} nonzero below known c =
        comes_by (1 ∷ tag / 256 ∷ tag % 256 ∷ kind ∷ []) (2 ∷ 0 ∷ 3 ∷ 255 ∷ rest) (omega arith)
        (λ n f. read_rule strict bytes 0 (between []) n f refl
        ∙ rw (div-add-mod', ne_eqb tag 0 (λ e. omega arith), le-ltb 1 kind known))
        (comes_by (2 ∷ 0 ∷ []) (3 ∷ 255 ∷ rest) {d = bare [] true tag kind} (omega arith)
        (λ n f. read_start strict bytes 4 (bare [] true tag kind) n f refl)
        (comes_by (3 ∷ 255 ∷ []) rest (omega arith) (λ n f. read_error strict bytes 6 started n f refl) c))
      where
        started : Draft
        started = with_start (bare [] true tag kind) 0

-- ---- the book

module _ (strict : Bool) (tag kind : ℕ) (finals : List ℕ) (spans : List Transition) where
  abbrev book : List ℕ
  book = rule_book tag kind finals spans

  abbrev body : List ℕ
  body = finals_bytes finals ++ (spans_bytes spans ++ (7 ∷ 8 ∷ []))

  book_parts : book ≡ head_bytes tag kind ++ body
  unfolding rule_bytes
  book_parts =
      rw (append_assoc (finals_bytes finals) (spans_bytes spans ++ (7 ∷ [])) (8 ∷ []), append_assoc (spans_bytes spans) (7 ∷ []) (8 ∷ []))

  pub rule_too_long : max_bytes < length book → read_by strict book ≡ refused BookTooLong 0
  unfolding read_by
  rule_too_long l = rw (lt-ltb max_bytes (length book) l)

  module _ (fit : Fit tag kind finals spans) (short : length book ≤ max_bytes) where
    read_body : {r : Reading} → Comes strict book 8 body (draft strict book tag kind [] []) r → read_by strict book ≡ r
    unfolding read_by
    read_body c =
        rw (le-ltb max_bytes (length book) short)
        ((comes_head strict book tag kind fit.tag_some fit.tag_below fit.kind_known c).by (length book)
        (omega (arith, ap length book_parts)) (record { same = book_parts }))

    -- the first SPAN past the limit
    pub rule_too_many : max_transitions < length spans
        → read_by strict book ≡ refused TooMany (8 + 2 * length finals + 5 * max_transitions)
    rule_too_many l =
        read_body (comes_finals strict book tag kind finals fit.finals_below_lem
        (comes_many strict book tag kind spans max_transitions (7 ∷ 8 ∷ []) fit.ranged (omega arith) l))

    module _ (few : length spans ≤ max_transitions) where
      read_close_of : {r : Reading} → Comes strict book (8 + 2 * length finals + 5 * length spans) (7 ∷ 8 ∷ [])
          (draft strict book tag kind (reverse finals) (reverse spans)) r → read_by strict book ≡ r
      read_close_of c =
          read_body (comes_finals strict book tag kind finals fit.finals_below_lem
          (comes_spans strict book tag kind spans fit.ranged (omega arith) c))

      -- the start is final
      pub rule-start-final : among 0 finals ≡ true → read_by strict book ≡ refused StartFinal (8 + 2 * length finals + 5 * length spans)
      rule-start-final e =
          read_close_of (comes_refused strict book tag kind (reverse finals) (reverse spans)
          (all-reverse (λ (s : ℕ). s < error_state) finals fit.finals_below_lem) (all-reverse (Ranged error_state) spans fit.ranged)
          fit.apart (any-reverse (eqb 0) finals ∙ e))

      pub rule_accepted : among 0 finals ≡ false → read_by strict book ≡ accepted (rule_by tag kind finals spans ∷ [])
      rule_accepted e =
          read_close_of (comes_closed strict book tag kind (reverse finals) (reverse spans)
          (all-reverse (λ (s : ℕ). s < error_state) finals fit.finals_below_lem) (all-reverse (Ranged error_state) spans fit.ranged)
          fit.apart (any-reverse (eqb 0) finals ∙ e))
