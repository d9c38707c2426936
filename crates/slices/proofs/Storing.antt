-- The loop of `fill`, of the bytes that the tokens and the masks say: there is room for a token more, and a turn stores it and its mask. Then
-- the loop of a caller that stores what is pending until no more is: it ends, and what it answers is that of the cut.
use Rattle.std.specs.Prelude.{Err, Option, Some, None}
use mathlib.Core.Path.{◌≡◌, refl, sym, ◌∙◌, ap, subst}
use mathlib.Core.Bool.{Bool, true, false}
use mathlib.Core.List.{List, ◌++◌}
use Prim.Native.Nat.{ℕ, ◌+◌, ◌-◌, ◌*◌, ◌%◌, ◌<◌, ◌≤◌}
use native.Mathlib.Omega.{arith}
use lib.ListN.{length, set, take, drop}
use Rattle.answer.specs.declared.Refusal.{Refusal}
use Rattle.automaton.specs.Choice.{if}
use Rattle.automaton.specs.Rule.{Rule}
use Rattle.automaton.specs.Layers.{rule_at, Holds}
use Rattle.automaton.proofs.Tests.{clash}
use Rattle.big_endian.specs.Numbers.{four}
use Rattle.book.specs.Limits.{max_text}
use Rattle.reader.specs.Reading.{read_book, accepted}
use Rattle.longest_match.specs.Lexer.{lex}
use Rattle.longest_match.specs.Layers.{Chooses, Agrees}
use Rattle.longest_match.proofs.Cutting.{cutting_within, cutting_stop, lex_stop}
use Rattle.record.specs.Encoding.{encoded}
use Rattle.record.specs.Masks.{mask_bytes}
use Rattle.record.specs.Records.{record_of}
use Rattle.record.specs.declared.TokenRecord.{TokenRecord}
use Rattle.record.proofs.Encoding.{length-encoded, encoded-set, ten_bytes, two_bytes}
use Rattle.record.proofs.Masks.{length_mask_bytes, mask_bytes_set}
use Rattle.lexer.specs.Layers.{LexAnswered}
use Rattle.lexer.specs.Masked.{masked_outcome}
use Rattle.lexer.proofs.Filled.{Filling, filling_start, filling_room, filling_mask_room, filling_next, filling_stop}
use Rattle.lexer.proofs.ByRules.{room_in, answered_lexed, room_for}
use Rattle.slices.specs.declared.lexing.Pending.{Pending}
use Rattle.slices.specs.Layers.{answer_of, Chosen, PendingAt, Ready, Begun}

module _ {rules : List Rule} {text entry masks-entry : List ℕ} (tokens : List TokenRecord) (masks : List ℕ) {at n : ℕ}
    (w : Filling rules text entry (encoded tokens) masks-entry (mask_bytes masks) at n) {rule len mask : ℕ}
    (c : Chooses rules (drop at text) rule len) (p : 0 < len) (a : Agrees rules (drop at text) len mask) where
  pub token_room : n < length tokens
  token_room = omega (arith, filling_room w c p, length-encoded tokens)

  pub mask_room : n < length masks
  mask_room = omega (arith, filling_mask_room w c p a, length_mask_bytes masks)

  pub stored_next : {tag : ℕ} → tag ≡ (rule_at rules rule).tag
      → Filling rules text entry (encoded (set tokens n (record { tag = tag % 65536; place = at; len = len }))) masks-entry
      (mask_bytes (set masks n mask)) (at + len) (n + 1)
  stored_next {tag} e =
      let s = encoded-set tokens n (record { tag = tag % 65536; place = at; len = len }) token_room in
      filling_next w c p e a (rw two_bytes at s) (mask_bytes_set masks n mask mask_room)

-- ---- what is pending

-- t is pending after t.index tokens of the text, which are in the records, with their masks in the masks; at most `left` tokens follow
pub record Standing (book text entry masks-entry tb records masks : List ℕ) (left : ℕ) (t : Pending) (rules : List Rule) : Type 0 where
  pub accepts : read_book book ≡ accepted rules
  pub holds : Holds tb rules
  pub short : length text ≤ max_text
  pub enough : length (lex rules text).tokens ≤ room_in entry masks-entry
  pub at : ℕ
  pub filling : Filling rules text entry records masks-entry masks at t.index
  pub pending : PendingAt rules text t.index at t
  pub further : t.more ≡ true → length text < t.next + left

pub record Going (book text entry masks-entry tb records masks : List ℕ) (left : ℕ) (t : Pending) : Type 0 where
  pub idle : (f : Refusal) → t.refusal ≡ Some f → t.more ≡ false
  pub refuses : (f : Refusal) → t.refusal ≡ Some f → LexAnswered (masked_outcome book text entry masks-entry) (Err f) records masks
  pub stands : t.refusal ≡ None → (rules : List Rule) × Standing book text entry masks-entry tb records masks left t rules

unrefused : {A : Type 0} {o : Option Refusal} {f : Refusal} → o ≡ None → o ≡ Some f → A
unrefused p q = cc

-- so many turns are left at most
abbrev pub turns : List ℕ → Pending → ℕ
turns text t = if t.more (length text + 1 - t.next) 0

module _ {book text entry masks-entry tb : List ℕ} where
  pub going_start : {room : ℕ} {t : Pending} → Begun book text room tb t → room_in entry masks-entry ≡ room
      → Going book text entry masks-entry tb entry masks-entry (length text) t
  going_start {room} {t} b e = record {
    idle = b.idle;
    refuses = λ f p. b.refuses f p entry masks-entry e;
    stands = λ p.
        let s = b.starts p in
        let o = s.1.1.1 in
        let i : t.index ≡ 0 = o.pending.stored in
        let m = subst (λ (n : ℕ). length (lex s.0 text).tokens ≤ n) (sym e) o.enough in (
          s.0,
          record {
            accepts = s.1.0;
            holds = s.1.1.0;
            short = o.short;
            enough = m;
            at = 0;
            filling = subst (Filling s.0 text entry entry masks-entry masks-entry 0) (sym i)
                (filling_start s.0 text entry masks-entry (room_for s.0 text entry masks-entry m));
            pending = subst (λ (n : ℕ). PendingAt s.0 text n 0 t) (sym i) o.pending;
            further = λ m. let c = o.pending.goes m in omega (arith, c.some, c.next);
          },
        );
  }

  module _ {records masks : List ℕ} {left : ℕ} {t : Pending} (g : Going book text entry masks-entry tb records masks left t) where
    pub going_stop : t.more ≡ false → LexAnswered (masked_outcome book text entry masks-entry) (answer_of t) records masks
    unfolding masked_outcome
    going_stop m = go t.refusal refl
      where
        go : (o : Option Refusal) → t.refusal ≡ o → LexAnswered (masked_outcome book text entry masks-entry) (answer_of t) records masks
        go (Some f) e = rw e (g.refuses f e)
        go None e =
            let s = g.stands e in
            let o = s.1.pending.stops m in
            let k = lex_stop s.0 (drop s.1.at text) o.0 in
            let a = answered_lexed s.0 text entry masks-entry s.1.short s.1.enough (cutting_stop s.1.filling.cut k)
            (filling_stop s.1.filling k) in
            rw (e, o.1, s.1.accepts) a

    module _ (m : t.more ≡ true) where
      plain : t.refusal ≡ None
      plain = go t.refusal refl
        where
          go : (o : Option Refusal) → t.refusal ≡ o → o ≡ None
          go (Some f) e = clash m (g.idle f e)
          go None e = refl

      abbrev rules : List Rule
      rules = (g.stands plain).0

      s : Standing book text entry masks-entry tb records masks left t rules
      s = (g.stands plain).1

      c : Chosen rules text s.at t
      c = s.pending.goes m

      pub going-room : 10 * t.index + 10 ≤ length records
      going-room = filling_room s.filling c.chooses c.some

      pub going_mask_room : 4 * t.index + 4 ≤ length masks
      going_mask_room = filling_mask_room s.filling c.chooses c.some c.agrees

      within : t.next ≤ length text
      within = omega (arith, cutting_within s.filling.cut c.chooses c.some, c.next)

      pub going_ready : Ready tb text t
      going_ready = record {
        held = record { rules = rules; holds = s.holds };
        counts = omega (arith, s.filling.cut.few, s.filling.cut.within, s.short);
        within = within;
        short = s.short;
      }

      pub going-left : 0 < left
      going-left = omega (arith, s.further m, within)

      -- the token and its mask are stored, and r is pending behind t
      pub going_next : {after masks-after : List ℕ} {r : Pending}
          → after ≡ take (10 * t.index) records ++ ten_bytes t.token ++ drop (10 * t.index + 10) records
          → masks-after ≡ take (4 * t.index) masks ++ four t.mask ++ drop (4 * t.index + 4) masks
          → ((rs : List Rule) → Holds tb rs → PendingAt rs text (t.index + 1) t.next r)
          → Going book text entry masks-entry tb after masks-after (left - 1) r
      going_next {after} {masks-after} {r} e m' f =
          let u = f rules s.holds in
          record {
            idle = λ f p. unrefused u.plain p;
            refuses = λ f p. unrefused u.plain p;
            stands = λ p. (
              rules,
              record {
                accepts = s.accepts;
                holds = s.holds;
                short = s.short;
                enough = s.enough;
                at = t.next;
                filling = filled u;
                pending = subst (λ (n : ℕ). PendingAt rules text n t.next r) (sym u.stored) u;
                further = λ m₂. let d = u.goes m₂ in omega (arith, s.further m, d.some, d.next, going-left);
              },
            );
          }
        where
          same : ten_bytes t.token ≡ record_of (rule_at rules c.rule).tag s.at t.token.len
          same =
              ap (λ (x : ℕ). record_of x t.token.place t.token.len) c.tag
              ∙ ap (λ (x : ℕ). record_of ((rule_at rules c.rule).tag % 65536) x t.token.len) c.place
              ∙ two_bytes (rule_at rules c.rule).tag s.at t.token.len

          stored : after ≡ take (10 * t.index) records ++ record_of (rule_at rules c.rule).tag s.at t.token.len
              ++ drop (10 * t.index + 10) records
          stored = e ∙ ap (λ (x : List ℕ). take (10 * t.index) records ++ x ++ drop (10 * t.index + 10) records) same

          filled : PendingAt rules text (t.index + 1) t.next r
              → Filling rules text entry after masks-entry masks-after t.next r.index
          filled u =
              subst (Filling rules text entry after masks-entry masks-after t.next) (sym u.stored)
              (subst (λ (n : ℕ). Filling rules text entry after masks-entry masks-after n (t.index + 1)) (sym c.next)
              (filling_next s.filling c.chooses c.some refl c.agrees stored m'))

    -- what is pending is as far from the end as `turns` says
    pub going_turns : (turns text t ≤ left) × Going book text entry masks-entry tb records masks (turns text t) t
    going_turns = (
      least t.more refl,
      record {
        idle = g.idle;
        refuses = g.refuses;
        stands = λ p. let w = g.stands p in (
          w.0,
          record {
            accepts = w.1.accepts;
            holds = w.1.holds;
            short = w.1.short;
            enough = w.1.enough;
            at = w.1.at;
            filling = w.1.filling;
            pending = w.1.pending;
            further = λ m. enough m;
          },
        );
      },
    )
      where
        enough : t.more ≡ true → length text < t.next + turns text t
        enough m = rw m (omega arith)

        least : (b : Bool) → t.more ≡ b → turns text t ≤ left
        least true m = rw m (omega (arith, (s m).further m))
        least false m = rw m (omega arith)

  -- the turn is nearer to the end
  pub going_turned : {records masks : List ℕ} {left : ℕ} {t : Pending} (g : Going book text entry masks-entry tb records masks left t)
      (m : t.more ≡ true) {after masks-after : List ℕ} {r : Pending}
      → after ≡ take (10 * t.index) records ++ ten_bytes t.token ++ drop (10 * t.index + 10) records
      → masks-after ≡ take (4 * t.index) masks ++ four t.mask ++ drop (4 * t.index + 4) masks
      → ((rs : List Rule) → Holds tb rs → PendingAt rs text (t.index + 1) t.next r)
      → (turns text r < left) × Going book text entry masks-entry tb after masks-after (turns text r) r
  going_turned g m e m' f =
      let w = going_turns (going_next g m e m' f) in
      (omega (arith, going-left g m, w.0), w.1)
