-- Separators put only where a token would be read on are the fewest with which a list comes back. A way that gives the list back leaves a
-- gap empty only where the token before it is not read on (`keeps`). From the last token back, the printer has put no more copies than such
-- a way; where it has put as many, no token is read on into its text that is not into the way's (`best`). Assumes nothing.
use mathlib.Core.Path.{◌≡◌, refl, sym, ◌∙◌, subst}
use mathlib.Core.Logic.{◌⊎◌, inl, inr, ◌≢◌}
use mathlib.Core.Bool.{Bool, true, false}
use mathlib.Core.Option.{some}
use mathlib.Core.List.{List, [], ◌∷◌, ◌++◌, append_assoc, append-nil, append_cancel_left, nil≢cons}
use Prim.Native.Nat.{ℕ, zero, suc, ◌≤◌}
use native.Mathlib.Omega.{arith}
use lib.ListN.{length, replicate}
use Rattle.automaton.specs.Choice.{All}
use Rattle.automaton.specs.Rule.{Rule}
use Rattle.automaton.proofs.Tests.{clash, all_right, all_append}
use Rattle.book.specs.Valid.{ValidRules}
use Rattle.longest_match.specs.Lexer.{Token, first_match, extends, lex, join, Alone}
use Rattle.longest_match.proofs.First.{nothing}
use Rattle.longest_match.proofs.Choosing.{extends_true, extends_longer}
use Rattle.longest_match.proofs.Lexing.{join-append, joins, Cuts, lexed_cuts}
use Rattle.printer.proofs.RoundTrip.{valid_empty}
use Rattle.shared_bytes.specs.Kinds.{separates}
use Rattle.spacing.specs.Separators.{drop_separators, meaning, follows, put, separated}
use Rattle.separated.proofs.Sides.{Side, Disjoint, side_unique, token_side, read_on_side}
use Rattle.separated.proofs.RoundTrip.{OfKind}
use Rattle.demands.specs.Gaps.{Way, later, behind, scattered, in_all, GivesBack, puts, put_count}
use Rattle.demands.proofs.Gaps.{copies_tokens, scattered-tokens, separated-puts}

-- ---- lists

-- two ways to part one list: one seam is at or behind the other
two_seams : {A : Type 0} (a b c e : List A) → a ++ b ≡ c ++ e
    → ((x : List A) × (a ≡ c ++ x) × (e ≡ x ++ b)) ⊎ ((x : List A) × (c ≡ a ++ x) × (b ≡ x ++ e))
two_seams [] b c e h = inr (c, refl, h)
two_seams (x ∷ a) b [] e h = inl (x ∷ a, refl, sym h)
two_seams (x ∷ a) b (y ∷ c) e h = elim (two_seams a b c e cc) [
  | inl z ↦ inl (z.0, cc, z.2)
  | inr z ↦ inr (z.0, cc, z.2)
]

-- the text begins with p
record Begins (p text : List ℕ) : Type 0 where
  rest : List ℕ
  splits : text ≡ p ++ rest

-- ---- tokens

-- where mode 2 puts a separator
follows-extends : (rules : List Rule) (mode : ℕ) → meaning mode ≡ 2 → (t : Token) (us : List Token)
    → follows rules mode t us ≡ extends rules t.bytes (join us)
unfolding follows extends
follows-extends rules mode m t [] = refl
follows-extends rules mode m t (u ∷ us) = rw m

module _ {rules : List Rule} (v : ValidRules rules) (d : Disjoint rules) where
  -- the first byte of a text that begins with a token
  token-first : (t : Token) (after : List ℕ) {b : ℕ} {q : List ℕ} → Alone rules t → t.bytes ++ after ≡ b ∷ q
      → Side rules (separates rules t.tag) b
  token-first t after {b} {q} a e = go t.bytes a (token_side v t a) e
    where
      go : (w : List ℕ) → first_match rules w ≡ some t.tag → All (Side rules (separates rules t.tag)) w → w ++ after ≡ b ∷ q
          → Side rules (separates rules t.tag) b
      go [] m h z = nothing (valid_empty v) m
      go (c ∷ w) m h z = let y : c ≡ b = cc in rw y at h.0

  -- tokens with which one text begins are of one kind
  same_kind : (t u : Token) (x y : List ℕ) → Alone rules t → Alone rules u → t.bytes ++ x ≡ u.bytes ++ y
      → separates rules t.tag ≡ separates rules u.tag
  same_kind t u x y a b e = go u.bytes refl
    where
      go : (w : List ℕ) → u.bytes ≡ w → separates rules t.tag ≡ separates rules u.tag
      go [] z = nothing (valid_empty v) (subst (λ (w : List ℕ). first_match rules w ≡ some u.tag) z b)
      go (c ∷ w) z = let f : u.bytes ++ y ≡ c ∷ (w ++ y) = rw z in side_unique d (token-first t x a (e ∙ f)) (token-first u y b f)

  -- each beginning of g in which no byte is a separator's is one of a
  Covers : List ℕ → List ℕ → Type 0
  Covers g a = (p : List ℕ) → All (Side rules false) p → Begins p g → Begins p a

  covers-behind : (w g a : List ℕ) → Covers g a → Covers (w ++ g) (w ++ a)
  unfolding Covers
  covers-behind w g a h p hp s = elim (two_seams p s.rest w g (sym s.splits)) [
    | inl z ↦ (
        let r = h z.0 (all_right (Side rules false) w z.0 (rw z.1 at hp)) record { rest = s.rest; splits = z.2 } in
        record { rest = r.rest; splits = rw (z.1, append_assoc, r.splits) })
    | inr z ↦ record { rest = z.0 ++ a; splits = rw (z.1, append_assoc) }
  ]

  -- a plain token that is read on into g is read on into a
  covers-extends : (t : Token) (g a : List ℕ) → OfKind rules false t → Covers g a → extends rules t.bytes g ≡ true
      → extends rules t.bytes a ≡ true
  unfolding Covers
  covers-extends t g a p h e =
      let y = extends_true rules t.bytes g e in
      let m = read_on_side v d false t.bytes (y.first ∷ y.more) p.alone (rw p.kind at (token_side v t p.alone)) y.matched in
      let r = h (y.first ∷ y.more) m record { rest = y.behind; splits = y.splits } in
      rw r.splits (extends_longer rules t.bytes y.first y.more r.rest y.matched)

  module _ {sep : Token} (hs : OfKind rules true sep) where
    -- nothing is behind a separator
    covers_sep : (w g a : List ℕ) → Covers (w ++ (sep.bytes ++ g)) (w ++ a)
    unfolding Covers
    covers_sep w g a p hp s = elim (two_seams p s.rest w (sep.bytes ++ g) (sym s.splits)) [
      | inl z ↦ past z.0 z.1 z.2
      | inr z ↦ record { rest = z.0 ++ a; splits = rw (z.1, append_assoc) }
    ]
      where
        past : (x : List ℕ) → p ≡ w ++ x → sep.bytes ++ g ≡ x ++ s.rest → Begins p (w ++ a)
        past [] e f = record { rest = a; splits = rw (e, append-nil) }
        past (c ∷ x) e f =
            let h = all_right (Side rules false) w (c ∷ x) (rw e at hp) in
            clash hs.kind (side_unique d (token-first sep g hs.alone f) h.0)

    -- ---- where every gap without copies can do without

    -- no token is read on over a gap that a way leaves empty
    Keeps : Way → List Token → Type 0
    Keeps way [] = Unit {0}
    Keeps way (t ∷ ts) = (behind way ts ≡ 0 → extends rules t.bytes (join (scattered sep (later way) ts)) ≡ false) × Keeps (later way) ts

    -- g has no more tokens than a; where it has as many, what is read on into g is read on into a
    record Best (g a : List Token) : Type 0 where
      fewer : length g ≤ length a
      covers : length g ≡ length a → Covers (join g) (join a)

    best_if : (t : Token) (g a : List Token) (k : ℕ) (c : Bool) → OfKind rules false t → extends rules t.bytes (join g) ≡ c
        → (k ≡ 0 → extends rules t.bytes (join a) ≡ false) → Best g a → Best (t ∷ put c sep g) (t ∷ replicate k sep ++ a)
    best_if t g a zero true p e n h =
        let z : length g ≢ length a = λ q. clash (covers-extends t (join g) (join a) p (h.covers q) e) (n refl) in
        record { fewer = omega (arith, h.fewer); covers = λ q. covers_sep t.bytes (join g) (join a) }
    best_if t g a (suc k) true p e n h =
        record { fewer = omega (arith, h.fewer, copies_tokens sep (suc k) a); covers = λ q. covers_sep t.bytes (join g) _ }
    best_if t g a zero false p e n h =
        record { fewer = omega (arith, h.fewer); covers = λ q. covers-behind t.bytes (join g) (join a) (h.covers (omega arith)) }
    best_if t g a (suc k) false p e n h =
        let l = copies_tokens sep (suc k) a in
        record { fewer = omega (arith, h.fewer, l); covers = λ q. absurd (omega (arith, h.fewer, l)) }

    best : (mode : ℕ) → meaning mode ≡ 2 → (way : Way) (ts : List Token) → All (OfKind rules false) ts → Keeps way ts
        → Best (separated rules sep mode ts) (scattered sep way ts)
    unfolding Keeps Covers separated
    best mode m way [] h n = record { fewer = omega arith; covers = λ q p hp s. s }
    best mode m way (t ∷ ts) (p, h) (n, k) =
        best_if t (separated rules sep mode ts) (scattered sep (later way) ts) (behind way ts) _ p
        (sym (follows-extends rules mode m t (separated rules sep mode ts))) n (best mode m (later way) ts h k)

    -- ---- a way that gives the list back is such a one

    -- a cut of a text behind separators' bytes: its tokens are those of a cut of both, but for separators
    record Stripped (us : List Token) (text : List ℕ) : Type 0 where
      left : List Token
      rest : List ℕ
      cuts : Cuts rules left rest
      joined : join left ++ rest ≡ text
      same : drop_separators rules left ≡ drop_separators rules us

    -- the text is empty, or its first byte is plain
    Plainly : List ℕ → Type 0
    Plainly text = (b : ℕ) (q : List ℕ) → text ≡ b ∷ q → Side rules false b

    strip_if : (u : Token) (us : List Token) (rest : List ℕ) (c : ℕ) (run text : List ℕ) → Cuts rules (u ∷ us) rest
        → All (Side rules true) (c ∷ run) → Plainly text
        → ((x : List ℕ) → All (Side rules true) x → join us ++ rest ≡ x ++ text → Stripped us text)
        → u.bytes ++ (join us ++ rest) ≡ c ∷ run ++ text → Stripped (u ∷ us) text
    unfolding Plainly drop_separators
    strip_if u us rest c run text (a, n, p) hr ht go e =
        let k : separates rules u.tag ≡ true = side_unique d (token-first u (join us ++ rest) a e) hr.0 in
        let ok : Stripped us text → Stripped (u ∷ us) text =
        λ r. record { left = r.left; rest = r.rest; cuts = r.cuts; joined = r.joined; same = rw k r.same } in
        ok (elim (two_seams u.bytes (join us ++ rest) (c ∷ run) text e) [
          | inl z ↦ past k z.0 z.1 z.2
          | inr z ↦ go z.0 (all_right (Side rules true) u.bytes z.0 (subst (All (Side rules true)) z.1 hr)) z.2
        ])
      where
        past : separates rules u.tag ≡ true → (x : List ℕ) → u.bytes ≡ c ∷ run ++ x → text ≡ x ++ (join us ++ rest) → Stripped us text
        past k [] f g = record { left = us; rest = rest; cuts = p; joined = sym g; same = refl }
        past k (b ∷ x) f g =
            let s = all_right (Side rules (separates rules u.tag)) (c ∷ run) (b ∷ x) (rw f at (token_side v u a)) in
            clash k (side_unique d s.0 (ht b (x ++ (join us ++ rest)) g))

    strip : (us : List Token) (rest run text : List ℕ) → Cuts rules us rest → All (Side rules true) run → Plainly text
        → join us ++ rest ≡ run ++ text → Stripped us text
    strip [] rest run text p hr ht e = record { left = []; rest = text; cuts = tt; joined = refl; same = refl }
    strip (u ∷ us) rest [] text p hr ht e = record { left = u ∷ us; rest = rest; cuts = p; joined = e; same = refl }
    strip (u ∷ us) rest (c ∷ run) text p hr ht e =
        strip_if u us rest c run text p hr ht (λ x hx f. strip us rest x text p.2 hx ht f) (sym (append_assoc u.bytes _ _) ∙ e)

    copies_side : (k : ℕ) → All (Side rules true) (join (replicate k sep))
    copies_side zero = tt
    copies_side (suc k) =
        all_append (Side rules true) sep.bytes (join (replicate k sep)) (rw hs.kind at (token_side v sep hs.alone)) (copies_side k)

    scattered_plainly : (way : Way) (ts : List Token) → All (OfKind rules false) ts → Plainly (join (scattered sep way ts))
    unfolding Plainly
    scattered_plainly way [] h b q e = absurd (nil≢cons e)
    scattered_plainly way (t ∷ ts) (p, h) b q e = rw p.kind at (token-first t _ p.alone e)

    keeps_if : (way : Way) (t : Token) (ts : List Token) (u : Token) (us : List Token) (rest : List ℕ) (c : Bool)
        → separates rules u.tag ≡ c → OfKind rules false t → All (OfKind rules false) ts → Cuts rules (u ∷ us) rest
        → u.bytes ++ (join us ++ rest) ≡ t.bytes ++ join (replicate (behind way ts) sep ++ scattered sep (later way) ts)
        → drop_separators rules (u ∷ us) ≡ t ∷ ts
        → (behind way ts ≡ 0 → extends rules t.bytes (join (scattered sep (later way) ts)) ≡ false)
        × Stripped us (join (scattered sep (later way) ts)) × (drop_separators rules us ≡ ts)
    unfolding drop_separators
    keeps_if way t ts u us rest true c p h pr e f = clash c (same_kind u t _ _ pr.0 p.alone e ∙ p.kind)
    keeps_if way t ts u us rest false c p h pr e f =
        let x : u ∷ drop_separators rules us ≡ t ∷ ts = rw c at f in
        let z : u ≡ t = cc in
        let j = append_cancel_left t.bytes _ _ (rw z at e) in (
          (λ k. let y : join us ++ rest ≡ join (scattered sep (later way) ts) = rw k at j in rw (← y, ← z) pr.1),
          strip us rest (join (replicate (behind way ts) sep)) _ pr.2 (copies_side (behind way ts))
              (scattered_plainly (later way) ts h) (j ∙ join-append (replicate (behind way ts) sep) _),
          cc,
        )

    keeps : (way : Way) (ts us : List Token) (rest : List ℕ) → All (OfKind rules false) ts → Cuts rules us rest
        → join us ++ rest ≡ join (scattered sep way ts) → drop_separators rules us ≡ ts → Keeps way ts
    unfolding Keeps drop_separators
    keeps way [] us rest h p e f = tt
    keeps way (t ∷ ts) [] rest h p e f = absurd (nil≢cons f)
    keeps way (t ∷ ts) (u ∷ us) rest (q, h) p e f =
        let r = keeps_if way t ts u us rest _ refl q h p (sym (append_assoc u.bytes _ _) ∙ e) f in
        (r.0, keeps (later way) ts r.1.left r.1.rest h r.1.cuts r.1.joined (r.1.same ∙ r.2))

    -- ---- so that it has no fewer copies

    pub fewest : (mode : ℕ) → meaning mode ≡ 2 → (way : Way) (ts : List Token) → All (OfKind rules false) ts
        → GivesBack rules ts (join (scattered sep way ts)) → put_count rules sep mode ts ≤ in_all way ts
    fewest mode m way ts h e =
        let text = join (scattered sep way ts) in
        let k = keeps way ts (lex rules text).tokens (lex rules text).rest h (lexed_cuts rules text) (joins rules text) e in
        let l : length (scattered sep (puts rules sep mode ts) ts) ≤ length (scattered sep way ts) =
        rw separated-puts at (best mode m way ts h k).fewer in
        omega (arith, l, scattered-tokens sep (puts rules sep mode ts) ts, scattered-tokens sep way ts)
