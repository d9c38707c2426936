-- What each level reads, from what the level below it has read.
use mathlib.Core.Path.{◌≡◌, refl, sym, ap, subst, ◌∙◌}
use mathlib.Core.Bool.{Bool, true, false, true≢false}
use mathlib.Core.List.{List, [], ◌∷◌}
use Prim.Native.Nat.{ℕ, ◌+◌, ◌≤◌, ◌<◌}
use native.Mathlib.Omega.{arith}
use lib.Dec.{eqb}
use lib.ListN.{length, drop, length-drop}
use lib.Seq.{drop-drop}
use Rattle.std.specs.Prelude.{Result, Ok, Err}
use Rattle.automaton.specs.Choice.{if}
use Rattle.expression.specs.Expression.{Expression, group, union, concat, star, plus, optional}
use Rattle.expression.specs.Spelling.{Level, alternatives, sequence, piece, atom}
use Rattle.expression.specs.Reading.{Parsed, parsed, faulty, read_as, and_then, atom_at, after_sequence, after_piece, repeated, closed}
use Rattle.expression.proofs.Unfolding.{alternatives_unfold, sequence_unfold, piece_unfold, atom_unfold}
use Rattle.positions.specs.Positions.{size, depth, first, last}
use Rattle.positions.specs.Numbers.{set_of}
use Rattle.position_reader.specs.declared.Part.{Part}
use Rattle.position_reader.specs.Layers.{starts_with, place_of, part_of, read_of, Noted, Reads, Ready, Taken, Followed, from}
use Rattle.expression_reader.specs.Layers.{ends_sequence, loops, Tail, ReadsAt, joined_part, united_part}
use Rattle.expression_reader.specs.Layers.{closed_part, carried_part, Carries, Joins, Linked}
use Rattle.expression_reader.proofs.Behind.{starts_inside}
use Rattle.expression_reader.proofs.Sizes.{drop_tail, drop-place, place-drop, read_counted, read_depth, tail_drop}
use Rattle.expression_reader.proofs.Notes.{taken_union, taken_concat, taken_group, taken_star, taken_plus, taken_optional}
use Rattle.expression_reader.proofs.Notes.{followed_group, followed_star, followed_plus, followed_union, followed_concat}
use Rattle.expression_reader.proofs.Notes.{followed_optional, part_union, part_concat, part_star, part_plus, part_optional}
use Rattle.expression_reader.proofs.Notes.{part_group}

-- ---- what was read where there is no fault

pub record Got (text : List ℕ) (at base : ℕ) (out : Parsed) (left : Part) : Type 0 where
  pub expression : Expression
  pub rest : List ℕ
  pub reading : out ≡ parsed expression rest
  pub part : left ≡ part_of text base expression rest
  pub tail : Tail text rest
  pub further : at < place_of text rest
  pub positions : size expression + at ≤ place_of text rest
  pub shallow : depth expression + at ≤ place_of text rest

record Sized (text : List ℕ) (at : ℕ) (x : Expression) (rest : List ℕ) : Type 0 where
  tail : Tail text rest
  further : at < place_of text rest
  positions : size x + at ≤ place_of text rest
  shallow : depth x + at ≤ place_of text rest

sized : (level : Level) {text : List ℕ} {at base : ℕ} {x : Expression} {rest : List ℕ} → Ready text at base
    → read_as level (drop at text) ≡ parsed x rest → Sized text at x rest
sized level {text} {at} ready d =
    let t = drop_tail text at ready.inside level d in
    let p = drop-place text at ready.inside level d in
    let k = place-drop text at ready.inside in
    let n = read_counted text (drop at text) (tail_drop text at) level d in
    let m = read_depth level (drop at text) d in
    record {
      tail = t;
      further = p.0;
      positions = omega (arith, n, k);
      shallow = omega (arith, m, length-drop at text, ready.inside, t.short);
    }

right-one : {p q : Part} → ◌≡◌ {A = Result Part ℕ} (Ok p) (Ok q) → p ≡ q
right-one e = cc

right_wrong : {A : Type 0} {p : Part} {q : ℕ} → ◌≡◌ {A = Result Part ℕ} (Ok p) (Err q) → A
right_wrong e = let z : ◌≡◌ {A = ℕ} 0 1 = cc in absurd (omega arith)

module _ {level : Level} {text : List ℕ} {at base : ℕ} {left : Part} {takers takers' follow follow' : List ℕ}
    (ready : Ready text at base) (h : ReadsAt level text at base (Ok left) takers takers' follow follow') where
  pub got : Got text at base (read_as level (drop at text)) left
  unfolding read_of
  got = go (read_as level (drop at text)) refl
    where
      go : (out : Parsed) → read_as level (drop at text) ≡ out → Got text at base (read_as level (drop at text)) left
      go (parsed x rest) d =
          let k = sized level ready d in
          record {
            expression = x;
            rest = rest;
            reading = d;
            part = right-one (h.reads.answer ∙ ap (read_of text base) d);
            tail = k.tail;
            further = k.further;
            positions = k.positions;
            shallow = k.shallow;
          }
      go (faulty rest) d = right_wrong (h.reads.answer ∙ ap (read_of text base) d)

  -- its place is in the text, and it is no deeper than that
  pub placed : (left.at ≤ length text) × (left.depth ≤ left.at)
  placed = let g = got in rw g.part (omega arith, omega (arith, g.shallow))

-- the expression that is parsed is the one
parsed_one : {x y : Expression} {u v : List ℕ} → parsed x u ≡ parsed y v → x ≡ y
parsed_one c = cc

parsed_faulty : {A : Type 0} {x : Expression} {u v : List ℕ} → faulty u ≡ parsed x v → A
parsed_faulty c = let z : ◌≡◌ {A = ℕ} 0 1 = cc in absurd (omega arith)

-- a fault is handed on
handed : {text : List ℕ} {base : ℕ} (out : Parsed) {out' : Parsed} {place : ℕ} {takers takers' follow follow' : List ℕ}
    (next : Expression → List ℕ → Parsed) → out' ≡ and_then out next → Reads text base out (Err place) takers takers' follow follow'
    → Reads text base out' (Err place) takers takers' follow follow'
unfolding read_of and_then
handed {text} {base} (parsed x rest) next d h = right_wrong (sym h.answer)
handed {text} {base} (faulty rest) next d h =
    record { answer = h.answer ∙ ap (read_of text base) (sym d); noted = λ x u c. parsed_faulty (sym d ∙ c) }

-- what was read is all of it
kept : {text : List ℕ} {base : ℕ} {out out' : Parsed} {r : Result Part ℕ} {takers takers' follow follow' : List ℕ}
    → Reads text base out r takers takers' follow follow' → out' ≡ out → Reads text base out' r takers takers' follow follow'
kept {text} {base} {out} {out'} {r} {takers} {takers'} {follow} {follow'} h d =
    subst (λ (x : Parsed). Reads text base x r takers takers' follow follow') (sym d) h

-- what stands behind it
behind : {text : List ℕ} {at base : ℕ} {out : Parsed} {left : Part} (g : Got text at base out left) → drop left.at text ≡ g.rest
behind {text} g = ap (λ (p : Part). drop p.at text) g.part ∙ g.tail.same

-- its positions end where the next ones begin
at_end : {text : List ℕ} {at base : ℕ} {out : Parsed} {left : Part} (g : Got text at base out left) {f : Expression}
    {takers takers' follow follow' : List ℕ} → Noted left.end f takers takers' follow follow'
    → Noted (base + size g.expression) f takers takers' follow follow'
at_end g {f} {takers} {takers'} {follow} {follow'} n = subst (λ (p : Part). Noted p.end f takers takers' follow follow') g.part n

-- ---- two parts, by one of the operations on them

-- a part that was read becomes another
abbrev onto : (Part → Part) → Result Part ℕ → Result Part ℕ
onto f (Ok p) = Ok (f p)
onto f (Err place) = Err place

module _ (op : Expression → Expression → Expression) (opPart : Part → Part → Part) (left : Part)
    {text : List ℕ} {base : ℕ} (x : Expression) (rest : List ℕ) (part : left ≡ part_of text base x rest)
    (parts : (f : Expression) (u : List ℕ)
    → opPart (part_of text base x rest) (part_of text (base + size x) f u) ≡ part_of text base (op x f) u) where
  combined : (out : Parsed) {r : Result Part ℕ} {takers takers' follow follow' : List ℕ} → r ≡ read_of text left.end out
      → ((f : Expression) (u : List ℕ) → out ≡ parsed f u → Noted base (op x f) takers takers' follow follow')
      → Reads text base (and_then out (λ f u. parsed (op x f) u)) (onto (opPart left) r) takers takers' follow follow'
  unfolding and_then read_of
  combined (parsed f u) {r} {takers} {takers'} {follow} {follow'} e n =
      record {
        answer =
            ap (onto (opPart left)) e
            ∙ ap Ok (ap (λ (p : Part). opPart p (part_of text p.end f u)) part ∙ parts f u);
        noted = λ y v c. subst (λ (z : Expression). Noted base z takers takers' follow follow') (one c) (n f u refl);
      }
    where
      one : {y : Expression} {v : List ℕ} → parsed (op x f) u ≡ parsed y v → op x f ≡ y
      one c = cc
  combined (faulty u) e n = record { answer = ap (onto (opPart left)) e; noted = λ y v c. parsed_faulty c }

-- ---- alternatives

bar_none : (next : List ℕ → Parsed) (x : Expression) (u : List ℕ) → starts_with 124 u ≡ false → after_sequence next x u ≡ parsed x u
unfolding starts_with after_sequence
bar_none next x [] k = refl
bar_none next x (b ∷ u) k = rw k

bar_more : (next : List ℕ → Parsed) (x : Expression) (u : List ℕ) → starts_with 124 u ≡ true
    → after_sequence next x u ≡ and_then (next (drop 1 u)) (λ f rest. parsed (union x f) rest)
unfolding starts_with after_sequence
bar_more next x [] k = absurd (true≢false (sym k))
bar_more next x (b ∷ u) k = rw k

pub alternatives_wrong : {text : List ℕ} {at base place : ℕ} {takers takers' follow follow' : List ℕ}
    → ReadsAt sequence text at base (Err place) takers takers' follow follow'
    → ReadsAt alternatives text at base (Err place) takers takers' follow follow'
alternatives_wrong {text} {at} h =
    record {
      reads = handed (read_as sequence (drop at text)) (after_sequence (read_as alternatives)) (alternatives_unfold (drop at text)) h.reads;
    }

module _ {text : List ℕ} {at base : ℕ} {left : Part} {takers takers' follow follow' : List ℕ} (ready : Ready text at base)
    (h : ReadsAt sequence text at base (Ok left) takers takers' follow follow') where
  bar_got : Got text at base (read_as sequence (drop at text)) left
  bar_got = got ready h

  then : read_as alternatives (drop at text) ≡ after_sequence (read_as alternatives) bar_got.expression bar_got.rest
  unfolding and_then
  then =
      alternatives_unfold (drop at text) ∙ ap (λ (o : Parsed). and_then o (after_sequence (read_as alternatives))) bar_got.reading

  pub alternatives_alone : starts_with 124 (drop left.at text) ≡ false
      → ReadsAt alternatives text at base (Ok left) takers takers' follow follow'
  alternatives_alone s =
      record {
        reads = kept h.reads
            (then ∙ bar_none _ _ _ (subst (λ (l : List ℕ). starts_with 124 l ≡ false) (behind bar_got) s) ∙ sym bar_got.reading);
      }

  module _ (s : starts_with 124 (drop left.at text) ≡ true) {takers'' follow'' : List ℕ} where
    alternatives_both : {q : Result Part ℕ} → ReadsAt alternatives text (left.at + 1) left.end q takers' takers'' follow' follow''
        → ReadsAt alternatives text at base (onto (united_part left) q) takers takers'' follow follow''
    alternatives_both {q} i =
        record {
          reads =
              kept
              (combined union united_part left g.expression g.rest g.part
              (λ f u. part_union text base g.expression f g.rest u) (read_as alternatives (drop 1 g.rest))
              (i.reads.answer ∙ ap (λ (l : List ℕ). read_of text left.end (read_as alternatives l)) tail)
              notes)
              (then ∙ bar_more _ _ _ (subst (λ (l : List ℕ). starts_with 124 l ≡ true) (behind g) s));
        }
      where
        g : Got text at base (read_as sequence (drop at text)) left
        g = bar_got

        tail : drop (left.at + 1) text ≡ drop 1 g.rest
        tail = sym (drop-drop 1 left.at text) ∙ ap (drop 1) (behind g)

        notes : (f : Expression) (u : List ℕ) → read_as alternatives (drop 1 g.rest) ≡ parsed f u
            → Noted base (union g.expression f) takers takers'' follow follow''
        notes f u d =
            let m = h.reads.noted g.expression g.rest g.reading in
            let n = at_end g (i.reads.noted f u (ap (read_as alternatives) tail ∙ d)) in
            record { taken = taken_union m.taken n.taken; followed = followed_union m.followed n.followed }

    pub alternatives_more : {right : Part} → ReadsAt alternatives text (left.at + 1) left.end (Ok right) takers' takers'' follow' follow''
        → ReadsAt alternatives text at base (Ok (united_part left right)) takers takers'' follow follow''
    alternatives_more i = alternatives_both i

    pub alternatives_fault : {place : ℕ} → ReadsAt alternatives text (left.at + 1) left.end (Err place) takers' takers'' follow' follow''
        → ReadsAt alternatives text at base (Err place) takers takers'' follow follow''
    alternatives_fault i = alternatives_both i

-- ---- a sequence

ends_none : (next : List ℕ → Parsed) (x : Expression) (u : List ℕ) → ends_sequence u ≡ true → after_piece next x u ≡ parsed x u
unfolding ends_sequence after_piece
ends_none next x [] k = refl
ends_none next x (b ∷ u) k = rw k

ends_more : (next : List ℕ → Parsed) (x : Expression) (u : List ℕ) → ends_sequence u ≡ false
    → after_piece next x u ≡ and_then (next u) (λ f rest. parsed (concat x f) rest)
unfolding ends_sequence after_piece
ends_more next x [] k = absurd (true≢false k)
ends_more next x (b ∷ u) k = rw k

pub sequence_wrong : {text : List ℕ} {at base place : ℕ} {takers takers' follow follow' : List ℕ}
    → ReadsAt piece text at base (Err place) takers takers' follow follow'
    → ReadsAt sequence text at base (Err place) takers takers' follow follow'
sequence_wrong {text} {at} h =
    record { reads = handed (read_as piece (drop at text)) (after_piece (read_as sequence)) (sequence_unfold (drop at text)) h.reads }

module _ {text : List ℕ} {at base : ℕ} {left : Part} {takers takers' follow follow' : List ℕ} (ready : Ready text at base)
    (h : ReadsAt piece text at base (Ok left) takers takers' follow follow') where
  piece_got : Got text at base (read_as piece (drop at text)) left
  piece_got = got ready h

  then_piece : read_as sequence (drop at text) ≡ after_piece (read_as sequence) piece_got.expression piece_got.rest
  unfolding and_then
  then_piece = sequence_unfold (drop at text) ∙ ap (λ (o : Parsed). and_then o (after_piece (read_as sequence))) piece_got.reading

  pub sequence_alone : ends_sequence (drop left.at text) ≡ true → ReadsAt sequence text at base (Ok left) takers takers' follow follow'
  sequence_alone s =
      record {
        reads = kept h.reads
            (then_piece ∙ ends_none _ _ _ (subst (λ (l : List ℕ). ends_sequence l ≡ true) (behind piece_got) s) ∙ sym piece_got.reading);
      }

  module _ (s : ends_sequence (drop left.at text) ≡ false) {takers'' follow'' : List ℕ} where
    sequence_both : {q : Result Part ℕ} {follow''' : List ℕ}
        → ReadsAt sequence text left.at left.end q takers' takers'' follow' follow''
        → ((p : Part) → q ≡ Ok p → Linked base left.end left.last p.first follow'' follow''')
        → ReadsAt sequence text at base (onto (joined_part left) q) takers takers'' follow follow'''
    unfolding read_of
    sequence_both {q} {follow'''} i linked =
        record {
          reads =
              kept
              (combined concat joined_part left g.expression g.rest g.part
              (λ f u. part_concat text base g.expression f g.rest u) (read_as sequence g.rest)
              (i.reads.answer ∙ ap (λ (l : List ℕ). read_of text left.end (read_as sequence l)) (behind g))
              notes)
              (then_piece ∙ ends_more _ _ _ (subst (λ (l : List ℕ). ends_sequence l ≡ false) (behind g) s));
        }
      where
        g : Got text at base (read_as piece (drop at text)) left
        g = piece_got

        -- the answer of what is read behind it
        answered : (f : Expression) (u : List ℕ) → read_as sequence g.rest ≡ parsed f u → q ≡ Ok (part_of text left.end f u)
        answered f u d = i.reads.answer ∙ ap (read_of text left.end) (ap (read_as sequence) (behind g) ∙ d)

        notes : (f : Expression) (u : List ℕ) → read_as sequence g.rest ≡ parsed f u
            → Noted base (concat g.expression f) takers takers'' follow follow'''
        notes f u d =
            let m = h.reads.noted g.expression g.rest g.reading in
            let n = at_end g (i.reads.noted f u (ap (read_as sequence) (behind g) ∙ d)) in
            let l = subst (λ (p : Part). Linked base p.end p.last (set_of (from p.end (first f))) follow'' follow''') g.part
            (linked (part_of text left.end f u) (answered f u d)) in
            record { taken = taken_concat m.taken n.taken; followed = followed_concat m.followed n.followed l }

    pub sequence_more : {right v : Part} {follow''' : List ℕ}
        → ReadsAt sequence text left.at left.end (Ok right) takers' takers'' follow' follow'' → Joins base left right v follow'' follow'''
        → ReadsAt sequence text at base (Ok v) takers takers'' follow follow'''
    sequence_more {right} {v} {follow'''} i j =
        rw j.answer
        (sequence_both i (λ p e. subst (λ (x : Part). Linked base left.end left.last x.first follow'' follow''') (right-one e) j.linked))

    pub sequence_fault : {place : ℕ} → ReadsAt sequence text left.at left.end (Err place) takers' takers'' follow' follow''
        → ReadsAt sequence text at base (Err place) takers takers'' follow follow''
    sequence_fault i = sequence_both i (λ p e. right_wrong (sym e))

-- ---- where the next call is ready

pub ready_behind : {text : List ℕ} {at base : ℕ} {out : Parsed} {left : Part} → Ready text at base → Got text at base out left
    → Ready text left.at left.end × (at < left.at)
ready_behind {text} {at} {base} {out} {left} ready g =
    rw g.part (record { inside = omega arith; counted = omega (arith, g.positions, ready.counted) }, g.further)

pub ready_next : {text : List ℕ} {at base : ℕ} (c : ℕ) → Ready text at base → starts_with c (drop at text) ≡ true
    → Ready text (at + 1) base × (at < length text)
ready_next {text} {at} {base} c ready s =
    let h : at < length text = starts_inside text at c s in
    (record { inside = omega arith; counted = omega (arith, ready.counted) }, h)

-- ---- a piece

module _ (text : List ℕ) (base : ℕ) (x : Expression) where
  closing : (u : List ℕ) → length u ≤ length text → closed_part (part_of text base x u) u ≡ read_of text base (closed x u)
  unfolding closed_part closed read_of
  closing [] h = refl
  closing (b ∷ t) h = go (eqb b 41) refl
    where
      go : (z : Bool) → eqb b 41 ≡ z → closed_part (part_of text base x (b ∷ t)) (b ∷ t) ≡ read_of text base (closed x (b ∷ t))
      go true e = rw (e, part_group text base x b t h)
      go false e = rw e

  carrying : (u : List ℕ) → length u ≤ length text → ◌≡◌ {A = Result Part ℕ} (Ok (carried_part (part_of text base x u) u)) (read_of text base (repeated x u))
  unfolding carried_part repeated read_of
  carrying [] h = refl
  carrying (b ∷ t) h = go (eqb b 42) refl (eqb b 43) refl (eqb b 63) refl
    where
      go : (z : Bool) → eqb b 42 ≡ z → (y : Bool) → eqb b 43 ≡ y → (w : Bool) → eqb b 63 ≡ w
          → ◌≡◌ {A = Result Part ℕ} (Ok (carried_part (part_of text base x (b ∷ t)) (b ∷ t))) (read_of text base (repeated x (b ∷ t)))
      go true e y f w k = rw (e, part_star text base x b t h)
      go false e true f w k = rw (e, f, part_plus text base x b t h)
      go false e false f true k = rw (e, f, k, part_optional text base x b t h)
      go false e false f false k = rw (e, f, k)

module _ {base : ℕ} (x : Expression) {takers takers' follow follow' : List ℕ} (n : Noted base x takers takers' follow follow') where
  closing_notes : (u : List ℕ) {y : Expression} {v : List ℕ} → closed x u ≡ parsed y v → Noted base y takers takers' follow follow'
  unfolding closed
  closing_notes [] c = parsed_faulty c
  closing_notes (b ∷ t) {y} {v} c = go (eqb b 41) refl c
    where
      go : (z : Bool) → eqb b 41 ≡ z → if z (parsed (group x) t) (faulty (b ∷ t)) ≡ parsed y v → Noted base y takers takers' follow follow'
      go true e c =
          subst (λ (w : Expression). Noted base w takers takers' follow follow') (parsed_one c)
          (record { taken = taken_group n.taken; followed = followed_group n.followed })
      go false e c = parsed_faulty c

  carrying_notes : (u : List ℕ) {y : Expression} {v : List ℕ} {follow'' : List ℕ}
      → (loops u ≡ true → Linked base (base + size x) (set_of (from base (last x))) (set_of (from base (first x))) follow' follow'')
      → (loops u ≡ false → follow'' ≡ follow') → repeated x u ≡ parsed y v → Noted base y takers takers' follow follow''
  unfolding loops repeated
  carrying_notes [] {y} {v} {follow''} l k c =
      subst (λ (w : Expression). Noted base w takers takers' follow follow'') (parsed_one c)
      (subst (λ (w : List ℕ). Noted base x takers takers' follow w) (sym (k refl)) n)
  carrying_notes (b ∷ t) {y} {v} {follow''} l k c = go (eqb b 42) refl (eqb b 43) refl (eqb b 63) refl
    where
      Goal : Type 0
      Goal = Noted base y takers takers' follow follow''

      as_is : loops (b ∷ t) ≡ false → Followed base x follow follow''
      as_is d = subst (λ (w : List ℕ). Followed base x follow w) (sym (k d)) n.followed

      to : {w : Expression} {u : List ℕ} → repeated x (b ∷ t) ≡ parsed w u → Taken base w takers takers'
          → Followed base w follow follow'' → Goal
      to d h i =
          subst (λ (w : Expression). Noted base w takers takers' follow follow'') (parsed_one (sym d ∙ c))
          (record { taken = h; followed = i })

      go : (z : Bool) → eqb b 42 ≡ z → (s : Bool) → eqb b 43 ≡ s → (q : Bool) → eqb b 63 ≡ q → Goal
      go true e s f q g = to {w = star x} {u = t} (rw e) (taken_star n.taken) (followed_star n.followed (l (rw e)))
      go false e true f q g = to {w = plus x} {u = t} (rw (e, f)) (taken_plus n.taken) (followed_plus n.followed (l (rw (e, f))))
      go false e false f true g =
          to {w = optional x} {u = t} (rw (e, f, g)) (taken_optional n.taken) (followed_optional (as_is (rw (e, f))))
      go false e false f false g = to {w = x} {u = b ∷ t} (rw (e, f, g)) n.taken (as_is (rw (e, f)))

opened : (next : List ℕ → Parsed) (u : List ℕ) → starts_with 40 u ≡ true → atom_at next u ≡ and_then (next (drop 1 u)) closed
unfolding starts_with atom_at
opened next [] s = absurd (true≢false (sym s))
opened next (b ∷ t) s = rw s

-- a group

inner : (text : List ℕ) (at : ℕ) → starts_with 40 (drop at text) ≡ true
    → read_as atom (drop at text) ≡ and_then (read_as alternatives (drop (at + 1) text)) closed
inner text at s =
    atom_unfold (drop at text) ∙ opened (read_as alternatives) (drop at text) s
    ∙ ap (λ (l : List ℕ). and_then (read_as alternatives l) closed) (drop-drop 1 at text)

module _ {text : List ℕ} {at base : ℕ} {takers takers' follow follow' : List ℕ} (ready : Ready text at base)
    (s : starts_with 40 (drop at text) ≡ true) where
  pub group_reads : {p : Part} {r : Result Part ℕ} → ReadsAt alternatives text (at + 1) base (Ok p) takers takers' follow follow'
      → r ≡ closed_part p (drop p.at text) → ReadsAt atom text at base r takers takers' follow follow'
  unfolding and_then
  group_reads {p} {r} h c = record { reads = kept all (inner text at s ∙ ap (λ (o : Parsed). and_then o closed) g.reading) }
    where
      g : Got text (at + 1) base (read_as alternatives (drop (at + 1) text)) p
      g = got (ready_next 40 ready s).0 h

      all : Reads text base (closed g.expression g.rest) r takers takers' follow follow'
      all =
          record {
            answer =
                c ∙ ap (λ (x : Part). closed_part x (drop x.at text)) g.part
                ∙ ap (closed_part (part_of text base g.expression g.rest)) g.tail.same ∙ closing text base g.expression g.rest g.tail.short;
            noted = λ y v e. closing_notes g.expression (h.reads.noted g.expression g.rest g.reading) g.rest e;
          }

pub group_fault : {text : List ℕ} {at base place : ℕ} {takers takers' follow follow' : List ℕ} → starts_with 40 (drop at text) ≡ true
    → ReadsAt alternatives text (at + 1) base (Err place) takers takers' follow follow'
    → ReadsAt atom text at base (Err place) takers takers' follow follow'
group_fault {text} {at} s h = record { reads = handed (read_as alternatives (drop (at + 1) text)) closed (inner text at s) h.reads }

-- an atom that is none
pub atom_reads : {text : List ℕ} {at base : ℕ} {r : Result Part ℕ} {takers takers' follow follow' : List ℕ}
    → Reads text base (atom_at (read_as alternatives) (drop at text)) r takers takers' follow follow'
    → ReadsAt atom text at base r takers takers' follow follow'
atom_reads {text} {at} h = record { reads = kept h (atom_unfold (drop at text)) }

-- with what it carries
pub piece_reads : {text : List ℕ} {at base : ℕ} {p v : Part} {takers takers' follow follow' follow'' : List ℕ} → Ready text at base
    → ReadsAt atom text at base (Ok p) takers takers' follow follow' → Carries text base p v follow' follow''
    → ReadsAt piece text at base (Ok v) takers takers' follow follow''
unfolding and_then
piece_reads {text} {at} {base} {p} {v} {takers} {takers'} {follow} {follow'} {follow''} ready h k =
    record {
      reads = kept all (piece_unfold (drop at text) ∙ ap (λ (o : Parsed). and_then o repeated) g.reading);
    }
  where
    g : Got text at base (read_as atom (drop at text)) p
    g = got ready h

    all : Reads text base (repeated g.expression g.rest) (Ok v) takers takers' follow follow''
    all =
        record {
          answer =
              ap Ok k.answer ∙ ap (λ (x : Part). Ok (carried_part x (drop x.at text))) g.part
              ∙ ap (λ (l : List ℕ). Ok (carried_part (part_of text base g.expression g.rest) l)) g.tail.same
              ∙ carrying text base g.expression g.rest g.tail.short;
          noted = λ y w e. carrying_notes g.expression (h.reads.noted g.expression g.rest g.reading) g.rest
              (λ l. subst (λ (x : Part). Linked base x.end x.last x.first follow' follow'') g.part (k.looped (ap loops (behind g) ∙ l)))
              (λ l. k.kept (ap loops (behind g) ∙ l)) e;
        }

pub piece_fault : {text : List ℕ} {at base place : ℕ} {takers takers' follow follow' : List ℕ}
    → ReadsAt atom text at base (Err place) takers takers' follow follow'
    → ReadsAt piece text at base (Err place) takers takers' follow follow'
piece_fault {text} {at} h = record { reads = handed (read_as atom (drop at text)) repeated (piece_unfold (drop at text)) h.reads }
