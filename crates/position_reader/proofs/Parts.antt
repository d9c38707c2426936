-- The part that is one position, and what is noted of it. Assumes nothing.
use mathlib.Core.Path.{◌≡◌, refl, sym, ap, ◌∙◌, subst}
use mathlib.Core.Bool.{Bool, true, false, not, ◌&&◌, ◌||◌}
use mathlib.Core.List.{List}
use Prim.Native.Nat.{ℕ, ◌+◌, ◌-◌, ◌≤◌, ◌<◌}
use native.Mathlib.Omega.{arith}
use lib.Bits.{bit_or, or_zero_r}
use lib.Dec.{eqb, leb, ltb}
use lib.ListN.{length, get_or, drop, set, length-drop}
use lib.Seq.{get_or-set_same, get_or-set_other}
use borrow.Author.Tests.{eqb-true, eqb-false, leb-true, leb-false, ltb-true, eq-eqb, ne_eqb, le-leb, lt-ltb}
use Rattle.std.specs.Prelude.{Result, Ok, Err}
use Rattle.automaton.specs.Choice.{if}
use Rattle.automaton.proofs.Tests.{and_true, and_false_right, or_true}
use Rattle.expression.specs.Expression.{Position, byte, period, Expression, position, takes}
use Rattle.expression.specs.Reading.{Parsed, faulty}
use Rattle.positions.specs.Positions.{size, depth, nullable, follows}
use Rattle.positions.proofs.Numbers.{set_none}
use Rattle.position_reader.specs.Layers.{from, within, place_of, part_of, read_of, Taken, Followed, Noted, Reads}
use Rattle.position_reader.specs.Steps.{only, Marked, Positioned, ReadPosition}
use Rattle.position_reader.specs.declared.Part.{Part}
use Rattle.position_reader.proofs.Marks.{same_test, marked_same}
use Rattle.position_reader.proofs.Sets.{first_one, last_one, takers_one}

part-one : (text rest : List ℕ) (at base : ℕ) (c : Position) (s : ℕ) → place_of text rest ≡ at → s ≡ only base
    → ◌≡◌ {A = Part} (record { at = at; end = base + 1; depth = 0; empty = false; first = s; last = s })
    (part_of text base (position c) rest)
unfolding size depth nullable
part-one text rest at base c s e q = rw (e, q, ← first_one base c, ← last_one base c)

within-one : (base p : ℕ) → within base 1 p ≡ eqb p base
within-one base p = same_test _ _ to fro
  where
    to : within base 1 p ≡ true → eqb p base ≡ true
    to e =
        let h = and_true (leb base p) (ltb p (base + 1)) e in
        eq-eqb p base (omega (arith, leb-true base p h.0, ltb-true p (base + 1) h.1))

    fro : eqb p base ≡ true → within base 1 p ≡ true
    fro e = let h : p ≡ base = eqb-true p base e in rw (le-leb base p (omega arith), lt-ltb p (base + 1) (omega arith))

-- none follows it
followed_one : (base : ℕ) (c : Position) (f f' : List ℕ) → ((p : ℕ) → p < 64 → get_or f' p 0 ≡ if (eqb p base) 0 (get_or f p 0))
    → Followed base (position c) f f'
unfolding size follows
followed_one base c f f' h =
    record {
      followed =
          λ p l. h p l
          ∙ rw (within-one base p, set_none 64 (from base (follows (position c) (p - base))) (λ q k. and_false_right (leb base q)));
    }

pub positioned : (at base : ℕ) (f f' : List ℕ) (s : ℕ) → s ≡ only base
    → ((p : ℕ) → p < 64 → get_or f' p 0 ≡ if (eqb p base) 0 (get_or f p 0))
    → Positioned at base (record { at = at; end = base + 1; depth = 0; empty = false; first = s; last = s }) f f'
positioned at base f f' s e h =
    record {
      part = λ text rest c q. part-one text rest at base c s q e;
      followed = λ c. followed_one base c f f' h;
    }

pub stored : (base : ℕ) (f : List ℕ) → length f ≡ 64 → base < 64 → (p : ℕ) → p < 64
    → get_or (set f base 0) p 0 ≡ if (eqb p base) 0 (get_or f p 0)
stored base f full l p h = go (eqb p base) refl
  where
    go : (t : Bool) → eqb p base ≡ t → get_or (set f base 0) p 0 ≡ if t 0 (get_or f p 0)
    go true e = rw (eqb-true p base e) (get_or-set_same f base 0 0 (omega arith))
    go false e = get_or-set_other f base p 0 0 (eqb-false p base e)

pub not_stored : (base : ℕ) (f : List ℕ) → 64 ≤ base → (p : ℕ) → p < 64 → get_or f p 0 ≡ if (eqb p base) 0 (get_or f p 0)
not_stored base f l p h = rw (ne_eqb p base (omega arith))

pub positioned_below : (at base : ℕ) (f f' : List ℕ) (s : ℕ) → s ≡ only base → base < 64 → length f ≡ 64 → f' ≡ set f base 0
    → Positioned at base (record { at = at; end = base + 1; depth = 0; empty = false; first = s; last = s }) f f'
positioned_below at base f f' s e l full q = rw q (positioned at base f (set f base 0) s e (stored base f full l))

pub positioned_above : (at base : ℕ) (f f' : List ℕ) (s : ℕ) → s ≡ only base → 64 ≤ base → f' ≡ f
    → Positioned at base (record { at = at; end = base + 1; depth = 0; empty = false; first = s; last = s }) f f'
positioned_above at base f f' s e l q = rw q (positioned at base f f s e (not_stored base f l))

-- the bytes that it takes get its set
pub taken_one : (base : ℕ) (c : Position) (t t' : List ℕ) → Marked (takes c) (only base) t t' → Taken base (position c) t t'
taken_one base c t t' m = record { taken = λ b l. m.marked b l ∙ rw (takers_one base c b) (go (takes c b) (get_or t b 0)) }
  where
    go : (x : Bool) (a : ℕ) → if x (bit_or a (only base)) a ≡ bit_or a (if x (only base) 0)
    go true a = refl
    go false a = sym (or_zero_r a)

-- ---- what reading comes to

-- a position, from the part that is it, and from what its bytes got
pub position_read : (c : Position) (at base : ℕ) (p : Part) (s : ℕ) (f f' t t' : List ℕ) (test : ℕ → Bool) → s ≡ only base
    → Positioned at base p f f' → Marked test s t t' → ((b : ℕ) → b < 256 → test b ≡ takes c b)
    → ReadPosition c at base p t t' f f'
unfolding read_of
position_read c at base p s f f' t t' test e h m q text rest l =
    record {
      answer = ap Ok (h.part text rest c l);
      noted = λ d x y. let z : position c ≡ d = cc in subst (λ (d : Expression). Noted base d t t' f f') z noted;
    }
  where
    marks : Marked (takes c) (only base) t t'
    marks = subst (λ (x : ℕ). Marked (takes c) x t t') e (marked_same m q)

    noted : Noted base (position c) t t' f f'
    noted = record { taken = taken_one base c t t' marks; followed = h.followed c }

pub place_of_lem : (text : List ℕ) (at : ℕ) → at ≤ length text → place_of text (drop at text) ≡ at
place_of_lem text at l = rw length-drop (omega arith)

-- a fault
pub fault_read : (text : List ℕ) (base place : ℕ) (out : Parsed) (t t' f f' : List ℕ) → out ≡ faulty (drop place text) → place ≤ length text
    → Reads text base out (Err place) t t' f f'
unfolding read_of
fault_read text base place out t t' f f' e l =
    record { answer = rw (e, place_of_lem text place l); noted = λ d x y. let z : ◌≡◌ {A = ℕ} 0 1 = cc in absurd (omega arith) }

-- from the same outcome
pub reads_of : {text : List ℕ} {base : ℕ} {out out' : Parsed} {r : Result Part ℕ} {t t' f f' : List ℕ} → out ≡ out'
    → Reads text base out' r t t' f f' → Reads text base out r t t' f f'
reads_of {text} {base} {out} {out'} {r} {t} {t'} {f} {f'} e h = subst (λ (o : Parsed). Reads text base o r t t' f f') (sym e) h

-- what a byte's range and a period's two take
pub byte-takes : (c b : ℕ) → leb c b && leb b c ≡ takes (byte c) b
unfolding takes
byte-takes c b = same_test _ _ to fro
  where
    to : leb c b && leb b c ≡ true → eqb c b ≡ true
    to e = let h = and_true (leb c b) (leb b c) e in eq-eqb c b (omega (arith, leb-true c b h.0, leb-true b c h.1))

    fro : eqb c b ≡ true → leb c b && leb b c ≡ true
    fro e = let h : c ≡ b = eqb-true c b e in rw (le-leb c b (omega arith), le-leb b c (omega arith))

pub period_takes : (b : ℕ) → b < 256 → (leb 1 b && leb b 9) || (leb 11 b && leb b 255) ≡ takes period b
unfolding takes
period_takes b l = go (eqb b 0) refl (eqb b 10) refl
  where
    rest : (z : Bool) → leb 11 b ≡ z → eqb b 0 ≡ false → eqb b 10 ≡ false → (leb 1 b && leb b 9) || (leb 11 b && leb b 255) ≡ true
    rest true r p q = rw (r, le-leb b 255 (omega arith), or_true)
    rest false r p q =
        rw (le-leb 1 b (omega (arith, eqb-false b 0 p)), le-leb b 9 (omega (arith, eqb-false b 10 q, leb-false 11 b r)))

    go : (x : Bool) → eqb b 0 ≡ x → (y : Bool) → eqb b 10 ≡ y → (leb 1 b && leb b 9) || (leb 11 b && leb b 255) ≡ not (x || y)
    go true p y q = rw (eqb-true b 0 p)
    go false p true q = rw (eqb-true b 10 q)
    go false p false q = rest (leb 11 b) refl p q
