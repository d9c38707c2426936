-- Where a text is wrong, the place is that of its first fault, and there is one such place. Assumes nothing.
use mathlib.Core.Path.{◌≡◌, refl, sym, ap, ◌∙◌, subst}
use mathlib.Core.List.{List, [], ◌∷◌, ◌++◌, append-nil, append_assoc}
use Prim.Native.Nat.{ℕ, ◌+◌, ◌-◌, ◌≤◌, ◌<◌}
use native.Mathlib.Omega.{arith}
use lib.ListN.{length, take, drop, length-append, take-append-drop}
use lib.Seq.{take_at, take-append-add, take-take}
use Rattle.expression.specs.Expression.{Expression}
use Rattle.expression.specs.Spelling.{alternatives, Spells, Begins}
use Rattle.expression.specs.Reading.{Parsed, parsed, faulty, read_as, Reading, right, wrong, whole, read_expression}
use Rattle.expression.specs.Faults.{FirstFault, Says}
use Rattle.expression.proofs.Sound.{sound, stuck, right-spells}
use Rattle.expression.proofs.Complete.{complete, spells-right}
use Rattle.expression.proofs.Local.{parsed_local, faulty_local}

-- a right expression, read to its end
begins_read : (s : List ℕ) (g : Begins s) → read_as alternatives (s ++ g.behind) ≡ parsed g.expression []
begins_read s g = rw (append-nil (s ++ g.behind)) at (complete g.spells [] tt)

wrong_spells_none : (text : List ℕ) {p : ℕ} → read_expression text ≡ wrong p → (e : Expression) → Spells alternatives e text → ⊥
wrong_spells_none text q e h = let r = spells-right text h in let z : ◌≡◌ {A = ℕ} 0 1 = cc in omega arith

-- the byte behind `s` is not taken, whatever follows it
abbrev Untaken : List ℕ → List ℕ → Type 0
Untaken s [] = Unit {0}
Untaken s (b ∷ u) = (v : List ℕ) (e : Expression) → read_as alternatives (s ++ b ∷ v) ≡ parsed e [] → ⊥

at_rest : (text : List ℕ) {p : ℕ} → read_expression text ≡ wrong p → (s rest : List ℕ) → text ≡ s ++ rest → p ≡ length text - length rest
    → Begins s → Untaken s rest → FirstFault text p
at_rest text {p} q s rest split place g = go rest split place
  where
    here : (x : List ℕ) → text ≡ s ++ x → p ≡ length text - length x → p ≡ length s
    here x e l = omega (arith, ap length e, length-append s x)

    front : (x : List ℕ) → text ≡ s ++ x → p ≡ length s → Begins (take p text)
    front x e l = rw (e, take_at s x p (sym l)) g

    go : (x : List ℕ) → text ≡ s ++ x → p ≡ length text - length x → Untaken s x → FirstFault text p
    go [] e l n = record {
      within = omega arith;
      before = front [] e (here [] e l);
      fault = λ m h. omega arith;
      spells_none = wrong_spells_none text q;
    }
    go (b ∷ u) e l n = record {
      within = omega arith;
      before = front (b ∷ u) e (here (b ∷ u) e l);
      fault = λ m h.
          let more : take (p + 1) text ≡ s ++ b ∷ [] = rw (e, here (b ∷ u) e l, take-append-add s (b ∷ u) 1) in
          n h.behind h.expression (rw (more, append_assoc s (b ∷ []) h.behind) at (begins_read (take (p + 1) text) h));
      spells_none = wrong_spells_none text q;
    }

reading_at : (text : List ℕ) (r : Parsed) → read_as alternatives text ≡ r → (n : Reading) → read_expression text ≡ n
    → whole (length text) r ≡ n → Says text n
unfolding whole
reading_at text (parsed e []) r n q w = subst (Says text) w (right-spells text (q ∙ sym w))
reading_at text (parsed e (b ∷ u)) r n q w =
    let k = sound alternatives text r in
    subst (Says text) w
    (at_rest text (q ∙ sym w) k.text (b ∷ u) k.splits refl
    (record { expression = e; behind = []; spells = rw append-nil k.spells })
    (λ v f z.
    let y = parsed_local b u v alternatives k.text (rw k.splits at r) in
    let c : ◌≡◌ {A = ℕ} 0 1 = cc in omega arith))
reading_at text (faulty rest) r n q w =
    let k = stuck alternatives text r in
    subst (Says text) w
    (at_rest text (q ∙ sym w) k.text rest k.splits refl
    (record { expression = k.what; behind = k.behind; spells = subst (Spells alternatives k.what) k.begins k.spells })
    (untaken k.text rest (rw k.splits at r)))
  where
    untaken : (s x : List ℕ) → read_as alternatives (s ++ x) ≡ faulty x → Untaken s x
    untaken s [] y = tt
    untaken s (b ∷ u) y = λ v f z. let l = faulty_local b u v alternatives s y in let c : ◌≡◌ {A = ℕ} 0 1 = cc in omega arith

-- ---- the laws

-- What a text is read as: an expression that it spells, or the place of its first fault.
pub reading_says : (text : List ℕ) → Says text (read_expression text)
unfolding read_expression
reading_says text = reading_at text (read_as alternatives text) refl (read_expression text) refl refl

pub wrong_first : (text : List ℕ) {place : ℕ} → read_expression text ≡ wrong place → FirstFault text place
wrong_first text q = subst (Says text) q (reading_says text)

-- a beginning of a beginning
pub begins_front : (text : List ℕ) (m n : ℕ) → m ≤ n → Begins (take n text) → Begins (take m text)
begins_front text m n l g = record {
  expression = g.expression;
  behind = drop m (take n text) ++ g.behind;
  spells = rw (← append_assoc (take m text) (drop m (take n text)) g.behind, ← take-take m n text l, take-append-drop m (take n text))
      g.spells;
}

not_before : (text : List ℕ) (m n : ℕ) → FirstFault text m → FirstFault text n → m < n → ⊥
not_before text m n f g l = f.fault (omega (arith, g.within)) (begins_front text (m + 1) n (omega arith) g.before)

-- A text has one first fault at most.
pub first_one : (text : List ℕ) (m n : ℕ) → FirstFault text m → FirstFault text n → m ≡ n
first_one text m n f g = omega (arith, not_before text n m g f, not_before text m n f g)

pub first_wrong : (text : List ℕ) {place : ℕ} → FirstFault text place → read_expression text ≡ wrong place
first_wrong text {place} f = go (read_expression text) (reading_says text)
  where
    go : (n : Reading) → Says text n → n ≡ wrong place
    go (right e) h = absurd (f.spells_none e h)
    go (wrong p) h = ap wrong (first_one text p place h f)
