-- What begins a right expression and is made of bytes goes on to one by bytes alone: numbers above 255 may be 255. Assumes nothing.
use mathlib.Core.Path.{◌≡◌, refl}
use mathlib.Core.Bool.{Bool, true, false}
use mathlib.Core.List.{List, [], ◌∷◌, map, map-append}
use Prim.Native.Nat.{ℕ, ◌≤◌, ◌<◌, min}
use native.Mathlib.Omega.{arith}
use lib.Dec.{leb}
use borrow.Author.Tests.{leb-true, leb-false}
use Rattle.automaton.specs.Choice.{All}
use Rattle.automaton.proofs.Tests.{among-all}
use Rattle.expression.specs.Expression.{Range, byte, period, list, Expression, position, group, union, concat, star, plus, optional}
use Rattle.expression.specs.Spelling.{is_special, is_ordinary, is_listed, SpellsItem, single, ranged, SpellsItems, last, more}
use Rattle.expression.specs.Spelling.{Level, Spells, ordinary, escaped, any_byte, listed}
use Rattle.expression.specs.Spelling.{parenthesised, bare, starred, plussed, questioned, alone, followed, only, or, Begins}

abbrev IsByte : ℕ → Type 0
IsByte b = b < 256

abbrev clip : ℕ → ℕ
clip b = min b 255

-- clipped, it spells something
record Clipped (A : Type 0) (S : A → List ℕ → Type 0) (s : List ℕ) : Type 0 where
  what : A
  spells : S what (map clip s)

clip_kind : (f : ℕ → Bool) (b : ℕ) → f 255 ≡ true → f b ≡ true → f (clip b) ≡ true
clip_kind f b h c = go (leb b 255) refl
  where
    go : (l : Bool) → leb b 255 ≡ l → f (clip b) ≡ true
    go true e = let q : clip b ≡ b = omega (arith, leb-true b 255 e) in rw q c
    go false e = let q : clip b ≡ 255 = omega (arith, leb-false b 255 e) in rw q h

clip_special : (b : ℕ) → is_special b ≡ true → clip b ≡ b
unfolding is_special
clip_special b c =
    among-all (λ (x : ℕ). clip x ≡ x) b (94 ∷ 46 ∷ 91 ∷ 36 ∷ 40 ∷ 41 ∷ 124 ∷ 42 ∷ 43 ∷ 63 ∷ 123 ∷ 92 ∷ [])
    (omega arith) c

clip_bytes : (t : List ℕ) → All IsByte t → map clip t ≡ t
clip_bytes [] h = refl
clip_bytes (b ∷ t) (l, h) = let q : clip b ≡ b = omega arith in rw (q, clip_bytes t h)

clipped_bytes : (t : List ℕ) → All IsByte (map clip t)
clipped_bytes [] = tt
clipped_bytes (b ∷ t) = (omega arith, clipped_bytes t)

clip_item : {r : Range} {s : List ℕ} → SpellsItem r s → Clipped Range SpellsItem s
unfolding is_listed
clip_item (single {b} c) = record { what = record { low = clip b; high = clip b }; spells = single (clip_kind is_listed b refl c) }
clip_item (ranged {a} {b} c d l) =
    let m : clip a ≤ clip b = omega arith in
    record {
      what = record { low = clip a; high = clip b };
      spells = ranged (clip_kind is_listed a refl c) (clip_kind is_listed b refl d) m;
    }

clip_items : {rs : List Range} {s : List ℕ} → SpellsItems rs s → Clipped (List Range) SpellsItems s
clip_items (last h) = let k = clip_item h in record { what = k.what ∷ []; spells = last k.spells }
clip_items (more {s = s} {t = t} h k) =
    let i = clip_item h in let j = clip_items k in
    record { what = i.what ∷ j.what; spells = rw (map-append clip s t) (more i.spells j.spells) }

clip-spells : {level : Level} {e : Expression} {s : List ℕ} → Spells level e s → Clipped Expression (Spells level) s
unfolding is_ordinary is_special
clip-spells (ordinary {b} c) = record { what = position (byte (clip b)); spells = ordinary (clip_kind is_ordinary b refl c) }
clip-spells (escaped {b} c) = record { what = position (byte b); spells = rw (clip_special b c) (escaped c) }
clip-spells any_byte = record { what = position period; spells = any_byte }
clip-spells (listed {t = t} h) =
    let k = clip_items h in record { what = position (list k.what); spells = rw (map-append clip t (93 ∷ [])) (listed k.spells) }
clip-spells (parenthesised {t = t} h) =
    let k = clip-spells h in record { what = group k.what; spells = rw (map-append clip t (41 ∷ [])) (parenthesised k.spells) }
clip-spells (bare h) = let k = clip-spells h in record { what = k.what; spells = bare k.spells }
clip-spells (starred {t = t} h) =
    let k = clip-spells h in record { what = star k.what; spells = rw (map-append clip t (42 ∷ [])) (starred k.spells) }
clip-spells (plussed {t = t} h) =
    let k = clip-spells h in record { what = plus k.what; spells = rw (map-append clip t (43 ∷ [])) (plussed k.spells) }
clip-spells (questioned {t = t} h) =
    let k = clip-spells h in record { what = optional k.what; spells = rw (map-append clip t (63 ∷ [])) (questioned k.spells) }
clip-spells (alone h) = let k = clip-spells h in record { what = k.what; spells = alone k.spells }
clip-spells (followed {s = s} {t = t} h k) =
    let i = clip-spells h in let j = clip-spells k in
    record { what = concat i.what j.what; spells = rw (map-append clip s t) (followed i.spells j.spells) }
clip-spells (only h) = let k = clip-spells h in record { what = k.what; spells = only k.spells }
clip-spells (or {s = s} {t = t} h k) =
    let i = clip-spells h in let j = clip-spells k in
    record { what = union i.what j.what; spells = rw (map-append clip s (124 ∷ t)) (or i.spells j.spells) }

pub begins_bytes : (t : List ℕ) → All (λ (b : ℕ). b < 256) t → Begins t → (g : Begins t) × All (λ (b : ℕ). b < 256) g.behind
begins_bytes t h g =
    let k = clip-spells g.spells in (
      record {
        expression = k.what;
        behind = map clip g.behind;
        spells = rw (map-append clip t g.behind, clip_bytes t h) at k.spells;
      },
      clipped_bytes g.behind,
    )
