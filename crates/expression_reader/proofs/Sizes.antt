-- How many positions and how deep parentheses what was read has, and what it leaves of the text. Assumes nothing.
use mathlib.Core.Path.{◌≡◌, refl, sym, ap, ◌∙◌}
use mathlib.Core.Bool.{Bool, true, false}
use mathlib.Core.List.{List, [], ◌∷◌, ◌++◌, append_assoc}
use Prim.Native.Nat.{ℕ, suc, ◌+◌, ◌≤◌, ◌<◌}
use native.Mathlib.Omega.{arith}
use lib.Dec.{ltb}
use lib.ListN.{length, take, drop, length-append, length-drop, take-append-drop}
use lib.Seq.{drop_at}
use Rattle.automaton.specs.Choice.{if}
use Rattle.expression.specs.Expression.{Expression}
use Rattle.expression.specs.Spelling.{Level, Spells, ordinary, escaped, any_byte, listed, parenthesised, bare, starred, plussed, questioned}
use Rattle.expression.specs.Spelling.{alone, followed, only, or}
use Rattle.expression.specs.Reading.{parsed, read_as}
use Rattle.expression.proofs.Sound.{sound, spells-byte}
use Rattle.positions.specs.Positions.{size, depth, larger}
use Rattle.position_reader.specs.Layers.{place_of, Ready}
use Rattle.expression_reader.specs.Layers.{Tail}

-- ---- of what is spelled

pub spells-size : {level : Level} {e : Expression} {s : List ℕ} → Spells level e s → size e ≤ length s
unfolding size
spells-size (ordinary c) = omega arith
spells-size (escaped c) = omega arith
spells-size any_byte = omega arith
spells-size (listed h) = omega arith
spells-size (parenthesised {t = t} h) = let l = spells-size h in simp length-append (omega arith)
spells-size (bare h) = spells-size h
spells-size (starred {t = t} h) = let l = spells-size h in simp length-append (omega arith)
spells-size (plussed {t = t} h) = let l = spells-size h in simp length-append (omega arith)
spells-size (questioned {t = t} h) = let l = spells-size h in simp length-append (omega arith)
spells-size (alone h) = spells-size h
spells-size (followed {s = s} h k) = let l = spells-size h in let m = spells-size k in simp length-append (omega arith)
spells-size (only h) = spells-size h
spells-size (or {s = s} h k) = let l = spells-size h in let m = spells-size k in simp length-append (omega arith)

larger-le : (m n a b : ℕ) → m ≤ a → n ≤ b → larger m n ≤ a + b
larger-le m n a b h k = go (ltb m n)
  where
    go : (t : Bool) → if t n m ≤ a + b
    go true = omega arith
    go false = omega arith

pub spells-depth : {level : Level} {e : Expression} {s : List ℕ} → Spells level e s → depth e ≤ length s
unfolding depth
spells-depth (ordinary c) = omega arith
spells-depth (escaped c) = omega arith
spells-depth any_byte = omega arith
spells-depth (listed h) = omega arith
spells-depth (parenthesised {t = t} h) = let l = spells-depth h in simp length-append (omega arith)
spells-depth (bare h) = spells-depth h
spells-depth (starred {t = t} h) = let l = spells-depth h in simp length-append (omega arith)
spells-depth (plussed {t = t} h) = let l = spells-depth h in simp length-append (omega arith)
spells-depth (questioned {t = t} h) = let l = spells-depth h in simp length-append (omega arith)
spells-depth (alone h) = spells-depth h
spells-depth (followed {e} {f} {s} {t} h k) =
    rw (length-append s t) (larger-le (depth e) (depth f) (length s) (length t) (spells-depth h) (spells-depth k))
spells-depth (only h) = spells-depth h
spells-depth (or {e} {f} {s} {t} h k) =
    rw (length-append s (124 ∷ t))
    (larger-le (depth e) (depth f) (length s) (suc (length t)) (spells-depth h) (omega (arith, spells-depth k)))

-- ---- of what is read

module _ (level : Level) (t : List ℕ) {e : Expression} {rest : List ℕ} (q : read_as level t ≡ parsed e rest) where
  lengths : length t ≡ length (sound level t q).text + length rest
  lengths = ap length (sound level t q).splits ∙ length-append (sound level t q).text rest

  pub read_size : size e + length rest ≤ length t
  read_size = omega (arith, lengths, spells-size (sound level t q).spells)

  pub read_depth : depth e + length rest ≤ length t
  read_depth = omega (arith, lengths, spells-depth (sound level t q).spells)

  pub read_shorter : length rest < length t
  read_shorter = omega (arith, lengths, spells-byte (sound level t q).spells)

-- ---- what is left

pub tail_split : (text front rest : List ℕ) → text ≡ front ++ rest → Tail text rest
tail_split text front rest e = record {
  short = omega (arith, ap length e, length-append front rest);
  same = rw e (drop_at front rest (place_of (front ++ rest) rest) (omega (arith, length-append front rest)));
}

pub tail_drop : (text : List ℕ) (at : ℕ) → Tail text (drop at text)
tail_drop text at = tail_split text (take at text) (drop at text) (sym (take-append-drop at text))

pub place-drop : (text : List ℕ) (at : ℕ) → at ≤ length text → place_of text (drop at text) ≡ at
place-drop text at h = rw (length-drop at text) (omega arith)

-- behind the start of a tail
pub tail_more : (text t front rest : List ℕ) → Tail text t → t ≡ front ++ rest → Tail text rest
tail_more text t front rest h e = tail_split text (take (place_of text t) text ++ front) rest
    (sym (take-append-drop (place_of text t) text) ∙ ap (λ (x : List ℕ). take (place_of text t) text ++ x) (h.same ∙ e)
    ∙ sym (append_assoc (take (place_of text t) text) front rest))

pub tail_next : (text : List ℕ) (b : ℕ) (t : List ℕ) → Tail text (b ∷ t) → Tail text t
tail_next text b t h = tail_more text (b ∷ t) (b ∷ []) t h refl

module _ (text t : List ℕ) (tail : Tail text t) (level : Level) {e : Expression} {rest : List ℕ} (q : read_as level t ≡ parsed e rest) where
  pub read_tail : Tail text rest
  read_tail = tail_more text t (sound level t q).text rest tail (sound level t q).splits

  pub read_place : place_of text t < place_of text rest
  read_place = omega (arith, read_shorter level t q, tail.short)

  pub read_deep : depth e ≤ place_of text rest
  read_deep = omega (arith, read_depth level t q, tail.short)

  pub read_counted : place_of text t + size e ≤ place_of text rest
  read_counted = omega (arith, read_size level t q, tail.short)

-- from a place on
module _ (text : List ℕ) (at : ℕ) (inside : at ≤ length text) (level : Level) {e : Expression} {rest : List ℕ}
    (q : read_as level (drop at text) ≡ parsed e rest)
  where
    pub drop_tail : Tail text rest
    drop_tail = read_tail text (drop at text) (tail_drop text at) level q

    pub drop-place : (at < place_of text rest) × (place_of text rest ≤ length text)
    drop-place =
        let l : place_of text (drop at text) < place_of text rest = read_place text (drop at text) (tail_drop text at) level q in
        (omega (arith, l, place-drop text at inside), omega arith)

    pub drop_deep : depth e ≤ place_of text rest
    drop_deep = read_deep text (drop at text) (tail_drop text at) level q

    pub drop_ready : {base : ℕ} → Ready text at base → Ready text (place_of text rest) (base + size e)
    drop_ready h = record {
      inside = omega arith;
      counted = omega (arith, read_counted text (drop at text) (tail_drop text at) level q, place-drop text at inside, h.counted);
    }
