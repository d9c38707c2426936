-- What `extends` and `choose` say. Assumes nothing.
use mathlib.Core.Path.{◌≡◌, refl, sym, ap, ◌∙◌, subst}
use mathlib.Core.Bool.{Bool, true, false, ◌||◌}
use mathlib.Core.Option.{Option, none, some}
use mathlib.Core.Logic.{◌⊎◌, inl, inr}
use mathlib.Core.List.{List, [], ◌∷◌, ◌++◌, append_assoc}
use Prim.Native.Nat.{ℕ, zero, suc, ◌+◌, ◌-◌, ◌≤◌, ◌<◌}
use native.Mathlib.Omega.{arith}
use lib.ListN.{length, take, drop, length-append}
use lib.Seq.{take-append-add, take-append_seam, drop-append_seam}
use Rattle.automaton.specs.Choice.{All}
use Rattle.automaton.specs.Rule.{Rule, matches}
use Rattle.automaton.proofs.Tests.{clash, or_true, or_false}
use Rattle.longest_match.specs.Lexer.{Found, or, found, is_some, first_match, choose, extends, Alone}
use Rattle.longest_match.proofs.First.{nothing, none_of, Earliest, earliest, unmatched}
use Rattle.longest_match.proofs.Longest.{grow, choose-grow}

or_cases : {A : Type 0} (x y : Option A) (a : A) → or x y ≡ some a → (x ≡ some a) ⊎ ((x ≡ none) × (y ≡ some a))
or_cases (some b) y a e = inl e
or_cases none y a e = inr (refl, e)

is_some_or : (o : Option ℕ) (x : Option Found) (w rest : List ℕ) → is_some (or x (found o w rest)) ≡ is_some o || is_some x
is_some_or none none w rest = refl
is_some_or none (some f) w rest = refl
is_some_or (some t) none w rest = refl
is_some_or (some t) (some f) w rest = refl

-- `extends` asks whether `grow` finds anything
pub extends-grow : (rules : List Rule) (w after : List ℕ) → extends rules w after ≡ is_some (grow rules w after)
unfolding extends grow
extends-grow rules w [] = refl
extends-grow rules w (b ∷ after) = rw (is_some_or, extends-grow rules (w ++ (b ∷ [])) after)

-- what `grow` finds
record Grown (rules : List Rule) (w after : List ℕ) (f : Found) : Type 0 where
  first : ℕ
  more : List ℕ
  splits : after ≡ first ∷ more ++ f.rest
  grows : f.token.bytes ≡ w ++ first ∷ more
  alone : first_match rules f.token.bytes ≡ some f.token.tag
  stops : extends rules f.token.bytes f.rest ≡ false

-- where the last byte taken is b
here : (rules : List Rule) (w : List ℕ) (b : ℕ) (after : List ℕ) (f : Found) (o : Option ℕ) → first_match rules (w ++ (b ∷ [])) ≡ o
    → grow rules (w ++ (b ∷ [])) after ≡ none → found o (w ++ (b ∷ [])) after ≡ some f → Grown rules w (b ∷ after) f
here rules w b after f none m g e = nothing refl e
here rules w b after f (some t) m g e =
    let p : record { token = record { tag = t; bytes = w ++ (b ∷ []) }; rest = after } ≡ f = cc in
    subst (Grown rules w (b ∷ after)) p record {
      first = b;
      more = [];
      splits = refl;
      grows = refl;
      alone = m;
      stops = rw (extends-grow, g);
    }

grown : (rules : List Rule) (w after : List ℕ) (f : Found) → grow rules w after ≡ some f → Grown rules w after f
unfolding grow
grown rules w [] f e = nothing refl e
grown rules w (b ∷ after) f e =
    elim (or_cases (grow rules (w ++ (b ∷ [])) after) (found (first_match rules (w ++ (b ∷ []))) (w ++ (b ∷ [])) after) f e) [
      | inl g ↦ (let h = grown rules (w ++ (b ∷ [])) after f g in
          record {
            first = b;
            more = h.first ∷ h.more;
            splits = cc;
            grows = cc (append_assoc w (b ∷ []) (h.first ∷ h.more));
            alone =
                h.alone;
            stops = h.stops;
          })
      | inr g ↦ here rules w b after f _ refl g.0 g.1
    ]

-- where the match ends, `grow` finds it
grow_at : (rules : List Rule) (w : List ℕ) (b : ℕ) (p rest : List ℕ) (tag : ℕ) → first_match rules (w ++ b ∷ p) ≡ some tag
    → extends rules (w ++ b ∷ p) rest ≡ false
    → grow rules w (b ∷ p ++ rest) ≡ some record { token = record { tag = tag; bytes = w ++ b ∷ p }; rest = rest }
unfolding grow
grow_at rules w b [] rest tag m x =
    let g : grow rules (w ++ (b ∷ [])) rest ≡ none = none_of _ (rw (← extends-grow) x) in rw (g, m)
grow_at rules w b (c ∷ p) rest tag m x =
    rw (grow_at rules (w ++ (b ∷ [])) c p rest tag (rw append_assoc m) (rw append_assoc x), append_assoc)

-- a stretch that a rule matches and that nothing extends is what is chosen
pub choose_at : (rules : List Rule) (w rest : List ℕ) (tag : ℕ) → first_match rules [] ≡ none → first_match rules w ≡ some tag
    → extends rules w rest ≡ false → choose rules (w ++ rest) ≡ some record { token = record { tag = tag; bytes = w }; rest = rest }
choose_at rules [] rest tag e m x = nothing e m
choose_at rules (b ∷ w) rest tag e m x = choose-grow rules (b ∷ w ++ rest) ∙ grow_at rules [] b w rest tag m x

chosen : (rules : List Rule) (text : List ℕ) (f : Found) → choose rules text ≡ some f → Grown rules [] text f
chosen rules text f e = grown rules [] text f (sym (choose-grow rules text) ∙ e)

pub chosen_splits : (rules : List Rule) (text : List ℕ) (f : Found) → choose rules text ≡ some f → f.token.bytes ++ f.rest ≡ text
chosen_splits rules text f e = let g = chosen rules text f e in rw g.grows (sym g.splits)

pub chosen_shorter : (rules : List Rule) (text : List ℕ) (f : Found) → choose rules text ≡ some f → length f.rest < length text
chosen_shorter rules text f e = let g = chosen rules text f e in rw g.splits (simp length-append (omega arith))

-- ---- `extends` and `choose` are what they say

-- no rule matches w with any of the bytes after it
pub extends_false : (rules : List Rule) (w after : List ℕ) → extends rules w after ≡ false
    → (n : ℕ) → 0 < n → n ≤ length after → first_match rules (w ++ take n after) ≡ none
unfolding extends
extends_false rules w [] e n p l = absurd (omega arith)
extends_false rules w (b ∷ after) e zero p l = absurd (omega arith)
extends_false rules w (b ∷ after) e (suc zero) p l = none_of _ (or_false _ _ e).0
extends_false rules w (b ∷ after) e (suc (suc n)) p l =
    rw append_assoc at
    (extends_false rules (w ++ (b ∷ [])) after (or_false (is_some (first_match rules (w ++ (b ∷ [])))) _ e).1 (suc n) (omega arith)
    (omega arith))

-- what is not read on into some bytes is not read on into the first of them
pub extends-front : (rules : List Rule) (w after behind : List ℕ) → extends rules w (after ++ behind) ≡ false
    → extends rules w after ≡ false
unfolding extends
extends-front rules w [] behind e = refl
extends-front rules w (b ∷ after) behind e =
    let h = or_false (is_some (first_match rules (w ++ (b ∷ [])))) _ e in
    rw h.0 (extends-front rules (w ++ (b ∷ [])) after behind h.1)

-- some rule matches w with the bytes `first ∷ more` after it
pub record Longer (rules : List Rule) (w after : List ℕ) : Type 0 where
  pub first : ℕ
  pub more : List ℕ
  pub behind : List ℕ
  pub splits : after ≡ first ∷ more ++ behind
  pub matched : is_some (first_match rules (w ++ first ∷ more)) ≡ true

longer_if : (rules : List Rule) (w : List ℕ) (b : ℕ) (after : List ℕ) (c : Bool) → is_some (first_match rules (w ++ (b ∷ []))) ≡ c
    → (extends rules (w ++ (b ∷ [])) after ≡ true → Longer rules (w ++ (b ∷ [])) after) → c || extends rules (w ++ (b ∷ [])) after ≡ true
    → Longer rules w (b ∷ after)
longer_if rules w b after true m h e = record { first = b; more = []; behind = after; splits = refl; matched = m }
longer_if rules w b after false m h e = let l = h e in
    record { first = b; more = l.first ∷ l.more; behind = l.behind; splits = cc; matched = rw append_assoc at l.matched }

pub extends_true : (rules : List Rule) (w after : List ℕ) → extends rules w after ≡ true → Longer rules w after
unfolding extends
extends_true rules w [] e = clash e refl
extends_true rules w (b ∷ after) e = longer_if rules w b after _ refl (extends_true rules (w ++ (b ∷ [])) after) e

pub extends_longer : (rules : List Rule) (w : List ℕ) (b : ℕ) (more behind : List ℕ) → is_some (first_match rules (w ++ b ∷ more)) ≡ true
    → extends rules w (b ∷ more ++ behind) ≡ true
unfolding extends
extends_longer rules w b [] behind m = rw m
extends_longer rules w b (c ∷ more) behind m = rw (extends_longer rules (w ++ (b ∷ [])) c more behind (rw append_assoc m), or_true)

-- what is chosen: a stretch of at least one byte that its tag's rule matches and no earlier one does; no longer one is matched by any rule
pub record Chosen (rules : List Rule) (text : List ℕ) (f : Found) : Type 0 where
  pub splits : f.token.bytes ++ f.rest ≡ text
  pub moves : 0 < length f.token.bytes
  pub within : length f.token.bytes ≤ length text
  pub earliest : Earliest rules f.token.bytes f.token.tag
  pub alone : Alone rules f.token
  pub stops : extends rules f.token.bytes f.rest ≡ false
  pub longest : (n : ℕ) → length f.token.bytes < n → n ≤ length text → All (λ (q : Rule). matches q (take n text) ≡ false) rules

module _ (rules : List Rule) (text : List ℕ) (f : Found) (e : choose rules text ≡ some f) where
  pub choose_some : Chosen rules text f
  choose_some =
      let g = chosen rules text f e in
      let sp = chosen_splits rules text f e in
      let lengths = simp length-append at (ap length sp) in
      record {
        splits = sp;
        moves = rw g.grows (omega arith);
        within = omega arith;
        earliest = earliest rules f.token.bytes f.token.tag g.alone;
        alone = g.alone;
        stops = g.stops;
        longest = λ n p l.
            let q : n ≡ length f.token.bytes + (n - length f.token.bytes) = omega arith in
            let z : first_match rules (take n text) ≡ none =
            rw (q, ← sp, take-append-add) (extends_false rules f.token.bytes f.rest g.stops (n - length f.token.bytes) (omega arith)
            (omega arith)) in
            unmatched rules (take n text) z;
      }

  -- token and rest by their place in the text
  pub chosen_take : f.token.bytes ≡ take (length f.token.bytes) text
  chosen_take = rw (← chosen_splits rules text f e) (sym (take-append_seam f.token.bytes f.rest))

  pub chosen_drop : f.rest ≡ drop (length f.token.bytes) text
  chosen_drop = rw (← chosen_splits rules text f e) (sym (drop-append_seam f.token.bytes f.rest))

-- nothing is chosen where no rule matches a non-empty beginning
pub choose_none : (rules : List Rule) (text : List ℕ) → choose rules text ≡ none
    → (n : ℕ) → 0 < n → n ≤ length text → All (λ (q : Rule). matches q (take n text) ≡ false) rules
choose_none rules text e n p l = unmatched rules (take n text) (extends_false rules [] text (rw (extends-grow, ← choose-grow, e)) n p l)

-- ---- whether a token of a printed text is extended, by what is chosen at its place

module _ (rules : List Rule) (w after : List ℕ) (f : Found) (e : choose rules (w ++ after) ≡ some f) where
  pub extends_no : length f.token.bytes ≡ length w → extends rules w after ≡ false
  extends_no l =
      let b : f.token.bytes ≡ w = chosen_take rules (w ++ after) f e ∙ rw (l, take-append_seam) in
      let r : f.rest ≡ after = chosen_drop rules (w ++ after) f e ∙ rw (l, drop-append_seam) in
      rw (← b, ← r) (choose_some rules (w ++ after) f e).stops

  pub extends_yes : (tag : ℕ) → first_match rules [] ≡ none → first_match rules w ≡ some tag → (length f.token.bytes ≡ length w → ⊥)
      → extends rules w after ≡ true
  extends_yes tag z m l = go (extends rules w after) refl
    where
      go : (b : Bool) → extends rules w after ≡ b → b ≡ true
      go true x = refl
      go false x =
          let q = choose_at rules w after tag z m x in
          let k : f ≡ record { token = record { tag = tag; bytes = w }; rest = after } = cc in
          absurd (l (ap (λ (g : Found). length g.token.bytes) k))
