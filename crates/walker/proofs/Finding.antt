-- The search along a chain for the transition that covers a byte: the loop of `find`. Assumes nothing.
use mathlib.Core.Path.{◌≡◌, refl, sym, ◌∙◌}
use mathlib.Core.List.{List, [], ◌∷◌}
use mathlib.Core.Bool.{true, false}
use Prim.Native.Nat.{ℕ, ◌<◌, ◌≤◌}
use native.Mathlib.Omega.{arith}
use Rattle.std.specs.Prelude.{None, Some}
use Rattle.automaton.specs.Rule.{Transition, covers}
use Rattle.automaton.specs.Layers.{next_of, spot_of, to_of, edge_at, covers_word, Edge, Chain}
use Rattle.automaton.proofs.Chains.{Along, along_in, along_next, along_hit, along_end}
use Rattle.walker.specs.Layers.{pick, Finds}

same_covers : {tb : List ℕ} {h : ℕ} {t : Transition} (b : ℕ) → Edge tb h t → covers_word (edge_at tb h) b ≡ covers t b
same_covers b l = rw (l.low, l.high)

pick_none : (b error : ℕ) → error ≡ pick [] b error
unfolding pick
pick_none b error = refl

module _ {tb : List ℕ} {h : ℕ} (b error : ℕ) where
  pick_hit : {t : Transition} (us : List Transition) → Edge tb h t
      → covers_word (edge_at tb h) b ≡ true → to_of (edge_at tb h) ≡ pick (t ∷ us) b error
  unfolding pick
  pick_hit us l e = rw (sym (same_covers b l) ∙ e) l.to

  pick_miss : {t : Transition} (us : List Transition) → Edge tb h t
      → covers_word (edge_at tb h) b ≡ false → pick (t ∷ us) b error ≡ pick us b error
  unfolding pick
  pick_miss us l e = rw (sym (same_covers b l) ∙ e)

-- the walk from `head` for byte b stands at h
pub record Finding (tb : List ℕ) (head b h : ℕ) : Type 0 where
  pub below : h ≤ head
  pub along : (error : ℕ) → Along tb head h (λ (ts : List Transition). pick ts b error)

module _ {tb : List ℕ} {head b h : ℕ} (w : Finding tb head b h) where
  pub finding_next : {n : ℕ} → 0 < h → covers_word (edge_at tb h) b ≡ false → n ≡ next_of (edge_at tb h) → n < h → Finding tb head b n
  finding_next pos e q l =
      record {
        below = omega (arith, w.below);
        along = λ error. along_next (w.along error) pos (λ t us k. pick_miss b error us k e) q;
      }

  pub finding_hit : {p : ℕ} → 0 < h → covers_word (edge_at tb h) b ≡ true → p ≡ spot_of (edge_at tb h)
      → (first : ℕ) (ts : List Transition) → Chain tb first head ts → Finds tb first head ts b (Some p)
  finding_hit pos e q first ts c =
      record {
        link = h;
        some = pos;
        above = (along_in (w.along 0) first ts c pos).link.above;
        below = w.below;
        spot = q;
        to = λ error. sym (along_hit (w.along error) pos (λ t us k. pick_hit b error us k e) first ts c);
      }

  pub finding_end : h ≡ 0 → (first : ℕ) (ts : List Transition) → Chain tb first head ts → Finds tb first head ts b None
  finding_end z first ts c = λ error. sym (along_end (w.along error) z (pick_none b error) first ts c)
