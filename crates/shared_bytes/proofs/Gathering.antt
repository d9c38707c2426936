-- The bytes that rules of a kind cover and use: what holds at the head of each loop. Assumes nothing.
use mathlib.Core.Path.{◌≡◌, refl, ap, ◌∙◌}
use mathlib.Core.Bool.{Bool, true, false, ◌&&◌, ◌||◌}
use mathlib.Core.Option.{none}
use mathlib.Core.List.{List, [], ◌∷◌}
use Prim.Native.Nat.{ℕ, zero, suc, ◌+◌, ◌-◌, ◌≤◌, ◌<◌}
use native.Mathlib.Omega.{arith}
use native.Mathlib.Numerals.{add-one}
use lib.Dec.{eqb}
use lib.ListN.{length, get_or, take}
use lib.Seq.{take_all}
use borrow.Author.Count.{below_more}
use borrow.Author.Tests.{eqb-true}
use Rattle.automaton.specs.Choice.{any}
use Rattle.automaton.specs.Rule.{Transition, Rule, covers, used}
use Rattle.automaton.specs.Layers.{low_of, high_of, edge_at, Edge, Listed, blank, rule_at}
use Rattle.automaton.proofs.Tests.{clash, or_true, or_none, and_true, all_of, any_some, any-map}
use Rattle.byte_set.specs.Lowest.{lowest_from}
use Rattle.byte_set.specs.Layers.{Ranged, some_below}
use Rattle.byte_set.proofs.Marking.{lowest_same, not_from, some_not}
use Rattle.used_bytes.specs.Layers.{MarksAll}
use Rattle.used_bytes.proofs.Marking.{Together, together_next}
use Rattle.shared_bytes.specs.Kinds.{plain_kind, separator_kind}
use Rattle.shared_bytes.specs.Bytes.{used_by_kind, shared, shared_byte}
use Rattle.shared_bytes.specs.Layers.{Covers}

-- ---- the transitions of a rule, from the last to the first

-- those left are the ones from `first` to before `at`, and P holds of them
pub record Left (tb : List ℕ) (first at : ℕ) (P : List Transition → Type 0) : Type 0 where
  pub left : List Transition
  pub listed : Listed tb first at left
  pub holds : P left

module _ {tb : List ℕ} {first at : ℕ} {P : List Transition → Type 0} (w : Left tb first at P) where
  pub left_next : (Q : List Transition → Type 0) → first < at
      → ((u : Transition) (us : List Transition) → Edge tb (at - 1) u → P (u ∷ us) → Q us) → Left tb first (at - 1) Q
  left_next Q l f = go w.left w.listed w.holds
    where
      go : (us : List Transition) → Listed tb first at us → P us → Left tb first (at - 1) Q
      go [] c h = absurd (omega arith)
      go (u ∷ us) (p, e, c) h = record { left = us; listed = c; holds = f u us e h }

  pub left_end : at ≤ first → P []
  left_end l = go w.left w.listed w.holds
    where
      go : (us : List Transition) → Listed tb first at us → P us → P []
      go [] c h = h
      go (u ∷ us) (p, e, c) h = absurd (omega arith)

-- ---- covered bytes

abbrev pub Covering : List ℕ → ℕ → List Transition → List Bool → ℕ → List Bool → Type 0
Covering tb first ts before at set = Left tb first at (λ left. Together ts before left set)

pub covering_next : {tb : List ℕ} {first : ℕ} {ts : List Transition} {before : List Bool} {at : ℕ} {set : List Bool}
    → Covering tb first ts before at set → {low high : ℕ} {next : List Bool} → first < at → low ≡ low_of (edge_at tb (at - 1))
    → high ≡ high_of (edge_at tb (at - 1)) → Ranged low high set next → Covering tb first ts before (at - 1) next
covering_next {ts = ts} {before} w {next = next} l p q m =
    left_next w (λ left. Together ts before left next) l (λ u us e k. together_next k (p ∙ e.low) (q ∙ e.high) m)

-- what a rule uses it covers
used_covered : (r : Rule) (b : ℕ) → used r b ≡ true → any (λ (t : Transition). covers t b) r.transitions ≡ true
unfolding used
used_covered r b = any-map _ (λ (t : Transition). covers t b) (λ t e. (and_true (covers t b) _ e).0) r.transitions

module _ {rules : List Rule} {kind n : ℕ} {set : List Bool} (w : Covers rules kind n set) where
  pub covers_with : {set₁ : List Bool} → MarksAll (rule_at rules n).transitions set set₁ → Covers rules kind (n + 1) set₁
  covers_with {set₁} m =
      record {
        size = m.size;
        marks = below_more (λ (k : ℕ). (rule_at rules k).kind ≡ kind → (b : ℕ) → b < 256 → used (rule_at rules k) b ≡ true
            → get_or set₁ b false ≡ true) n
            (λ k l e b j u. m.marks b j ∙ rw (w.marks k l e b j u, or_true))
            (λ e b j u. m.marks b j ∙ rw (used_covered (rule_at rules n) b u));
      }

  pub covers_without : ((rule_at rules n).kind ≡ kind → ⊥) → Covers rules kind (n + 1) set
  covers_without ne =
      record {
        size = w.size;
        marks = below_more (λ (k : ℕ). (rule_at rules k).kind ≡ kind → (b : ℕ) → b < 256 → used (rule_at rules k) b ≡ true
            → get_or set b false ≡ true) n w.marks (λ e. absurd (ne e));
      }

covered : (rules : List Rule) (kind : ℕ) {set : List Bool} → Covers rules kind (length rules) set → (b : ℕ) → b < 256
    → used_by_kind kind rules b ≡ true → get_or set b false ≡ true
unfolding used_by_kind
covered rules kind w b l = any_some (λ (r : Rule). eqb r.kind kind && used r b) rules
    (all_of (λ (r : Rule). eqb r.kind kind && used r b ≡ true → _) rules blank
    (λ k j e. let a = and_true (eqb (rule_at rules k).kind kind) _ e in w.marks k j (eqb-true _ _ a.0) b l a.1))

-- where no byte is covered by both kinds none is shared
pub covers-apart : (rules : List Rule) {plain separators : List Bool} → Covers rules plain_kind (length rules) plain
    → Covers rules separator_kind (length rules) separators
    → some_below (λ (b : ℕ). get_or plain b false && get_or separators b false) 256 ≡ false → shared_byte rules ≡ none
unfolding shared_byte shared
covers-apart rules {plain} {separators} p s e =
    not_from (shared rules) 0 256 (λ b l. go b l (used_by_kind plain_kind rules b) refl (used_by_kind separator_kind rules b) refl)
  where
    go : (b : ℕ) → b < 256 → (x : Bool) → used_by_kind plain_kind rules b ≡ x → (y : Bool) → used_by_kind separator_kind rules b ≡ y
        → x && y ≡ false
    go b l true q true r =
        clash (rw (covered rules plain_kind p b l q, covered rules separator_kind s b l r))
        (some_not (λ (b : ℕ). get_or plain b false && get_or separators b false) 256 e b l)
    go b l true q false r = refl
    go b l false q y r = refl

-- ---- the rules of a kind

-- the first k rules
pub record Kinds (rules : List Rule) (kind k : ℕ) (marks : List Bool) : Type 0 where
  pub same : (b : ℕ) → b < 256 → get_or marks b false ≡ used_by_kind kind (take k rules) b

pub kinds_start : (rules : List Rule) (kind : ℕ) (marks : List Bool) → ((b : ℕ) → get_or marks b false ≡ false) → Kinds rules kind 0 marks
unfolding used_by_kind
kinds_start rules kind marks h = record { same = λ b l. h b }

any_more : (f : Rule → Bool) (rules : List Rule) (k : ℕ) → k < length rules
    → any f (take (suc k) rules) ≡ any f (take k rules) || f (rule_at rules k)
any_more f [] k l = absurd (omega arith)
any_more f (r ∷ rs) zero l = or_none (f r)
any_more f (r ∷ rs) (suc k) l = rw (any_more f rs k (omega arith)) (or_assoc (f r) _ _)
  where
    or_assoc : (x y z : Bool) → x || (y || z) ≡ (x || y) || z
    or_assoc true y z = refl
    or_assoc false y z = refl

pub kinds_next : {rules : List Rule} {kind k : ℕ} {marks next : List Bool} → Kinds rules kind k marks → k < length rules
    → (of : ℕ) → of ≡ (rule_at rules k).kind
    → ((b : ℕ) → b < 256 → get_or next b false ≡ get_or marks b false || eqb of kind && used (rule_at rules k) b)
    → Kinds rules kind (k + 1) next
unfolding used_by_kind
kinds_next {rules} {kind} {k} w l of e m =
    record {
      same = λ b p.
          m b p ∙ rw (add-one, any_more (λ (r : Rule). eqb r.kind kind && used r b) rules k l, w.same b p, e);
    }

pub kinds_end : {rules : List Rule} {kind k : ℕ} {marks : List Bool} → Kinds rules kind k marks → length rules ≤ k
    → (b : ℕ) → b < 256 → get_or marks b false ≡ used_by_kind kind rules b
kinds_end {rules} {kind} {k} w e b l = w.same b l ∙ ap (λ (rs : List Rule). used_by_kind kind rs b) (take_all k rules e)

-- ---- the lowest shared byte

pub shared-lowest : (rules : List Rule) (plain separators : ℕ → Bool) → ((b : ℕ) → b < 256 → plain b ≡ used_by_kind plain_kind rules b)
    → ((b : ℕ) → b < 256 → separators b ≡ used_by_kind separator_kind rules b) → lowest_from (λ b. plain b && separators b) 0 256
    ≡ shared_byte rules
unfolding shared_byte shared
shared-lowest rules plain separators p q =
    lowest_same (λ b. plain b && separators b) (λ b. used_by_kind plain_kind rules b && used_by_kind separator_kind rules b) 0 256
    (λ i l m. let k : i < 256 = omega arith in rw (p i k, q i k))
