-- The fault of one token, by the number of its rule and what is chosen of its bytes. Assumes nothing.
use Rattle.answer.specs.declared.Reason.{Reason}
use Rattle.answer.specs.declared.Reason.TheVariants.{PastThePool, UnknownTag, NotAlone}
use Rattle.std.specs.Prelude.{Some, None}
use mathlib.Core.Path.{◌≡◌, refl, sym, ap, ◌∙◌, subst}
use mathlib.Core.Bool.{Bool, true, false, not}
use mathlib.Core.Option.{Option, none, some}
use mathlib.Core.List.{List, [], ◌∷◌, ◌++◌, append-nil}
use mathlib.Core.Logic.{◌⊎◌, inl, inr}
use Prim.Native.Nat.{ℕ, zero, suc, ◌+◌, ◌<◌, ◌≤◌}
use native.Mathlib.Nat.{eq-zero-or-pos}
use native.Mathlib.Omega.{arith}
use lib.Dec.{ltb, eqb}
use lib.ListN.{length, take, drop, length-drop}
use lib.Seq.{length-take-le, take-append_seam}
use borrow.Author.Tests.{lt-ltb, le-ltb, ltb-true, ltb-false, eq-eqb}
use Rattle.automaton.specs.Choice.{if}
use Rattle.automaton.specs.Rule.{Rule, matches}
use Rattle.automaton.specs.Layers.{rule_at, Holds, Ranks}
use Rattle.automaton.proofs.Tests.{clash}
use Rattle.book.specs.Draft.{tagged}
use Rattle.book.proofs.Ranking.{ranks_none, ranks_some}
use Rattle.longest_match.specs.Lexer.{Found, first_match, choose, extends}
use Rattle.longest_match.specs.Layers.{front, Chooses}
use Rattle.longest_match.proofs.First.{nothing}
use Rattle.longest_match.proofs.Held.{held_empty}
use Rattle.longest_match.proofs.Choosing.{choose_at}
use Rattle.record.specs.declared.TokenRecord.{TokenRecord}
use Rattle.record.specs.Tokens.{bytes_in}
use Rattle.token_list.specs.Faults.{alone_in, fault_of}
use Rattle.token_list.specs.Layers.{fault_for}
use Rattle.token_list.proofs.Alone.{alone_first}

-- ---- by the number of the tag's rule

alone_here : (rules : List Rule) (tag : ℕ) (w : List ℕ) (k : ℕ) → k < length rules → (rule_at rules k).tag ≡ tag
    → ((j : ℕ) → j < k → eqb (rule_at rules j).tag tag ≡ false) → matches (rule_at rules k) w ≡ true
    → ((j : ℕ) → j < k → matches (rule_at rules j) w ≡ false) → alone_in rules tag w ≡ true
unfolding alone_in
alone_here [] tag w k l e h m n = absurd (omega arith)
alone_here (r ∷ rs) tag w zero l e h m n = rw (eq-eqb _ _ e, m)
alone_here (r ∷ rs) tag w (suc k) l e h m n =
    rw (h 0 (omega arith), n 0 (omega arith)) (alone_here rs tag w k (omega arith) e (λ j p. h (suc j) (omega arith)) m
    (λ j p. n (suc j) (omega arith)))

-- what is alone is matched by its rule and by no earlier one
alone_matches : (rules : List Rule) (tag : ℕ) (w : List ℕ) (k : ℕ) → k < length rules → (rule_at rules k).tag ≡ tag
    → ((j : ℕ) → j < k → eqb (rule_at rules j).tag tag ≡ false) → alone_in rules tag w ≡ true
    → (matches (rule_at rules k) w ≡ true) × ((j : ℕ) → j < k → matches (rule_at rules j) w ≡ false)
unfolding alone_in
alone_matches [] tag w k l e h a = absurd (omega arith)
alone_matches (r ∷ rs) tag w zero l e h a = (rw (eq-eqb _ _ e) at a, λ j p. absurd (omega arith))
alone_matches (r ∷ rs) tag w (suc k) l e h a =
    go (matches r w) refl (alone_matches rs tag w k (omega arith) e (λ j p. h (suc j) (omega arith))) (rw (h 0 (omega arith)) at a)
  where
    Rest : Type 0
    Rest = (matches (rule_at rs k) w ≡ true) × ((j : ℕ) → j < k → matches (rule_at rs j) w ≡ false)

    go : (m : Bool) → matches r w ≡ m → (alone_in rs tag w ≡ true → Rest) → if m false (alone_in rs tag w) ≡ true
        → (matches (rule_at rs k) w ≡ true) × ((j : ℕ) → j < suc k → matches (rule_at (r ∷ rs) j) w ≡ false)
    go true m ih z = clash z refl
    go false m ih z = let y = ih z in (y.0, each y.1)
      where
        each : ((j : ℕ) → j < k → matches (rule_at rs j) w ≡ false) → (j : ℕ) → j < suc k → matches (rule_at (r ∷ rs) j) w ≡ false
        each f zero p = m
        each f (suc j) p = f j (omega arith)

refuted : (b : Bool) → (b ≡ true → ⊥) → b ≡ false
refuted true h = absurd (h refl)
refuted false h = refl

apart : (a b : ℕ) → (a ≡ b → ⊥) → (a < b) ⊎ (b < a)
apart a b ne = go (ltb a b) refl
  where
    go : (t : Bool) → ltb a b ≡ t → (a < b) ⊎ (b < a)
    go true e = inl (ltb-true a b e)
    go false e = let l = ltb-false a b e in inr (omega arith)

module _ {rules : List Rule} {tag k : ℕ} (r : Ranks rules tag k) where
  ranked : (k ≡ length rules → ⊥) → k < length rules
  ranked ne = omega (arith, r.within)

  module _ (known : k ≡ length rules → ⊥) where
    -- as many bytes are chosen at the front of a text as w has
    module _ (w after : List ℕ) {rule len : ℕ} (c : Chooses rules (w ++ after) rule len) (some_byte : len ≡ 0 → ⊥) (all : len ≡ length w)
      where
        at_all : take len (w ++ after) ≡ w
        at_all = rw (all, take-append_seam)

        first : 0 < len
        first = omega arith

        pub front_other : (rule ≡ k → ⊥) → alone_in rules tag w ≡ false
        front_other ne = refuted _ (λ a.
            let y = alone_matches rules tag w k (ranked known) (r.here (ranked known)) r.earlier a in
            elim (apart rule k ne) [
              | inl l ↦ clash (rw at_all at (c.matched first)) (y.1 rule l)
              | inr l ↦ clash y.0 (rw at_all at (c.earlier first k l))
            ])

        pub front_same : rule ≡ k → alone_in rules tag w ≡ true
        front_same e = alone_here rules tag w k (ranked known) (r.here (ranked known)) r.earlier
            (rw (e, at_all) at (c.matched first)) (λ j p. rw at_all at (c.earlier first j (omega arith)))

    module _ (empty : first_match rules [] ≡ none) {w : List ℕ} {rule len : ℕ} (c : Chooses rules w rule len) where
      -- what is alone is chosen whole
      whole : alone_in rules tag w ≡ true → choose rules w ≡ some (record { token = record { tag = tag; bytes = w }; rest = [] })
      unfolding extends
      whole a = rw append-nil at (choose_at rules w [] tag empty (alone_first rules tag w a) refl)

      pub alone_idle : len ≡ 0 → alone_in rules tag w ≡ false
      alone_idle e = refuted _ (λ a. nothing (c.nothing e) (whole a))

      pub alone_part : (len ≡ length w → ⊥) → alone_in rules tag w ≡ false
      alone_part ne = refuted _ (λ a. elim (eq-zero-or-pos len) [
        | inl e ↦ nothing (c.nothing e) (whole a)
        | inr p ↦ (let q = sym (c.chosen p) ∙ whole a in
            let g : front (rule_at rules rule).tag len w ≡ record { token = record { tag = tag; bytes = w }; rest = [] } = cc in
            let t : take len w ≡ w = ap (λ (f : Found). f.token.bytes) g in
            let l = length-take-le len w c.within in
            ne (sym l ∙ ap length t))
      ])

      module _ (some_byte : len ≡ 0 → ⊥) (all : len ≡ length w) where
        longer : Chooses rules (w ++ []) rule len
        longer = subst (λ (x : List ℕ). Chooses rules x rule len) (sym (append-nil w)) c

        pub alone_other : (rule ≡ k → ⊥) → alone_in rules tag w ≡ false
        alone_other ne = front_other w [] longer some_byte all ne

        pub alone_same : rule ≡ k → alone_in rules tag w ≡ true
        alone_same e = front_same w [] longer some_byte all e

-- ---- the fault of a token

module _ (rules : List Rule) (pool : List ℕ) (r : TokenRecord) where
  pub fault_outside : length pool < r.place + r.len → fault_of rules pool r ≡ some PastThePool
  unfolding fault_of
  fault_outside l = rw (lt-ltb _ _ l)

  module _ (in_pool : r.place + r.len ≤ length pool) where
    pub fault_untagged : tagged r.tag rules ≡ false → fault_of rules pool r ≡ some UnknownTag
    unfolding fault_of
    fault_untagged e = rw (le-ltb _ _ in_pool, e)

    module _ (known : tagged r.tag rules ≡ true) where
      pub fault_unalone : alone_in rules r.tag (bytes_in pool r) ≡ false → fault_of rules pool r ≡ some NotAlone
      unfolding fault_of
      fault_unalone e = rw (le-ltb _ _ in_pool, known, e)

      pub fault_none : alone_in rules r.tag (bytes_in pool r) ≡ true → fault_of rules pool r ≡ none
      unfolding fault_of
      fault_none e = rw (le-ltb _ _ in_pool, known, e)

-- what a token without fault is like
pub record Fine (rules : List Rule) (pool : List ℕ) (r : TokenRecord) : Type 0 where
  pub in_pool : r.place + r.len ≤ length pool
  pub known : tagged r.tag rules ≡ true
  pub alone : alone_in rules r.tag (bytes_in pool r) ≡ true

pub fine : (rules : List Rule) (pool : List ℕ) (r : TokenRecord) → fault_of rules pool r ≡ none → Fine rules pool r
unfolding fault_of
fine rules pool r e = go (ltb (length pool) (r.place + r.len)) refl (tagged r.tag rules) refl
    (alone_in rules r.tag (bytes_in pool r)) refl e
  where
    go : (a : Bool) → ltb (length pool) (r.place + r.len) ≡ a → (b : Bool) → tagged r.tag rules ≡ b
        → (d : Bool) → alone_in rules r.tag (bytes_in pool r) ≡ d
        → if {A = Option Reason} a (some PastThePool) (if (not b) (some UnknownTag) (if (not d) (some NotAlone) none)) ≡ none → Fine rules pool r
    go true p b q d s z = nothing z refl
    go false p false q d s z = nothing z refl
    go false p true q false s z = nothing z refl
    go false p true q true s z = record { in_pool = ltb-false _ _ p; known = q; alone = s }

-- ---- the check of a token

pub checked_outside : (rules : List Rule) (pool : List ℕ) (r : TokenRecord) → length pool < r.place + r.len
    → Some PastThePool ≡ fault_for (fault_of rules pool r)
checked_outside rules pool r l = ap fault_for (sym (fault_outside rules pool r l))

pub bytes_length : (pool : List ℕ) (r : TokenRecord) → r.place + r.len ≤ length pool → length (bytes_in pool r) ≡ r.len
bytes_length pool r l = length-take-le r.len (drop r.place pool) (simp length-drop (omega arith))

module _ {tb : List ℕ} {rules : List Rule} (h : Holds tb rules) (pool : List ℕ) (r : TokenRecord)
    (in_pool : r.place + r.len ≤ length pool) where
  pub checked_unknown : Ranks rules r.tag (length rules) → Some UnknownTag ≡ fault_for (fault_of rules pool r)
  checked_unknown ranks = ap fault_for (sym (fault_untagged rules pool r in_pool (ranks_none ranks refl)))

  module _ {k : ℕ} (ranks : (k < length rules) × Ranks rules r.tag k) {rule len : ℕ} (c : Chooses rules (bytes_in pool r) rule len) where
    known : k ≡ length rules → ⊥
    known e = let l = ranks.0 in omega arith

    not_alone : alone_in rules r.tag (bytes_in pool r) ≡ false → Some NotAlone ≡ fault_for (fault_of rules pool r)
    not_alone e = ap fault_for (sym (fault_unalone rules pool r in_pool (ranks_some ranks.1 known) e))

    pub checked-idle : len ≡ 0 → Some NotAlone ≡ fault_for (fault_of rules pool r)
    checked-idle e = not_alone (alone_idle ranks.1 known (held_empty h) c e)

    pub checked-part : (len ≡ r.len → ⊥) → Some NotAlone ≡ fault_for (fault_of rules pool r)
    checked-part ne = not_alone (alone_part ranks.1 known (held_empty h) c (λ e. ne (e ∙ bytes_length pool r in_pool)))

    module _ (some_byte : 0 < len) (all : len ≡ r.len) where
      idle : len ≡ 0 → ⊥
      idle z = omega arith

      pub checked_other : (rule ≡ k → ⊥) → Some NotAlone ≡ fault_for (fault_of rules pool r)
      checked_other ne = not_alone (alone_other ranks.1 known (held_empty h) c idle (all ∙ sym (bytes_length pool r in_pool)) ne)

      pub checked_same : rule ≡ k → None ≡ fault_for (fault_of rules pool r)
      checked_same e =
          ap fault_for (sym (fault_none rules pool r in_pool (ranks_some ranks.1 known)
          (alone_same ranks.1 known (held_empty h) c idle (all ∙ sym (bytes_length pool r in_pool)) e)))
