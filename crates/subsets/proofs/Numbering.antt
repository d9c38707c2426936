-- The sets are numbered by the shortest, then lowest, strings that lead to them (specs/Numbering.antt). Assumes nothing.
use mathlib.Core.Path.{◌≡◌, refl, sym, ap, subst, ◌∙◌}
use mathlib.Core.Bool.{Bool, true, false}
use mathlib.Core.Logic.{◌⊎◌, inl, inr}
use mathlib.Core.List.{List, [], ◌∷◌, ◌++◌, append_assoc, append-nil}
use Prim.Native.Nat.{ℕ, zero, suc, ◌+◌, ◌*◌, ◌/◌, ◌%◌, ◌≤◌, ◌<◌}
use native.Mathlib.Omega.{arith}
use lib.Bits.{bit_and}
use lib.Dec.{eqb, ltb}
use lib.ListN.{length, get_or}
use borrow.Author.Tests.{ltb-true, ltb-false, eqb-true, eqb-false, ne_eqb}
use Rattle.automaton.specs.Choice.{among}
use Rattle.automaton.proofs.Tests.{all_append}
use Rattle.subsets.specs.States.{after, ahead_of, states, are_too_many, place, number_of}
use Rattle.subsets.proofs.Reaching.{number_some}
use Rattle.subsets.proofs.Finding.{place_at}
use Rattle.subsets.specs.Numbering.{set_from, Bytes, Before, LedTo, NumberedByStrings, ManySets}
use Rattle.subsets.proofs.Walking.{Stands, stands_among, Walked, walked_different, walked_only, walked_upto}
use Rattle.subsets.proofs.Searching.{met, gone}
use Rattle.subsets.proofs.Strings.{before_self, before_more, before_byte, before_some}
use Rattle.subsets.proofs.Strings.{UpTo, same, earlier, upto_before, upto_trans, upto_more}
use Rattle.subsets.proofs.Strings.{ahead_from, set_more, ahead_more, after_none, name, name-start, name_next}

module _ (first : ℕ) (follow takers : List ℕ) {E : ℕ} {steps : List ℕ}
    (w : Walked (met first follow takers) E (states first follow takers) steps) where
  word : ℕ → List ℕ
  word p = name (λ (i : ℕ). get_or steps i 0) p

  -- the string by which a step meets its set
  step_word : ℕ → List ℕ
  step_word e = word (e / 256) ++ (e % 256 ∷ [])

  parent : (i : ℕ) → i < length (states first follow takers) → get_or steps i 0 / 256 ≤ i
  parent i l = omega (arith, (w.firsts i l).from)

  word-start : word 0 ≡ []
  unfolding word
  word-start = name-start (λ (i : ℕ). get_or steps i 0)

  word_next : (i : ℕ) → i < length (states first follow takers) → word (suc i) ≡ step_word (get_or steps i 0)
  unfolding word step_word
  word_next i l = name_next (λ (i : ℕ). get_or steps i 0) i (parent i l)

  -- ---- they lead to the states

  step_set : (e : ℕ) → ahead_from first follow takers (word (e / 256)) ≡ ahead_of first follow (states first follow takers) (e / 256)
      → set_from first follow takers (step_word e) ≡ met first follow takers e
  unfolding step_word
  step_set e h = set_more first follow takers (word (e / 256)) (e % 256) ∙ ap (λ (a : ℕ). bit_and a (get_or takers (e % 256) 0)) h

  ahead-start : ahead_from first follow takers (word 0) ≡ first
  unfolding ahead_from
  ahead-start = ap (ahead_from first follow takers) word-start

  word_set : (i : ℕ) → i < length (states first follow takers)
      → ahead_from first follow takers (word (get_or steps i 0 / 256))
      ≡ ahead_of first follow (states first follow takers) (get_or steps i 0 / 256)
      → set_from first follow takers (word (suc i)) ≡ get_or (states first follow takers) i 0
  word_set i l h = ap (set_from first follow takers) (word_next i l) ∙ step_set (get_or steps i 0) h ∙ (w.firsts i l).leads

  word_after : (i : ℕ) → i < length (states first follow takers)
      → ahead_from first follow takers (word (suc i)) ≡ after follow (set_from first follow takers (word (suc i)))
  unfolding step_word
  word_after i l =
      ap (ahead_from first follow takers) (word_next i l)
      ∙ ahead_more first follow takers (word (get_or steps i 0 / 256)) (get_or steps i 0 % 256)
      ∙ ap (λ (v : List ℕ). after follow (set_from first follow takers v)) (sym (word_next i l))

  ahead-word : (m p : ℕ) → p ≤ m → p ≤ length (states first follow takers)
      → ahead_from first follow takers (word p) ≡ ahead_of first follow (states first follow takers) p
  ahead-word zero zero b l = ahead-start
  ahead-word zero (suc i) b l = absurd (omega arith)
  ahead-word (suc m) zero b l = ahead-start
  ahead-word (suc m) (suc i) b l =
      let q : get_or steps i 0 / 256 ≤ i = parent i (omega arith) in
      word_after i (omega arith)
      ∙ ap (after follow) (word_set i (omega arith) (ahead-word m (get_or steps i 0 / 256) (omega arith) (omega arith)))

  word-leads : (i : ℕ) → i < length (states first follow takers)
      → set_from first follow takers (word (suc i)) ≡ get_or (states first follow takers) i 0
  word-leads i l =
      let q : get_or steps i 0 / 256 ≤ i = parent i l in
      word_set i l (ahead-word i (get_or steps i 0 / 256) q (omega arith))

  -- ---- they are rising

  step_before : (e f : ℕ) → e < f → (e / 256 < f / 256 → Before (word (e / 256)) (word (f / 256))) → Before (step_word e) (step_word f)
  unfolding step_word
  step_before e f l h = go (ltb (e / 256) (f / 256)) refl
    where
      go : (t : Bool) → ltb (e / 256) (f / 256) ≡ t
          → Before (word (e / 256) ++ (e % 256 ∷ [])) (word (f / 256) ++ (f % 256 ∷ []))
      go true q = before_more (e % 256) (f % 256) (h (ltb-true _ _ q))
      go false q =
          let b : f / 256 ≤ e / 256 = ltb-false _ _ q in
          let p : e / 256 ≡ f / 256 = omega arith in
          let c : e % 256 < f % 256 = omega arith in
          subst (λ (p : ℕ). Before (word (e / 256) ++ (e % 256 ∷ [])) (word p ++ (f % 256 ∷ []))) p
          (before_byte (word (e / 256)) c)

  word_before : (m p q : ℕ) → q ≤ m → p < q → q ≤ length (states first follow takers) → Before (word p) (word q)
  unfolding step_word
  word_before zero p q b l n = absurd (omega arith)
  word_before (suc m) p zero b l n = absurd (omega arith)
  word_before (suc m) zero (suc j) b l n =
      rw (word-start, word_next j (omega arith)) (before_some (word (get_or steps j 0 / 256)) (get_or steps j 0 % 256))
  word_before (suc m) (suc i) (suc j) b l n =
      let h : get_or steps j 0 / 256 ≤ j = parent j (omega arith) in
      rw (word_next i (omega arith), word_next j (omega arith))
      (step_before (get_or steps i 0) (get_or steps j 0) (w.rising i j (omega arith) (omega arith))
      (λ g. word_before m (get_or steps i 0 / 256) (get_or steps j 0 / 256) (omega arith) g (omega arith)))

  word_bytes : (m p : ℕ) → p ≤ m → p ≤ length (states first follow takers) → Bytes (word p)
  unfolding step_word
  word_bytes zero zero b l = subst Bytes (sym word-start) tt
  word_bytes zero (suc i) b l = absurd (omega arith)
  word_bytes (suc m) zero b l = subst Bytes (sym word-start) tt
  word_bytes (suc m) (suc i) b l =
      let h : get_or steps i 0 / 256 ≤ i = parent i (omega arith) in
      subst Bytes (sym (word_next i (omega arith)))
      (all_append (λ (b : ℕ). b < 256) (word (get_or steps i 0 / 256)) (get_or steps i 0 % 256 ∷ [])
      (word_bytes m (get_or steps i 0 / 256) (omega arith) (omega arith)) (omega arith, tt))

  word_number : (k : ℕ) → k < length (states first follow takers)
      → number_of (states first follow takers) (set_from first follow takers (word (suc k))) ≡ suc k
  word_number k l =
      let known : List ℕ = states first follow takers in
      let p : place (get_or known k 0) known ≡ k = place_at (get_or known k 0) known k l refl (λ i m. walked_different w i k m l) in
      ap (number_of known) (word-leads k l)
      ∙ number_some known (get_or known k 0) (ne_eqb (get_or known k 0) 0 (w.firsts k l).filled)
      ∙ ap suc p

  walked_led : LedTo first follow takers (λ (k : ℕ). word (suc k))
  walked_led = record {
    bytes = λ k l. word_bytes (suc k) (suc k) (omega arith) (omega arith);
    leads = word-leads;
    rising = λ i j l m. word_before (suc j) (suc i) (suc j) (omega arith) (omega arith) (omega arith);
    different = walked_different w;
    filled = λ k l. (w.firsts k l).filled;
  }

  -- ---- no other string comes first

  -- what can match next after the string v is what can in a state whose string is not after v
  record Arrives (v : List ℕ) : Type 0 where
    state : ℕ
    within : state ≤ length (states first follow takers)
    ahead : ahead_from first follow takers v ≡ ahead_of first follow (states first follow takers) state
    early : UpTo (word state) v

  -- the set that v leads to is known, and its string is not after v
  record Meets (v : List ℕ) : Type 0 where
    at : ℕ
    within : at < length (states first follow takers)
    set : get_or (states first follow takers) at 0 ≡ set_from first follow takers v
    early : UpTo (word (suc at)) v

  record Seen (v : List ℕ) : Type 0 where
    next : (ahead_from first follow takers v ≡ 0) ⊎ Arrives v
    here : (set_from first follow takers v ≡ 0 → ⊥) → Meets v

  seen_start : Seen []
  unfolding ahead_from set_from
  seen_start = record {
    next = inr (record { state = 0; within = omega arith; ahead = refl; early = same word-start });
    here = λ n. absurd (n refl);
  }

  seen_none : (u : List ℕ) (b : ℕ) → set_from first follow takers (u ++ (b ∷ [])) ≡ 0 → Seen (u ++ (b ∷ []))
  seen_none u b e = record {
    next = inl (ahead_more first follow takers u b ∙ ap (after follow) e ∙ after_none follow);
    here = λ n. absurd (n e);
  }

  seen_some : (u : List ℕ) (b : ℕ) → Meets (u ++ (b ∷ [])) → Seen (u ++ (b ∷ []))
  seen_some u b m = record {
    next = inr (record {
      state = suc m.at;
      within = omega (arith, m.within);
      ahead = ahead_more first follow takers u b ∙ ap (after follow) (sym m.set);
      early = m.early;
    });
    here = λ _. m;
  }

  step_upto : (e f : ℕ) → e ≤ f → f / 256 ≤ length (states first follow takers) → UpTo (step_word e) (step_word f)
  step_upto e f l n = go (ltb e f) refl
    where
      go : (t : Bool) → ltb e f ≡ t → UpTo (step_word e) (step_word f)
      go true q = earlier
          (step_before e f (ltb-true e f q) (λ g. word_before (f / 256) (e / 256) (f / 256) (omega arith) g n))
      go false q = let h : e ≡ f = omega (arith, ltb-false e f q) in same (ap step_word h)

  module _ (whole : 256 * (length (states first follow takers) + 1) ≤ E) where
    step-meets : (e : ℕ) → e / 256 ≤ length (states first follow takers) → (v : List ℕ)
        → set_from first follow takers v ≡ met first follow takers e → UpTo (step_word e) v
        → Stands (met first follow takers e) (states first follow takers) → Meets v
    step-meets e l v q h s = record {
      at = s.at;
      within = s.within;
      set = s.here ∙ sym q;
      early = upto_trans (same (word_next s.at s.within))
          (upto_trans (step_upto (get_or steps s.at 0) e (walked_upto w s.at s.within e (sym s.here)) l) h);
    }

    meets : (u : List ℕ) (b : ℕ) → b < 256 → Arrives u → (set_from first follow takers (u ++ (b ∷ [])) ≡ 0 → ⊥)
        → Meets (u ++ (b ∷ []))
    unfolding step_word
    meets u b l a n =
        let p : (256 * a.state + b) / 256 ≡ a.state = omega arith in
        let c : (256 * a.state + b) % 256 ≡ b = omega arith in
        let q : set_from first follow takers (u ++ (b ∷ [])) ≡ met first follow takers (256 * a.state + b) =
        set_more first follow takers u b ∙ rw (p, c, a.ahead) in
        let h : UpTo (word ((256 * a.state + b) / 256) ++ ((256 * a.state + b) % 256 ∷ [])) (u ++ (b ∷ [])) =
        rw (p, c) (upto_more b a.early) in
        step-meets (256 * a.state + b) (omega (arith, a.within)) (u ++ (b ∷ [])) q h
        (w.covered (256 * a.state + b) (omega (arith, a.within)) (λ z. n (q ∙ z)))

    seen_next : (u : List ℕ) (b : ℕ) → b < 256 → Seen u → Seen (u ++ (b ∷ []))
    seen_next u b l s = go s.next
      where
        some : Arrives u → (t : Bool) → eqb (set_from first follow takers (u ++ (b ∷ []))) 0 ≡ t → Seen (u ++ (b ∷ []))
        some a true e = seen_none u b (eqb-true _ 0 e)
        some a false e = seen_some u b (meets u b l a (eqb-false _ 0 e))

        go : (ahead_from first follow takers u ≡ 0) ⊎ Arrives u → Seen (u ++ (b ∷ []))
        go (inl e) = seen_none u b (set_more first follow takers u b ∙ ap (λ (a : ℕ). bit_and a (get_or takers b 0)) e)
        go (inr a) = some a (eqb (set_from first follow takers (u ++ (b ∷ []))) 0) refl

    seen_more : (v u : List ℕ) → Bytes v → Seen u → Seen (u ++ v)
    seen_more [] u h s = subst Seen (sym (append-nil u)) s
    seen_more (b ∷ v) u (l, h) s = subst Seen (append_assoc u (b ∷ []) v) (seen_more v (u ++ (b ∷ [])) h (seen_next u b l s))

    seen : (v : List ℕ) → Bytes v → Seen v
    seen v h = seen_more v [] h seen_start

    walked_least : (k : ℕ) → k < length (states first follow takers) → (v : List ℕ) → Bytes v
        → set_from first follow takers v ≡ set_from first follow takers (word (suc k)) → Before v (word (suc k)) → ⊥
    walked_least k l v h q b =
        let e : set_from first follow takers v ≡ get_or (states first follow takers) k 0 = q ∙ word-leads k l in
        let m = (seen v h).here (λ z. (w.firsts k l).filled (sym e ∙ z)) in
        let i : m.at ≡ k = walked_only w m.at k m.within l (m.set ∙ e) in
        before_self (upto_before (subst (λ (i : ℕ). UpTo (word (suc i)) v) i m.early) b)

    walked_all : (v : List ℕ) → Bytes v → (set_from first follow takers v ≡ 0 → ⊥)
        → among (set_from first follow takers v) (states first follow takers) ≡ true
    walked_all v h n =
        let m = (seen v h).here n in
        stands_among (set_from first follow takers v) (states first follow takers) m.at m.within m.set

    walked_numbered : NumberedByStrings first follow takers
    walked_numbered = record {
      word = λ (k : ℕ). word (suc k);
      led = walked_led;
      number = word_number;
      least = walked_least;
      all = walked_all;
    }

-- ---- the theorems

module _ (first : ℕ) (follow takers : List ℕ) (size : length takers ≡ 256) where
  -- where there are not too many sets, those that strings lead to are numbered by the first strings that do
  pub numbered_by_strings : are_too_many first follow takers ≡ false → NumberedByStrings first follow takers
  numbered_by_strings e =
      let g = gone first follow takers size 255 (omega arith) in
      let few : length (states first follow takers) ≤ 254 = ltb-false 254 (length (states first follow takers)) e in
      let r : g.rows ≡ length (states first follow takers) + 1 = g.ended (omega arith) in
      walked_numbered first follow takers g.walks.walked (omega arith)

  -- where there are, strings lead to too many
  pub many_sets_lem : are_too_many first follow takers ≡ true → ManySets first follow takers
  many_sets_lem e = record {
    word = _;
    led = walked_led first follow takers (gone first follow takers size 255 (omega arith)).walks.walked;
    many = ltb-true 254 (length (states first follow takers)) e;
  }
