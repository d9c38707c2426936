-- A walk over numbered steps, each of which meets a set: the known sets are those that were met, and which step met each first. Assumes
-- nothing.
use mathlib.Core.Path.{◌≡◌, refl, sym, ap, subst, ◌∙◌}
use mathlib.Core.Bool.{Bool, true, false, ◌||◌}
use mathlib.Core.List.{List, [], ◌∷◌, ◌++◌}
use Prim.Native.Nat.{ℕ, zero, suc, ◌+◌, ◌*◌, ◌≤◌, ◌<◌}
use native.Mathlib.Numerals.{unary_clauses}
use native.Mathlib.Omega.{arith}
use lib.Dec.{eqb, ltb}
use lib.ListN.{length, get_or, length-append, get_or-append}
use lib.Seq.{get_or_at}
use borrow.Author.Tests.{eqb-true, eqb-false, eq-eqb, ltb-true, ltb-false}
use Rattle.automaton.specs.Choice.{if, among}
use Rattle.subsets.specs.States.{discover}

-- ---- where a set stands

pub record Stands (set : ℕ) (known : List ℕ) : Type 0 where
  pub at : ℕ
  pub within : at < length known
  pub here : get_or known at 0 ≡ set

pub stands : (set : ℕ) (known : List ℕ) → among set known ≡ true → Stands set known
stands set [] e = let z : ◌≡◌ {A = ℕ} 0 1 = cc in absurd (omega arith)
stands set (x ∷ known) e = go (eqb set x) refl e (stands set known)
  where
    go : (t : Bool) → eqb set x ≡ t → (t || among set known) ≡ true → (among set known ≡ true → Stands set known)
        → Stands set (x ∷ known)
    go true q h ih = record { at = 0; within = omega arith; here = sym (eqb-true set x q) }
    go false q h ih = let i = ih h in record { at = suc i.at; within = omega (arith, i.within); here = i.here }

pub stands_among : (set : ℕ) (known : List ℕ) (i : ℕ) → i < length known → get_or known i 0 ≡ set → among set known ≡ true
stands_among set [] i l e = absurd (omega arith)
stands_among set (x ∷ known) zero l e = rw (eq-eqb set x (sym e))
stands_among set (x ∷ known) (suc i) l e = go (eqb set x) (stands_among set known i (omega arith) e)
  where
    go : (t : Bool) → among set known ≡ true → (t || among set known) ≡ true
    go true h = refl
    go false h = h

-- ---- the walk

-- the step meets the set, which is number i from 0, and no step before it does
pub record First (met : ℕ → ℕ) (E i set step : ℕ) : Type 0 where
  pub early : step < E
  pub from : step < 256 * (i + 1)
  pub leads : met step ≡ set
  pub filled : set ≡ 0 → ⊥
  pub least : (e : ℕ) → e < step → met e ≡ set → ⊥

-- the steps before E are gone through; `steps` are those that met the known sets first
pub record Walked (met : ℕ → ℕ) (E : ℕ) (known steps : List ℕ) : Type 0 where
  pub same : length steps ≡ length known
  pub firsts : (i : ℕ) → i < length known → First met E i (get_or known i 0) (get_or steps i 0)
  pub rising : (i j : ℕ) → i < j → j < length known → get_or steps i 0 < get_or steps j 0
  pub covered : (e : ℕ) → e < E → (met e ≡ 0 → ⊥) → Stands (met e) known

pub walked_start : (met : ℕ → ℕ) → Walked met 0 [] []
walked_start met = record {
  same = refl;
  firsts = λ i l. absurd (omega arith);
  rising = λ i j l m. absurd (omega arith);
  covered = λ e l. absurd (omega arith);
}

-- an index of a list that is one longer
by_last : (n : ℕ) (P : ℕ → Type 0) → ((i : ℕ) → i < n → P i) → P n → (i : ℕ) → i < suc n → P i
by_last n P f g i l = go (ltb i n) refl
  where
    go : (t : Bool) → ltb i n ≡ t → P i
    go true q = f i (ltb-true i n q)
    go false q = let h : n ≡ i = omega (arith, ltb-false i n q) in subst P h g

first-later : {met : ℕ → ℕ} {E i set step : ℕ} → First met E i set step → First met (suc E) i set step
first-later f = record { early = omega (arith, f.early); from = f.from; leads = f.leads; filled = f.filled; least = f.least }

module _ {met : ℕ → ℕ} {E : ℕ} {known steps : List ℕ} (w : Walked met E known steps) where
  pub walked_different : (i j : ℕ) → i < j → j < length known → get_or known i 0 ≡ get_or known j 0 → ⊥
  walked_different i j l m e =
      (w.firsts j m).least (get_or steps i 0) (w.rising i j l m) ((w.firsts i (omega arith)).leads ∙ e)

  pub walked_only : (i j : ℕ) → i < length known → j < length known → get_or known i 0 ≡ get_or known j 0 → i ≡ j
  walked_only i j l m e = go (ltb i j) refl (ltb j i) refl
    where
      go : (t : Bool) → ltb i j ≡ t → (u : Bool) → ltb j i ≡ u → i ≡ j
      go true q u r = absurd (walked_different i j (ltb-true i j q) m e)
      go false q true r = absurd (walked_different j i (ltb-true j i r) l (sym e))
      go false q false r = omega (arith, ltb-false i j q, ltb-false j i r)

  pub walked_upto : (i : ℕ) → i < length known → (e : ℕ) → met e ≡ get_or known i 0 → get_or steps i 0 ≤ e
  walked_upto i l e q = go (ltb e (get_or steps i 0)) refl
    where
      go : (t : Bool) → ltb e (get_or steps i 0) ≡ t → get_or steps i 0 ≤ e
      go true h = absurd ((w.firsts i l).least e (ltb-true e (get_or steps i 0) h) q)
      go false h = ltb-false e (get_or steps i 0) h

  -- the step meets no set, or a known one
  walked_old : ((met E ≡ 0 → ⊥) → Stands (met E) known) → Walked met (suc E) known steps
  walked_old s = record {
    same = w.same;
    firsts = λ i l. first-later (w.firsts i l);
    rising = w.rising;
    covered = by_last E (λ (e : ℕ). (met e ≡ 0 → ⊥) → Stands (met e) known) w.covered s;
  }

  -- it meets a new one
  module _ (room : E < 256 * (length known + 1)) (some : met E ≡ 0 → ⊥) (new : among (met E) known ≡ false) where
    long : length (known ++ (met E ∷ [])) ≡ suc (length known)
    long = omega (arith, length-append known (met E ∷ []))

    old_known : (i : ℕ) → i < length known → get_or (known ++ (met E ∷ [])) i 0 ≡ get_or known i 0
    old_known i l = get_or-append known (met E ∷ []) 0 i l

    old_step : (i : ℕ) → i < length known → get_or (steps ++ (E ∷ [])) i 0 ≡ get_or steps i 0
    old_step i l = get_or-append steps (E ∷ []) 0 i (omega (arith, w.same))

    new_known : get_or (known ++ (met E ∷ [])) (length known) 0 ≡ met E
    new_known = get_or_at known (met E) [] 0 (length known) refl

    new_step : get_or (steps ++ (E ∷ [])) (length known) 0 ≡ E
    new_step = get_or_at steps E [] 0 (length known) w.same

    unmet : (e : ℕ) → e < E → met e ≡ met E → ⊥
    unmet e l q =
        let s = w.covered e l (λ z. some (sym q ∙ z)) in
        let a : among (met E) known ≡ true = stands_among (met E) known s.at s.within (s.here ∙ q) in
        let z : ◌≡◌ {A = ℕ} 0 1 = cc in
        omega arith

    place-first : (i : ℕ) → i < suc (length known)
        → First met (suc E) i (get_or (known ++ (met E ∷ [])) i 0) (get_or (steps ++ (E ∷ [])) i 0)
    place-first =
        by_last (length known)
        (λ (i : ℕ). First met (suc E) i (get_or (known ++ (met E ∷ [])) i 0) (get_or (steps ++ (E ∷ [])) i 0))
        (λ i l. rw (old_known i l, old_step i l) (first-later (w.firsts i l)))
        (rw (new_known, new_step) (record { early = omega arith; from = room; leads = refl; filled = some; least = unmet }))

    place_rising : (i j : ℕ) → i < j → j < suc (length known) → get_or (steps ++ (E ∷ [])) i 0 < get_or (steps ++ (E ∷ [])) j 0
    place_rising i j l m =
        by_last (length known) (λ (j : ℕ). i < j → get_or (steps ++ (E ∷ [])) i 0 < get_or (steps ++ (E ∷ [])) j 0)
        (λ j m l. rw (old_step i (omega arith), old_step j m) (w.rising i j l m))
        (λ l. rw (old_step i l, new_step) (w.firsts i l).early)
        j m l

    place_covered : (e : ℕ) → e < suc E → (met e ≡ 0 → ⊥) → Stands (met e) (known ++ (met E ∷ []))
    place_covered =
        by_last E (λ (e : ℕ). (met e ≡ 0 → ⊥) → Stands (met e) (known ++ (met E ∷ [])))
        (λ e l n.
        let s = w.covered e l n in
        record { at = s.at; within = omega (arith, s.within, long); here = old_known s.at s.within ∙ s.here })
        (λ n. record { at = length known; within = omega (arith, long); here = new_known })

    walked_new : Walked met (suc E) (known ++ (met E ∷ [])) (steps ++ (E ∷ []))
    walked_new = record {
      same = omega (arith, long, w.same, length-append steps (E ∷ []));
      firsts = λ i l. place-first i (omega (arith, long));
      rising = λ i j l m. place_rising i j l (omega (arith, long));
      covered = place_covered;
    }

-- the steps before E can be gone through with these sets known
pub record Walks (met : ℕ → ℕ) (E : ℕ) (known : List ℕ) : Type 0 where
  pub steps : List ℕ
  pub walked : Walked met E known steps

walks-step : {met : ℕ → ℕ} {E : ℕ} {known : List ℕ} → Walks met E known → E < 256 * (length known + 1)
    → Walks met (suc E) (if (eqb (met E) 0 || among (met E) known) known (known ++ (met E ∷ [])))
walks-step {met} {E} {known} w room = go (eqb (met E) 0) refl (among (met E) known) refl
  where
    go : (t : Bool) → eqb (met E) 0 ≡ t → (u : Bool) → among (met E) known ≡ u
        → Walks met (suc E) (if (t || u) known (known ++ (met E ∷ [])))
    go true e u q = record { steps = w.steps; walked = walked_old w.walked (λ n. absurd (n (eqb-true (met E) 0 e))) }
    go false e true q = record { steps = w.steps; walked = walked_old w.walked (λ n. stands (met E) known q) }
    go false e false q = record {
      steps = w.steps ++ (E ∷ []);
      walked = walked_new w.walked room (eqb-false (met E) 0 e) q;
    }

adds : (t : Bool) (known : List ℕ) (set : ℕ) → length known ≤ length (if t known (known ++ (set ∷ [])))
adds true known set = omega arith
adds false known set = omega (arith, length-append known (set ∷ []))

-- a row of sets is met
pub walks-row : {met : ℕ → ℕ} (k : ℕ) (row : List ℕ) (E : ℕ) (known : List ℕ) → Walks met E known → k ≤ length known
    → E + length row ≤ 256 * (k + 1) → ((b : ℕ) → b < length row → get_or row b 0 ≡ met (E + b))
    → Walks met (E + length row) (discover known row)
unfolding discover
walks-row k [] E known w l room same = simp unary_clauses w
walks-row {met} k (set ∷ row) E known w l room same =
    let e : set ≡ met E = same 0 (omega arith) ∙ ap met (omega arith) in
    let next : Walks met (suc E + length row) (discover (if (eqb (met E) 0 || among (met E) known) known (known ++ (met E ∷ []))) row) =
    walks-row k row (suc E) (if (eqb (met E) 0 || among (met E) known) known (known ++ (met E ∷ []))) (walks-step w (omega arith))
    (omega (arith, adds (eqb (met E) 0 || among (met E) known) known (met E))) (omega arith)
    (λ b m. same (suc b) (omega arith) ∙ ap met (omega arith)) in
    let n : suc E + length row ≡ E + suc (length row) = omega arith in
    subst (λ (m : ℕ). Walks met m (discover (if (eqb set 0 || among set known) known (known ++ (set ∷ []))) row)) n
    (subst
    (λ (x : ℕ). Walks met (suc E + length row) (discover (if (eqb x 0 || among x known) known (known ++ (x ∷ []))) row)) (sym e) next)
