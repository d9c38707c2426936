-- Used bytes: the bytes of the texts that a rule matches. And transitions that meet share a byte. Assumes nothing.
use mathlib.Core.Path.{◌≡◌, refl, sym, ap, subst, ◌∙◌}
use mathlib.Core.Bool.{Bool, true, false, ◌&&◌}
use mathlib.Core.List.{List, [], ◌∷◌}
use Prim.Native.Nat.{ℕ, ◌≤◌, ◌<◌}
use native.Mathlib.Omega.{arith}
use lib.Dec.{leb, eqb}
use borrow.Author.Tests.{eqb-true, eq-eqb, le-leb, leb-true, leb-false}
use Rattle.automaton.specs.Choice.{if, All, any, among}
use Rattle.automaton.specs.Rule.{Transition, Rule, covers, carries, target, step, walk, matches}
use Rattle.automaton.specs.Rule.{Uses, leads, ends, used, meets, overlaps, Ranged, Sound}
use Rattle.automaton.proofs.Tests.{clash, or_true, if_false, and_true, all_map, all_with}
use Rattle.automaton.proofs.Tests.{any_each, any_some, any-map, all_among, among-all}
use Rattle.automaton.proofs.Walks.{target_stays}
use Rattle.automaton.proofs.Ways.{leads_here, leads_on, leads_each, leads_back}

-- ---- the law of used bytes

-- a byte leads from s by a transition that leaves s and covers it, or to the error state
target_cases : (P : ℕ → Type 0) (s b error : ℕ) (ts : List Transition)
    → All (λ (t : Transition). t.from ≡ s → covers t b ≡ true → P t.to) ts → P error → P (target ts s b error)
unfolding target
target_cases P s b error [] h e = e
target_cases P s b error (t ∷ ts) (k, h) e = go (eqb t.from s && covers t b) refl (target_cases P s b error ts h e)
  where
    go : (c : Bool) → eqb t.from s && covers t b ≡ c → P (target ts s b error) → P (if c t.to (target ts s b error))
    go true q z = let a = and_true (eqb t.from s) (covers t b) q in k (eqb-true _ _ a.0) a.1
    go false q z = z

-- in the error state of a sound rule every walk stays
walk_stays : {n : ℕ} (r : Rule) → Sound n r → (w : List ℕ) → walk r r.error w ≡ r.error
unfolding walk
walk_stays r h [] = refl
walk_stays r h (b ∷ w) = rw (target_stays r.error b r.transitions h.stays) (walk_stays r h w)

-- so a rule whose start is its error state matches nothing
pub start_in_error : {n : ℕ} (r : Rule) → Sound n r → r.start ≡ r.error → (w : List ℕ) → matches r w ≡ false
unfolding matches
start_in_error r h e w = ap (λ (s : ℕ). among (walk r s w) r.finals) e ∙ rw (walk_stays r h w) h.fails

module _ {n : ℕ} (r : Rule) (h : Sound n r) where
  abbrev way : ℕ → ℕ → Bool
  way = leads r.transitions

  -- by w, from a state that the start leads to, to a final state
  abbrev Walked : ℕ → List ℕ → Type 0
  Walked s w = way r.start s ≡ true → among (walk r s w) r.finals ≡ true → (ends r s ≡ true) × All (λ (x : ℕ). used r x ≡ true) w

  walked_here : (s : ℕ) → Walked s []
  unfolding walk
  walked_here s l e =
      (any-map (eqb s) (way s) (λ x q. subst (λ (y : ℕ). way s y ≡ true) (eqb-true s x q) (leads_here r.transitions s)) r.finals e, tt)

  -- a transition in front
  walked_by : (s b : ℕ) (w : List ℕ) → ((x : ℕ) → Walked x w) → way r.start s ≡ true
      → (t : Transition) → way t.from t.to ≡ true → (carries r b t ≡ true → used r b ≡ true)
      → t.from ≡ s → covers t b ≡ true → among (walk r t.to w) r.finals ≡ true
      → (ends r s ≡ true) × All (λ (x : ℕ). used r x ≡ true) (b ∷ w)
  walked_by s b w ih l t k some q c e =
      let a : way r.start t.from ≡ true = rw q l in
      let d = ih t.to (leads_on r.transitions r.start t.from t.to a k) e in
      let f = any-map (way t.to) (way t.from) (λ x. leads_on r.transitions t.from t.to x k) r.finals d.0 in
      (subst (λ (y : ℕ). ends r y ≡ true) q f, (some (rw (c, a, d.0)), d.1))

  walked : (w : List ℕ) (s : ℕ) → Walked s w
  unfolding walk used
  walked [] s = walked_here s
  walked (b ∷ w) s = λ l.
      target_cases _ s b r.error r.transitions
      (all_with _ _ _ (walked_by s b w (walked w) l) r.transitions (leads_each r.transitions) (any_each (carries r b) r.transitions))
      (λ e. clash e (rw (walk_stays r h w) h.fails))

-- a rule that matches a text uses each of its bytes
pub uses_all : {n : ℕ} (r : Rule) → Sound n r → (w : List ℕ) → matches r w ≡ true → All (λ (b : ℕ). used r b ≡ true) w
unfolding matches
uses_all r h w e = (walked r h w r.start (leads_here r.transitions r.start) e).1

pub uses_used : {n : ℕ} (r : Rule) → Sound n r → (b : ℕ) → Uses r b → used r b ≡ true
uses_used r h b u = among-all (λ (x : ℕ). used r x ≡ true) b u.text (uses_all r h u.text u.matched) u.inside

-- ---- `meets` is what refusal 9 says: two transitions from one state cover one byte

pub record Shared (t u : Transition) : Type 0 where
  pub state : u.from ≡ t.from
  pub byte : ℕ
  pub first : covers t byte ≡ true
  pub second : covers u byte ≡ true

pub meets-shared : (t u : Transition) → t.low ≤ t.high → u.low ≤ u.high → meets t u ≡ true → Shared t u
meets-shared t u p q e =
    let a = and_true (eqb u.from t.from) _ e in
    let b = and_true (leb t.low u.high) _ a.1 in
    let l : t.low ≤ u.high = leb-true _ _ b.0 in
    let r : u.low ≤ t.high = leb-true _ _ b.1 in
    go (leb t.low u.low) refl (eqb-true _ _ a.0) l r
  where
    go : (c : Bool) → leb t.low u.low ≡ c → u.from ≡ t.from → t.low ≤ u.high → u.low ≤ t.high → Shared t u
    go true z f l r =
        let k : t.low ≤ u.low = leb-true _ _ z in
        record {
          state = f;
          byte = u.low;
          first = rw (le-leb _ _ k, le-leb _ _ r);
          second = rw (le-leb u.low u.low (omega arith), le-leb _ _ q);
        }
    go false z f l r =
        let k : u.low < t.low = leb-false _ _ z in
        record {
          state = f;
          byte = t.low;
          first = rw (le-leb t.low t.low (omega arith), le-leb _ _ p);
          second = rw (le-leb u.low t.low (omega arith), le-leb _ _ l);
        }

pub shared-meets : (t u : Transition) → Shared t u → meets t u ≡ true
shared-meets t u s =
    let a = and_true (leb t.low s.byte) _ s.first in
    let b = and_true (leb u.low s.byte) _ s.second in
    let a₁ : t.low ≤ s.byte = leb-true _ _ a.0 in
    let a₂ : s.byte ≤ t.high = leb-true _ _ a.1 in
    let b₁ : u.low ≤ s.byte = leb-true _ _ b.0 in
    let b₂ : s.byte ≤ u.high = leb-true _ _ b.1 in
    rw (eq-eqb _ _ s.state, le-leb t.low u.high (omega arith), le-leb u.low t.high (omega arith))

-- ---- a used byte stands in a text that the rule matches

-- of transitions that do not overlap, each leads where it says, at each of its bytes
target_own : (error : ℕ) (ts : List Transition) → overlaps ts ≡ false
    → All (λ (t : Transition). (b : ℕ) → covers t b ≡ true → target ts t.from b error ≡ t.to) ts
unfolding target overlaps
target_own error [] e = tt
target_own error (t ∷ ts) e =
    let p = if_false (any (meets t) ts) _ e in (
      λ b c. rw (eq-eqb t.from t.from refl, c),
      all_with _ (λ (u : Transition). meets t u ≡ true → any (meets t) ts ≡ true) _ (λ u own met b c. go p.0 u b c met (own b c) _ refl)
          ts (target_own error ts p.1) (any_each (meets t) ts),
    )
  where
    go : any (meets t) ts ≡ false → (u : Transition) (b : ℕ) → covers u b ≡ true → (meets t u ≡ true → any (meets t) ts ≡ true)
        → target ts u.from b error ≡ u.to
        → (c : Bool) → eqb t.from u.from && covers t b ≡ c → if c t.to (target ts u.from b error) ≡ u.to
    go none u b c met own true q =
        let a = and_true (eqb t.from u.from) _ q in
        clash (met (shared-meets t u (record { state = sym (eqb-true _ _ a.0); byte = b; first = a.1; second = c }))) none
    go none u b c met own false q = own

-- a text by which a rule gets from s to a final state
record Ended (r : Rule) (s : ℕ) : Type 0 where
  text : List ℕ
  bytes : All (λ (x : ℕ). x < 256) text
  final : among (walk r s text) r.finals ≡ true

-- a transition is taken at each of its bytes, and has one
record Taken (r : Rule) (t : Transition) : Type 0 where
  low : covers t t.low ≡ true
  byte : (b : ℕ) → covers t b ≡ true → b < 256
  own : (b : ℕ) → covers t b ≡ true → step r t.from b ≡ t.to

taken_each : {n : ℕ} (r : Rule) → Sound n r → All (Taken r) r.transitions
taken_each {n} r h = all_with (Ranged n) _ (Taken r) (λ t k own. record {
  low = rw (le-leb t.low t.low (omega arith), le-leb _ _ k.ordered);
  byte = λ b c. let l : b ≤ t.high = leb-true _ _ (and_true (leb t.low b) _ c).1 in omega (arith, k.byte);
  own = own;
}) r.transitions h.ranged (target_own r.error r.transitions h.apart)

module _ (r : Rule) (taken : All (Taken r) r.transitions) where
  ended_by : (t : Transition) → Taken r t → (b : ℕ) → covers t b ≡ true → Ended r t.to → Ended r t.from
  unfolding walk
  ended_by t k b c e = record { text = b ∷ e.text; bytes = (k.byte b c, e.bytes); final = rw (k.own b c) e.final }

  ended_back : (s x : ℕ) → leads r.transitions s x ≡ true → Ended r x → Ended r s
  ended_back = leads_back (Ended r) r.transitions (all_map (Taken r) _ (λ t k. ended_by t k t.low k.low) r.transitions taken)

  ended : (s : ℕ) → ends r s ≡ true → Ended r s
  unfolding walk
  ended s = any_some (leads r.transitions s) r.finals (all_map (λ (x : ℕ). among x r.finals ≡ true) _
      (λ x f e. ended_back s x e (record { text = []; bytes = tt; final = f })) r.finals (all_among r.finals))

  -- such a text with b in it
  abbrev Using : ℕ → ℕ → Type 0
  Using b s = (e : Ended r s) × (among b e.text ≡ true)

  using_back : (b s x : ℕ) → leads r.transitions s x ≡ true → Using b x → Using b s
  unfolding ended_by
  using_back b = leads_back (Using b) r.transitions
      (all_map (Taken r) _ (λ t k e. (ended_by t k t.low k.low e.0, rw (e.1, or_true))) r.transitions taken)

  using_start : (b : ℕ) → used r b ≡ true → Using b r.start
  unfolding used ended_by
  using_start b = any_some (carries r b) r.transitions (all_map (Taken r) _ (λ t k e.
      let c = and_true (covers t b) _ e in
      let d = and_true (leads r.transitions r.start t.from) _ c.1 in
      using_back b r.start t.from d.0 (ended_by t k b c.0 (ended t.to d.1), rw (eq-eqb b b refl))) r.transitions taken)

pub used_uses : {n : ℕ} (r : Rule) → Sound n r → (b : ℕ) → used r b ≡ true → Uses r b
unfolding matches
used_uses r h b e =
    let (k, inside) = using_start r (taken_each r h) b e in
    record { text = k.text; bytes = k.bytes; matched = k.final; inside = inside }

-- what a rule uses are bytes
pub uses_byte : {r : Rule} {b : ℕ} → Uses r b → b < 256
uses_byte {r} {b} u = among-all (λ (x : ℕ). x < 256) b u.text u.bytes u.inside

pub used-byte : {n : ℕ} (r : Rule) → Sound n r → (b : ℕ) → used r b ≡ true → b < 256
used-byte r h b e = uses_byte (used_uses r h b e)
