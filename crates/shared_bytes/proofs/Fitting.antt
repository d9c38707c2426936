-- Rules whose states are below a bound: what a look at the words of a rule tells, and what holds of every rule. Assumes nothing.
use mathlib.Core.Path.{◌≡◌}
use mathlib.Core.List.{List, [], ◌∷◌}
use Prim.Native.Nat.{ℕ, ◌+◌, ◌-◌, ◌*◌, ◌≤◌, ◌<◌}
use native.Mathlib.Omega.{arith}
use prog.Memory.{up}
use lib.ListN.{length, take, drop}
use Rattle.std.specs.List.{AllWithin}
use Rattle.std.proofs.lemmas.List.{get_or-take, get_or-drop}
use Rattle.std.proofs.Common.{length-take, length-drop}
use Rattle.automaton.specs.Choice.{All}
use Rattle.automaton.specs.Rule.{Transition, Rule, Ranged, state_count}
use Rattle.automaton.specs.Layers.{edge_room, to_of, edge_at, body_at, first_of, end_of, Listed, Table, rule_at, Held, Tabled}
use Rattle.automaton.proofs.Listed.{listed_length, listed_order}
use Rattle.automaton.proofs.Tests.{all_map}
use Rattle.used_bytes.specs.Layers.{Fitted}
use Rattle.shared_bytes.specs.Layers.{Fitting, FirstFit}

-- every rule
pub fitting_wide : {tb : List ℕ} → Held tb → Fitting state_count edge_room tb
fitting_wide h =
    record {
      rules = h.rules;
      holds = h.holds;
      each = λ k l.
          let t = h.holds.each k l in
          record {
            start = t.sound.start_below;
            tos = all_map (Ranged state_count) (λ (u : Transition). u.to < state_count) (λ u q. q.to_below)
                (rule_at h.rules k).transitions t.sound.ranged;
            few = t.few;
          };
    }

-- ---- a look at the words of a rule

listed_tos : (tb : List ℕ) (first end : ℕ) (ts : List Transition) (bound : ℕ) → Listed tb first end ts
    → ((i : ℕ) → first ≤ i → i < end → to_of (edge_at tb i) < bound) → All (λ (u : Transition). u.to < bound) ts
listed_tos tb first end [] bound c h = tt
listed_tos tb first end (u ∷ us) bound (p, e, c) h =
    (rw e.to at (h (end - 1) (omega arith) (omega arith)), listed_tos tb first (end - 1) us bound c (λ i f l. h i f (omega arith)))

module _ {tb : List ℕ} {k first end : ℕ} {r : Rule} (t : Table tb k r) (f : first ≡ first_of (body_at tb k)) (e : end ≡ end_of (body_at tb k))
  where
    listed : Listed tb first end r.transitions
    listed = rw (f, e) t.body.listed

    pub looking_order : first ≤ end
    looking_order = listed_order tb first end r.transitions listed

    pub looking_room : end ≤ length tb
    looking_room = rw e t.body.room

    pub looking_few : (edges : ℕ) → end ≤ first + edges → length r.transitions ≤ edges
    looking_few edges l = omega (arith, listed_length tb first end r.transitions listed)

    -- the words of the slice are those of the transitions
    pub looking_all : (bound : ℕ) → AllWithin (λ (x : ℕ). to_of x < bound) (take (end - first) (drop first tb)) 0
        (length (take (end - first) (drop first tb))) → All (λ (u : Transition). u.to < bound) r.transitions
    looking_all bound h = listed_tos tb first end r.transitions bound listed
        (λ i f l.
        let p : i - first < length (take (end - first) (drop first tb)) =
        simp (length-take, length-drop) (omega (arith, looking_room)) in
        let q : i - first < end - first = omega arith in
        let z : first + (i - first) ≡ i = omega arith in
        rw z at (rw (get_or-take, get_or-drop) at (h (i - first) 0 (omega arith) p)))

-- ---- the rules of a table that holds some

pub tabled_at : {tb : List ℕ} {k : ℕ} (a : Held tb) → k < length a.rules → Tabled tb k
tabled_at {k = k} a l = record { rule = rule_at a.rules k; table = a.holds.each k l }

-- all have been looked at
pub fitting_first : {bound edges n : ℕ} {tb : List ℕ} (a : Held tb) → FirstFit bound edges a.rules n → length a.rules ≤ n → Fitting bound edges tb
fitting_first a f l = record { rules = a.rules; holds = a.holds; each = λ k m. f k (omega arith) }

pub fitted_at : {bound edges k : ℕ} {tb : List ℕ} (f : Fitting bound edges tb) → k < length f.rules → Fitted bound edges tb k
fitted_at {k = k} f l = record { rule = rule_at f.rules k; table = f.holds.each k l; fits = f.each k l }

-- ---- a workspace is small

next : (a n k m j : ℕ) → 0 < a → n ≤ k → m ≤ j → up a (n + m) ≤ k + j + a
next a n k m j p l q = omega arith

within : (x k : ℕ) → x ≤ k → k < 9223372036854775808 → x < 9223372036854775808
within x k l m = omega arith

-- its bytes, field by field
pub workspace_small : (s w : ℕ) → s ≤ 4096 → w < 65536
    → up 8 (up 4 (up 8 (up 8 (up 1 (up 8 (0 + s * 1) + s * 8) + s * 1) + s * 8) + w * 8) + s * 4) < 9223372036854775808
workspace_small s w l m =
    let a = next 8 0 0 (s * 1) 4096 (omega arith) (omega arith) (omega arith) in
    let b = next 1 _ _ (s * 8) 32768 (omega arith) a (omega arith) in
    let c = next 8 _ _ (s * 1) 4096 (omega arith) b (omega arith) in
    let d = next 8 _ _ (s * 8) 32768 (omega arith) c (omega arith) in
    let e = next 4 _ _ (w * 8) 524288 (omega arith) d (omega arith) in
    let f = next 8 _ _ (s * 4) 16384 (omega arith) e (omega arith) in
    within _ _ f (omega arith)
