-- A set is numbered (`learn`), and all those of a row (the loop of `fill_row`). Assumes nothing.
use mathlib.Core.Path.{◌≡◌, refl, sym, ap, ◌∙◌}
use mathlib.Core.List.{List, [], ◌∷◌, ◌++◌, map, map-append}
use Rattle.std.specs.Prelude.{Some}
use Prim.Native.Nat.{ℕ, ◌+◌, ◌≤◌, ◌<◌}
use native.Mathlib.Nat.{le_refl}
use native.Mathlib.Numerals.{add-one}
use native.Mathlib.Omega.{arith}
use lib.Bits.{bit_and, and_zero_r}
use lib.ListN.{length, get_or, take, drop, set, take-append-drop, get_or-map}
use lib.Seq.{length-take-le, take-suc, take-suc-set, take_all}
use Rattle.subsets.specs.States.{sets_ahead, discover, number_of}
use Rattle.subsets.specs.Layers.{Begins, Numbered, Learns, Fills}
use Rattle.subsets.specs.declared.Latest.{Latest}
use Rattle.subsets.proofs.Reaching.{begins_trans, begins_to, begins_length, number_more}
use Rattle.subsets.proofs.Reaching.{discover-append, discover_begins, discover_known, discover_new}

-- ---- a set is met

module _ (sets : List ℕ) (l : Latest) (x : ℕ) (few : l.count ≤ 254) (size : length sets ≡ 256) where
  pub learns_known : (r : Latest) → r.count ≡ l.count → r.set ≡ x → Numbered sets r → Learns sets l x r sets
  learns_known r c s n =
      let long : length (take r.count sets) ≡ r.count = length-take-le r.count sets (omega arith) in
      record {
        few = omega arith;
        met = s;
        latest = n;
        known =
            sym (discover_known (take r.count sets) r.set (omega (arith, n.number, n.within)))
            ∙ ap (λ (k : ℕ). discover (take k sets) (r.set ∷ [])) c ∙ ap (λ (y : ℕ). discover (take l.count sets) (y ∷ [])) s;
      }

  pub learns_new : length (take l.count sets) < number_of (take l.count sets) x
      → Learns sets l x (record { count = l.count + 1; set = x; number = l.count + 1 }) (set sets l.count x)
  learns_new b =
      let long : length (take l.count sets) ≡ l.count = length-take-le l.count sets (omega arith) in
      let a = discover_new (take l.count sets) x b in
      let front : take (l.count + 1) (set sets l.count x) ≡ take l.count sets ++ (x ∷ []) =
      ap (λ (k : ℕ). take k (set sets l.count x)) (add-one l.count) ∙ take-suc-set sets l.count x (omega arith) in
      record {
        few = omega arith;
        met = refl;
        latest = record {
          within = le_refl (l.count + 1);
          number = ap (λ (k : ℕ). k + 1) (sym long) ∙ sym a.numbered ∙ ap (λ (k : List ℕ). number_of k x) (sym front);
        };
        known = front ∙ sym a.adds;
      }

-- ---- a row of sets

-- the first b sets of the row are numbered
pub record Filling (row entry : List ℕ) (count : ℕ) (sets targets : List ℕ) (last : Latest) (b : ℕ) : Type 0 where
  pub size : length sets ≡ 256
  pub few : last.count ≤ 254
  pub latest : Numbered sets last
  pub known : take last.count sets ≡ discover (take count entry) (take b row)
  pub written : (all : List ℕ) → Begins (take last.count sets) all → take b targets ≡ map (number_of all) (take b row)

pub filling_start : (row entry : List ℕ) (count : ℕ) (targets : List ℕ) → length entry ≡ 256 → count ≤ 254
    → Filling row entry count entry targets (record { count = count; set = 0; number = 0 }) 0
unfolding discover number_of
filling_start row entry count targets s l =
    record { size = s; few = l; latest = record { within = omega arith; number = refl }; known = refl; written = λ all a. refl }

pub row_at_lem : (takers : List ℕ) (ahead b : ℕ) → get_or (sets_ahead takers ahead) b 0 ≡ bit_and ahead (get_or takers b 0)
row_at_lem takers ahead b =
    ap (get_or (sets_ahead takers ahead) b) (sym (and_zero_r ahead)) ∙ get_or-map (bit_and ahead) takers b 0

module _ {row entry : List ℕ} {count : ℕ} {sets targets : List ℕ} {last : Latest} {b : ℕ}
    (w : Filling row entry count sets targets last b) (long : length row ≡ 256) where
  module _ (l : b < 256) {x : ℕ} (e : x ≡ get_or row b 0) {r : Latest} {next : List ℕ} (size : length next ≡ 256)
      (m : Learns sets last x r next) where
    more : take (b + 1) row ≡ take b row ++ (x ∷ [])
    more = ap (λ (k : ℕ). take k row) (add-one b) ∙ take-suc row b 0 (omega arith) ∙ ap (λ (y : ℕ). take b row ++ (y ∷ [])) (sym e)

    known : take r.count next ≡ discover (take count entry) (take (b + 1) row)
    known =
        m.known ∙ ap (λ (k : List ℕ). discover k (x ∷ [])) w.known ∙ sym (discover-append (take count entry) (take b row) (x ∷ []))
        ∙ ap (discover (take count entry)) (sym more)

    pub filling_next : length targets ≡ 256 → r.count ≤ 254
        → Filling row entry count next (set targets b r.number) r (b + 1)
    filling_next room f = record {
      size = size;
      few = f;
      latest = m.latest;
      known = known;
      written = λ all a.
          let enough : length (take r.count next) ≡ r.count = length-take-le r.count next (omega arith) in
          let front : Begins (take last.count sets) all =
          begins_trans (begins_to (discover_begins (take last.count sets) (x ∷ [])) (sym m.known)) a in
          let number : r.number ≡ number_of all x =
          m.latest.number ∙ sym (number_more a r.set (omega (arith, m.latest.number, m.latest.within)))
          ∙ ap (number_of all) m.met in
          ap (λ (k : ℕ). take k (set targets b r.number)) (add-one b) ∙ take-suc-set targets b r.number (omega arith)
          ∙ ap (λ (k : List ℕ). k ++ (r.number ∷ [])) (w.written all front)
          ∙ ap (λ (y : ℕ). map (number_of all) (take b row) ++ (y ∷ [])) number
          ∙ sym (map-append (number_of all) (take b row) (x ∷ [])) ∙ ap (map (number_of all)) (sym more);
    }

    -- what is stored then plays no part
    pub filling_many : 254 < r.count → 254 < length (discover (take count entry) row)
    filling_many f =
        let more : Begins (discover (take count entry) (take (b + 1) row)) (discover (take count entry) row) =
        begins_to (discover_begins (discover (take count entry) (take (b + 1) row)) (drop (b + 1) row))
        (sym (discover-append (take count entry) (take (b + 1) row) (drop (b + 1) row))
        ∙ ap (discover (take count entry)) (take-append-drop (b + 1) row)) in
        let n : length (take r.count next) ≡ r.count = length-take-le r.count next (omega (arith, m.few)) in
        omega (arith, begins_length more, ap length known)

  pub filling_end : length targets ≡ 256 → b ≡ 256 → Fills row entry count (Some last.count) sets targets
  filling_end room e =
      let whole : take b row ≡ row = take_all b row (omega arith) in
      record {
        few = w.few;
        known = w.known ∙ ap (discover (take count entry)) whole;
        written = λ all a. sym (take_all b targets (omega arith)) ∙ w.written all a ∙ ap (map (number_of all)) whole;
      }
