-- One automaton for several rules: a state stands for a state of each rule. Its walk, which remembers the last state that accepts,
-- finds what is chosen. Assumes nothing.
use mathlib.Core.Path.{◌≡◌, refl, sym, ◌∙◌, ap}
use mathlib.Core.Option.{Option, none, some}
use mathlib.Core.List.{List, [], ◌∷◌}
use Prim.Native.Nat.{ℕ, zero, suc, ◌+◌, ◌-◌, ◌*◌, ◌<◌, ◌≤◌}
use native.Mathlib.Nat.{zero-add, suc-add}
use native.Mathlib.Numerals.{add-one}
use native.Mathlib.Omega.{arith}
use lib.ListN.{length, get_or, take, drop}
use Rattle.automaton.specs.Choice.{if, among}
use Rattle.automaton.specs.Rule.{Rule, step, walk, matches}
use Rattle.automaton.proofs.Walks.{walk_more}
use Rattle.longest_match.specs.Lexer.{Found, or, found, first_match, choose_within, choose}
use Rattle.longest_match.specs.Masks.{bit, agreeing}
use Rattle.longest_match.specs.Layers.{front}

-- ---- the rules together

-- where each rule is behind w
abbrev pub walks : List Rule → List ℕ → List ℕ
walks [] w = []
walks (r ∷ rs) w = walk r r.start w ∷ walks rs w

abbrev pub steps : List Rule → List ℕ → ℕ → List ℕ
steps [] qs b = []
steps (r ∷ rs) [] b = []
steps (r ∷ rs) (q ∷ qs) b = step r q b ∷ steps rs qs b

-- the tag of the earliest rule that is in a final state
abbrev pub first_final : List Rule → List ℕ → Option ℕ
first_final [] qs = none
first_final (r ∷ rs) [] = none
first_final (r ∷ rs) (q ∷ qs) = if (among q r.finals) (some r.tag) (first_final rs qs)

-- the mask of those that are in a final state
abbrev pub final_mask : List Rule → List ℕ → ℕ
final_mask [] qs = 0
final_mask (r ∷ rs) [] = 0
final_mask (r ∷ rs) (q ∷ qs) = bit (among q r.finals) + 2 * final_mask rs qs

walks_more : (rules : List Rule) (t : List ℕ) (n : ℕ) → n < length t
    → walks rules (take (suc n) t) ≡ steps rules (walks rules (take n t)) (get_or t n 0)
walks_more [] t n l = refl
walks_more (r ∷ rs) t n l = rw (walk_more r t n r.start l, walks_more rs t n l)

first_walks : (rules : List Rule) (w : List ℕ) → first_match rules w ≡ first_final rules (walks rules w)
unfolding first_match matches
first_walks [] w = refl
first_walks (r ∷ rs) w = rw (first_walks rs w)

pub agreeing-walks : (rules : List Rule) (w : List ℕ) → agreeing rules w ≡ final_mask rules (walks rules w)
unfolding agreeing matches
agreeing-walks [] w = refl
agreeing-walks (r ∷ rs) w = rw (agreeing-walks rs w)

-- ---- tags, 0 for none

abbrev pub tagged : ℕ → Option ℕ
tagged zero = none
tagged (suc t) = some (suc t)

taken_first : (t : ℕ) (w rest : List ℕ) (x : Option Found) → 0 < t → or (found (tagged t) w rest) x ≡ found (tagged t) w rest
taken_first zero w rest x p = absurd (omega arith)
taken_first (suc t) w rest x p = refl

pub found_front : (t len : ℕ) (text : List ℕ) → 0 < t → found (tagged t) (take len text) (drop len text) ≡ some (front t len text)
found_front zero len text p = absurd (omega arith)
found_front (suc t) len text p = refl

-- ---- the automaton

-- each number that is a state stands for states of the rules, and has where a byte leads and a tag
pub record Joins (rules : List Rule) (State : ℕ → Type 0) (states : ℕ → List ℕ) (next : ℕ → ℕ → ℕ) (tag : ℕ
    → ℕ) (start dead : ℕ) : Type 0 where
  pub start_state : State start
  pub starts : states start ≡ walks rules []
  pub next_state_lem : (s b : ℕ) → State s → b < 256 → State (next s b)
  pub moves : (s b : ℕ) → State s → b < 256 → states (next s b) ≡ steps rules (states s) b
  pub tags : (s : ℕ) → State s → first_final rules (states s) ≡ tagged (tag s)
  pub dead_state : State dead
  pub untagged : tag dead ≡ 0
  pub stays : (b : ℕ) → steps rules (states dead) b ≡ states dead

-- i bytes are read, s is the state; `last` is the last state that accepted, behind `len` bytes, or the dead state for none
pub record Scan (rules : List Rule) (State : ℕ → Type 0) (states : ℕ → List ℕ) (tag : ℕ → ℕ) (text : List ℕ)
    (s last len i : ℕ) : Type 0 where
  pub within : i ≤ length text
  pub inside : State s
  pub state : states s ≡ walks rules (take i text)
  pub known : State last
  pub reached : len ≤ i
  pub idle : len ≡ 0 → tag last ≡ 0
  pub taken : 0 < len → 0 < tag last
  pub there : 0 < len → states last ≡ walks rules (take len text)
  pub most : choose_within rules text i ≡ found (tagged (tag last)) (take len text) (drop len text)

module _ {rules : List Rule} {State : ℕ → Type 0} {states : ℕ → List ℕ} {next : ℕ → ℕ → ℕ} {tag : ℕ → ℕ} {start dead : ℕ}
    (joins : Joins rules State states next tag start dead) where
  pub scan_start : (text : List ℕ) → Scan rules State states tag text start dead 0 0
  unfolding choose_within
  scan_start text = record {
    within = omega arith;
    inside = joins.start_state;
    state = joins.starts;
    known = joins.dead_state;
    reached = omega arith;
    idle = λ e. joins.untagged;
    taken = λ p. absurd (omega arith);
    there = λ p. absurd (omega arith);
    most = rw joins.untagged;
  }

  -- what is matched where the automaton is in s
  first_here : (s : ℕ) (w : List ℕ) → State s → states s ≡ walks rules w → first_match rules w ≡ tagged (tag s)
  first_here s w l e = first_walks rules w ∙ ap (first_final rules) (sym e) ∙ joins.tags s l

  more_yes : (text : List ℕ) (s i : ℕ) → State s → states s ≡ walks rules (take (suc i) text) → 0 < tag s
      → choose_within rules text (suc i) ≡ found (tagged (tag s)) (take (suc i) text) (drop (suc i) text)
  unfolding choose_within
  more_yes text s i l e p = rw (first_here s (take (suc i) text) l e) (taken_first (tag s) _ _ _ p)

  more_no : (text : List ℕ) (s i : ℕ) → State s → states s ≡ walks rules (take (suc i) text) → tag s ≡ 0
      → choose_within rules text (suc i) ≡ choose_within rules text i
  unfolding choose_within
  more_no text s i l e z = rw (first_here s (take (suc i) text) l e, z)

  -- nothing is matched behind the dead state
  dies : (text : List ℕ) (i k : ℕ) → k + i ≤ length text → states dead ≡ walks rules (take i text)
      → (states dead ≡ walks rules (take (k + i) text)) × (choose_within rules text (k + i) ≡ choose_within rules text i)
  dies text i zero l e = rw zero-add (e, refl)
  dies text i (suc k) l e =
      let h = dies text i k (omega arith) e in
      let q : states dead ≡ walks rules (take (suc (k + i)) text) =
      sym (joins.stays (get_or text (k + i) 0)) ∙ ap (λ qs. steps rules qs (get_or text (k + i) 0)) h.0
      ∙ sym (walks_more rules text (k + i) (omega arith)) in
      rw suc-add (q, more_no text dead (k + i) joins.dead_state q joins.untagged ∙ h.1)

  module _ {text : List ℕ} {s last len i s₁ : ℕ} (w : Scan rules State states tag text s last len i) (more : i < length text)
      (byte : get_or text i 0 < 256) (e : s₁ ≡ next s (get_or text i 0)) where
    reaches : State s₁
    reaches = rw e (joins.next_state_lem s (get_or text i 0) w.inside byte)

    here : states s₁ ≡ walks rules (take (suc i) text)
    here =
        ap states e ∙ joins.moves s (get_or text i 0) w.inside byte ∙ ap (λ qs. steps rules qs (get_or text i 0)) w.state
        ∙ sym (walks_more rules text i more)

    pub scan_accept : 0 < tag s₁ → Scan rules State states tag text s₁ s₁ (i + 1) (i + 1)
    scan_accept p = rw add-one (record {
      within = more;
      inside = reaches;
      state = here;
      known = reaches;
      reached = omega arith;
      idle = λ z. absurd (omega arith);
      taken = λ q. p;
      there = λ q. here;
      most = more_yes text s₁ i reaches here p;
    })

    pub scan_pass : tag s₁ ≡ 0 → Scan rules State states tag text s₁ last len (i + 1)
    scan_pass z = rw add-one (record {
      within = more;
      inside = reaches;
      state = here;
      known = w.known;
      reached = omega (arith, w.reached);
      idle = w.idle;
      taken = w.taken;
      there = w.there;
      most = more_no text s₁ i reaches here z ∙ w.most;
    })

    -- so the walk may stop there
    pub scan_dead : s₁ ≡ dead → choose rules text ≡ found (tagged (tag last)) (take len text) (drop len text)
    unfolding choose
    scan_dead z =
        let h : states dead ≡ walks rules (take (suc i) text) = rw (← z) here in
        let q : length text - suc i + suc i ≡ length text = omega arith in
        ap (choose_within rules text) (sym q) ∙ (dies text (suc i) (length text - suc i) (omega arith) h).1
        ∙ more_no text dead i joins.dead_state h joins.untagged ∙ w.most

  pub scan_end : {text : List ℕ} {s last len i : ℕ} → Scan rules State states tag text s last len i → length text ≤ i
      → choose rules text ≡ found (tagged (tag last)) (take len text) (drop len text)
  unfolding choose
  scan_end {text} {i = i} w l =
      let q : length text ≡ i = omega (arith, w.within) in
      ap (choose_within rules text) q ∙ w.most
