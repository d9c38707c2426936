-- From what the walk finds to what is chosen, and by which rule. Assumes nothing.
use mathlib.Core.Path.{◌≡◌, refl, sym, ◌∙◌, ap}
use mathlib.Core.Bool.{false}
use mathlib.Core.Option.{none, some}
use Rattle.std.specs.Prelude.{Option as Maybe, None, Some, MatchOption, IfSome}
use mathlib.Core.List.{List, ◌∷◌}
use Prim.Native.Nat.{ℕ, zero, suc, ◌+◌, ◌-◌, ◌<◌, ◌≤◌}
use native.Mathlib.Nat.{zero-add}
use native.Mathlib.Omega.{arith}
use lib.ListN.{length, get_or, take, drop, length-append, get_or-append}
use lib.Seq.{get_or-append_seam}
use borrow.Author.Count.{below_more}
use Rattle.automaton.specs.Rule.{Rule, matches}
use Rattle.automaton.specs.Layers.{blank, rule_at}
use Rattle.automaton.proofs.Tests.{all_at}
use Rattle.longest_match.specs.Lexer.{choose, found}
use Rattle.longest_match.specs.Layers.{front, Chooses, Agrees}
use Rattle.longest_match.proofs.First.{Earliest}
use Rattle.longest_match.proofs.Choosing.{choose_some}
use Rattle.builtin.specs.Book.{builtin_rules}
use Rattle.builtin.specs.declared.scanner.Match.{Match}
use Rattle.builtin.specs.Layers.{Scanned, Stays, State, states_of, next_state, tag_at, mask_of_state, dead, start, accepting}
use Rattle.builtin.proofs.Product.{Scan, final_mask, agreeing-walks, tagged, found_front}
use Rattle.builtin.proofs.Product.{scan_start, scan_accept, scan_pass, scan_dead, scan_end}
use Rattle.builtin.proofs.Joined.{joined, accepts, passes, mask_is}

-- ---- the walk over the built-in tables

abbrev pub Walked : List ℕ → ℕ → ℕ → ℕ → ℕ → Type 0
Walked text s last len i = Scan builtin_rules State states_of tag_at text s last len i

pub walked_start : (text : List ℕ) → Walked text start dead 0 0
walked_start text = scan_start joined text

module _ {text : List ℕ} {s last len i s₁ : ℕ} (w : Walked text s last len i) (more : i < length text) (byte : get_or text i 0 < 256)
    (e : s₁ ≡ next_state s (get_or text i 0)) where
  pub reaches : State s₁
  reaches = rw e (joined.next_state_lem s (get_or text i 0) w.inside byte)

  pub walked_accept : accepting ≤ s₁ → Walked text s₁ s₁ (i + 1) (i + 1)
  walked_accept h = scan_accept joined w more byte e (accepts s₁ reaches h)

  pub walked_pass : s₁ < accepting → Walked text s₁ last len (i + 1)
  walked_pass h = scan_pass joined w more byte e (passes s₁ reaches h)

-- bytes that lead from an accepting state back to it
run_on : (n : ℕ) {text : List ℕ} {s i : ℕ} → Walked text s s i i → accepting ≤ s → ((k : ℕ) → get_or text k 0 < 256) → Stays s text i (n + i)
    → Walked text s s (n + i) (n + i)
run_on zero w h byte r = rw zero-add w
run_on (suc n) {text} {s} {i} w h byte r =
    let q : suc n + i ≡ n + i + 1 = omega arith in
    let l : n + i < length text = omega (arith, r.within) in
    let v = run_on n w h byte (record { further = omega arith; within = omega arith; same = λ k a b. r.same k a (omega arith) }) in
    rw q (walked_accept v l (byte (n + i)) (sym (r.same (n + i) (omega arith) (omega arith))) h)

pub walked_run : {text : List ℕ} {s i j : ℕ} → Walked text s s i i → accepting ≤ s → ((k : ℕ) → get_or text k 0 < 256) → Stays s text i j
    → Walked text s s j j
walked_run {text} {s} {i} {j} w h byte r =
    let l = r.further in
    let q : j ≡ j - i + i = omega arith in
    rw q (run_on (j - i) w h byte (rw q at r))

-- a run of bytes that lead back to it, from none on
pub stays_none : {s : ℕ} {text : List ℕ} (from : ℕ) → from ≤ length text → Stays s text from from
stays_none from l = record { further = omega arith; within = l; same = λ k a b. absurd (omega arith) }

pub stays_more : {s from i : ℕ} {text : List ℕ} → Stays s text from i → i < length text → next_state s (get_or text i 0) ≡ s
    → Stays s text from (i + 1)
stays_more {s} {from} {i} {text} w l e =
    record {
      further = omega (arith, w.further);
      within = omega arith;
      same = λ k a b. below_more (λ (m : ℕ). from ≤ m → next_state s (get_or text m 0) ≡ s) i (λ m c d. w.same m d c) (λ d. e) k b a;
    }

-- the state behind a token and its length; those of none before the first
abbrev pub state_in : Maybe Match → ℕ
state_in None = dead
state_in (Some m) = m.state

abbrev pub len_in : Maybe Match → ℕ
len_in None = 0
len_in (Some m) = m.len

-- the walk stands in s at i, and this is the longest token so far
pub record Walking (text : List ℕ) (s : ℕ) (longest : Maybe Match) (i : ℕ) : Type 0 where
  pub walked : Walked text s (state_in longest) (len_in longest) i
  pub some : IfSome longest (λ m. 0 < m.len)

-- what stands at the front of a text
abbrev pub Front : List ℕ → Maybe Match → Type 0
Front text r = MatchOption r (choose builtin_rules text ≡ none) (λ m. Scanned text m.state m.len)

settled : {text : List ℕ} {s : ℕ} (longest : Maybe Match) {i : ℕ} → Walking text s longest i
    → choose builtin_rules text
    ≡ found (tagged (tag_at (state_in longest))) (take (len_in longest) text) (drop (len_in longest) text)
    → Front text longest
settled None w e = e ∙ rw (w.walked.idle refl)
settled {text} (Some m) w e =
    let v = w.walked in
    let p = w.some in
    record {
      known = v.known;
      some = p;
      within = omega (arith, v.within, v.reached);
      chosen = e ∙ found_front (tag_at m.state) m.len text (v.taken p);
      agreed = mask_is m.state v.known ∙ ap (final_mask builtin_rules) (v.there p) ∙ sym (agreeing-walks builtin_rules (take m.len text));
    }

pub scanned_end : {text : List ℕ} {s : ℕ} {longest : Maybe Match} {i : ℕ} → Walking text s longest i → length text ≤ i
    → Front text longest
scanned_end {longest = longest} w l = settled longest w (scan_end joined w.walked l)

pub scanned_dead : {text : List ℕ} {s : ℕ} {longest : Maybe Match} {i s₁ : ℕ} → Walking text s longest i → i < length text
    → get_or text i 0 < 256 → s₁ ≡ next_state s (get_or text i 0) → s₁ ≡ dead → Front text longest
scanned_dead {longest = longest} w l b e z = settled longest w (scan_dead joined w.walked l b e z)

-- ---- the rule

-- rule number `rule` has this tag, and it is chosen with so many bytes
pub record Picked (rules : List Rule) (text : List ℕ) (tag len : ℕ) : Type 0 where
  pub rule : ℕ
  pub chooses : Chooses rules text rule len
  pub names : tag ≡ (rule_at rules rule).tag

module _ (rules : List Rule) (text : List ℕ) (tag len : ℕ) (p : 0 < len) (within : len ≤ length text)
    (e : choose rules text ≡ some (front tag len text))
    (first : Earliest rules (take len text) tag) where
  there : rule_at rules (length first.before) ≡ first.rule
  there = ap (λ (rs : List Rule). rule_at rs (length first.before)) first.splits
      ∙ get_or-append_seam first.before first.rule first.behind blank

  earlier_at : (k : ℕ) → k < length first.before → matches (rule_at rules k) (take len text) ≡ false
  earlier_at k l =
      let q : rule_at rules k ≡ rule_at first.before k =
      ap (λ (rs : List Rule). rule_at rs k) first.splits ∙ get_or-append first.before (first.rule ∷ first.behind) blank k l in
      rw q (all_at (λ (r : Rule). matches r (take len text) ≡ false) first.before blank first.earlier k l)

  named : tag ≡ (rule_at rules (length first.before)).tag
  named = sym first.tagged ∙ ap (λ (r : Rule). r.tag) (sym there)

  picked_some : Picked rules text tag len
  picked_some = record {
    rule = length first.before;
    chooses = record {
      within = within;
      nothing = λ z. absurd (omega arith);
      idle = λ z. absurd (omega arith);
      known = λ q. omega (arith, ap length first.splits, length-append first.before (first.rule ∷ first.behind));
      matched = λ q. rw there first.matched;
      earlier = λ q. earlier_at;
      chosen = λ q. rw (← named) e;
    };
    names = named;
  }

pub picked : {text : List ℕ} {last len : ℕ} → Scanned text last len → Picked builtin_rules text (tag_at last) len
picked {text} {last} {len} s =
    picked_some builtin_rules text (tag_at last) len s.some s.within s.chosen
    (choose_some builtin_rules text (front (tag_at last) len text) s.chosen).earliest

-- the mask of the state behind the token is that of the rules that agree on it
pub agrees : {text : List ℕ} {last len : ℕ} → Scanned text last len → Agrees builtin_rules text len (mask_of_state last)
agrees s = let p = s.some in record { empty = λ z. absurd (omega arith); agreed = λ q. s.agreed }
