-- What a command leaves is fine, and what END accepts is valid. Assumes nothing.
use Rattle.answer.specs.declared.Reason.{Reason}
use mathlib.Core.Path.{◌≡◌, refl, sym}
use mathlib.Core.Bool.{Bool, true, false, ◌||◌}
use mathlib.Core.List.{List, [], ◌∷◌, ◌++◌}
use mathlib.Core.Option.{Option, none, some}
use Prim.Native.Nat.{ℕ, ◌+◌, ◌<◌, ◌≤◌}
use native.Mathlib.Omega.{arith}
use lib.Dec.{leb, ltb, eqb}
use lib.ListN.{length, length-append}
use borrow.Author.Tests.{leb-false, ltb-false, eqb-false, ne_eqb}
use Rattle.automaton.specs.Choice.{All, any, among}
use Rattle.automaton.specs.Rule.{Transition, Rule, overlaps, Ranged, state_count}
use Rattle.automaton.proofs.Tests.{clash, or_false, all_append}
use Rattle.command.specs.declared.Command.{Command}
use Rattle.command.specs.declared.Command.TheVariants.{Rule as RULE, Start, Error, Final, Step, Span, Close, End}
use Rattle.book.specs.Limits.{max_rules, max_transitions}
use Rattle.book.specs.Draft.{Draft, bare, between, with_parts, is_set, is_unset, state_of, rule_of}
use Rattle.book.specs.Draft.{Verdict, goes, accepts, refuses, check, tagged, is_empty, no_state, move, apply}
use Rattle.book.specs.Valid.{ValidRule, Distinct, ValidRules, Valid}
use Rattle.book.specs.Layers.{Below, OpenRule, Fine, stands_inside}

-- the operands of a command that are not checked fit their bytes
abbrev pub InRange : Command → Type 0
InRange (RULE tag kind) = tag < 65536
InRange (Start s) = Unit {0}
InRange (Error s) = Unit {0}
InRange (Final s) = Unit {0}
InRange (Step from byte to) = byte < 256
InRange (Span from low high to) = high < 256
InRange Close = Unit {0}
InRange End = Unit {0}

-- what a verdict leaves is fine
abbrev pub Good : Verdict → Type 0
Good (goes d) = Fine d
Good (accepts rules) = Valid rules
Good (refuses why place) = Unit {0}

check_good : (t : Bool) (reason : Reason) (place : ℕ) (v : Verdict) → (t ≡ false → Good v) → Good (check t reason place v)
unfolding check
check_good true why place v h = tt
check_good false why place v h = h refl

-- ---- lists of rules

distinct_snoc : (rs : List Rule) (r : Rule) → Distinct rs → tagged r.tag rs ≡ false → Distinct (rs ++ (r ∷ []))
distinct_snoc [] r d e = (tt, tt)
distinct_snoc (q ∷ rs) r (h, d) e =
    let p = or_false (eqb q.tag r.tag) (tagged r.tag rs) e in
    let n = ne_eqb r.tag q.tag (λ z. eqb-false q.tag r.tag p.0 (sym z)) in
    (all_append (λ (x : Rule). eqb x.tag q.tag ≡ false) rs (r ∷ []) h (n, tt), distinct_snoc rs r d p.1)

-- ---- one command

-- inside a rule, what is within its range may be set anew
inside_fine : {d : Draft} → Fine d → d.inside ≡ true → {start error : Option ℕ} {finals : List ℕ} {transitions : List Transition}
    → Below state_count start → Below state_count error → All (λ (s : ℕ). s < state_count) finals
    → All (Ranged state_count) transitions → length transitions ≤ max_transitions
    → Fine (with_parts d start error finals transitions)
inside_fine f i start error finals ranged few =
    record {
      closed = f.closed;
      current = f.current;
      start = start;
      error = error;
      finals = finals;
      ranged = ranged;
      few = few;
      idle_finals = λ e. clash i e;
      idle_transitions = λ e. clash i e;
    }

pub move_good : (d : Draft) (at from low high to : ℕ) → Fine d → d.inside ≡ true → high < 256
    → Good (move d at from low high to)
unfolding move
move_good d at from low high to f i b =
    check_good (leb max_transitions (length d.transitions)) _ _ _ (λ few.
    check_good (ltb high low || (no_state from || no_state to)) _ _ _ (λ range.
    let p = or_false (ltb high low) (no_state from || no_state to) range in
    let q = or_false (no_state from) (no_state to) p.1 in
    let h : length d.transitions < max_transitions = leb-false _ _ few in
    let t : Ranged state_count (record { from = from; low = low; high = high; to = to }) =
    record { from_below = leb-false _ _ q.0; to_below = leb-false _ _ q.1; ordered = ltb-false high low p.0; byte = b } in
    inside_fine f i f.start f.error f.finals (t, f.ranged) (omega arith)))

pub state_below : (o : Option ℕ) → Below state_count o → state_of o < state_count
state_below none h = omega arith
state_below (some s) h = h

pub closed-rule : (d : Draft) → Fine d → OpenRule d.rules d.tag d.kind → overlaps d.transitions ≡ false
    → any (λ (t : Transition). eqb t.from (state_of d.error)) d.transitions ≡ false
    → among (state_of d.error) d.finals ≡ false → among (state_of d.start) d.finals ≡ false → ValidRule (rule_of d)
closed-rule d f o apart stays fails nonempty =
    record {
      sound = record {
        start_below = state_below d.start f.start;
        error_below = state_below d.error f.error;
        finals_below_lem = f.finals;
        ranged = f.ranged;
        apart = apart;
        stays = stays;
        fails = fails;
        nonempty = nonempty;
      };
      tag_some = o.tag_some;
      tag_below = o.tag_below;
      kind = o.kind_known;
      few = f.few;
    }

-- a rule just opened, or none
bare_fine : {rules : List Rule} {inside : Bool} {tag kind : ℕ} → ValidRules rules → (inside ≡ true → OpenRule rules tag kind)
    → Fine (bare rules inside tag kind)
bare_fine v o =
    record {
      closed = v;
      current = o;
      start = tt;
      error = tt;
      finals = tt;
      ranged = tt;
      few = omega arith;
      idle_finals = λ e. refl;
      idle_transitions = λ e. refl;
    }

between_fine : (rules : List Rule) → ValidRules rules → Fine (between rules)
between_fine rules v = bare_fine v (λ e. clash e refl)

pub fine_start : Fine (between [])
fine_start = between_fine [] (record { each = tt; distinct = tt; few = omega arith })

positive : (rules : List Rule) → is_empty rules ≡ false → 0 < length rules
positive [] e = clash refl e
positive (r ∷ rs) e = omega arith

pub apply_good : (d : Draft) (c : Command) (at len : ℕ) → Fine d → InRange c → stands_inside c ≡ d.inside → Good (apply d c at len)
unfolding apply
apply_good d (RULE tag kind) at len f r i =
    check_good (leb max_rules (length d.rules)) _ _ _ (λ few. check_good (eqb tag 0 || ltb 1 kind) _ _ _ (λ range.
    check_good (tagged tag d.rules) _ _ _ (λ new.
    let p = or_false (eqb tag 0) (ltb 1 kind) range in
    let z : tag ≡ 0 → ⊥ = eqb-false tag 0 p.0 in
    let k : kind ≤ 1 = ltb-false 1 kind p.1 in
    let l : length d.rules < max_rules = leb-false _ _ few in
    bare_fine f.closed (λ e. record { tag_some = omega arith; tag_below = r; tag_new = new; kind_known = k; room = l }))))
apply_good d (Start s) at len f r i =
    check_good (no_state s) _ _ _ (λ l. check_good (is_set d.start) _ _ _ (λ e.
    inside_fine f (sym i) (leb-false _ _ l) f.error f.finals f.ranged f.few))
apply_good d (Error s) at len f r i =
    check_good (no_state s) _ _ _ (λ l. check_good (is_set d.error) _ _ _ (λ e.
    inside_fine f (sym i) f.start (leb-false _ _ l) f.finals f.ranged f.few))
apply_good d (Final s) at len f r i =
    check_good (no_state s) _ _ _ (λ l. inside_fine f (sym i) f.start f.error (leb-false _ _ l, f.finals) f.ranged f.few)
apply_good d (Step from byte to) at len f r i = move_good d at from byte byte to f (sym i) r
apply_good d (Span from low high to) at len f r i = move_good d at from low high to f (sym i) r
apply_good d Close at len f r i =
    check_good (is_unset d.start || is_unset d.error) _ _ _ (λ set. check_good (overlaps d.transitions) _ _ _ (λ apart.
    check_good (any (λ (t : Transition). eqb t.from (state_of d.error)) d.transitions) _ _ _ (λ stays.
    check_good (among (state_of d.error) d.finals) _ _ _ (λ fails. check_good (among (state_of d.start) d.finals) _ _ _ (λ nonempty.
    let o = f.current (sym i) in
    let l = length-append d.rules (rule_of d ∷ []) in
    between_fine (d.rules ++ (rule_of d ∷ []))
    (record {
      each = all_append ValidRule d.rules (rule_of d ∷ []) f.closed.each (closed-rule d f o apart stays fails nonempty, tt);
      distinct = distinct_snoc d.rules (rule_of d) f.closed.distinct o.tag_new;
      few = omega (arith, o.room, l);
    }))))))
apply_good d End at len f r i =
    check_good (is_empty d.rules) _ _ _ (λ some_rule. check_good (ltb (at + 1) len) _ _ _ (λ last.
    record { rules_valid = f.closed; some_rule = positive d.rules some_rule }))
