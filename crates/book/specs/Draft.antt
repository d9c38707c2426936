-- What has been read of a book, and what each command makes of it: the checks of document 01, in their order.
use Rattle.answer.specs.declared.Reason.{Reason}
use Rattle.answer.specs.declared.Reason.TheVariants.{BytesAfterEnd, ErrorFinal, LeavesError, NoRule, OutOfRange, Overlap, StartFinal, TagTaken, TooMany, TwiceOrMissing}
use Rattle.std.specs.Prelude.{Bool, true, false, ◌||◌, List, [], ◌∷◌, ◌++◌, ℕ, ◌+◌, leb, ltb, eqb, length}
use Rattle.std.proofs.Math.Option.{Option, none, some}
use Rattle.automaton.specs.Choice.{any, among}
use Rattle.automaton.specs.Rule.{Transition, Rule, overlaps, state_count}
use Rattle.command.specs.declared.Command.{Command}
use Rattle.command.specs.declared.Command.TheVariants.{Rule as RULE, Start, Error, Final, Step, Span, Close, End}
use Rattle.book.specs.Limits.{max_rules, max_transitions}

-- What has been read so far: the rules that are closed and, inside a rule, the rule that is open.
pub record Draft : Type 0 where
  pub rules : List Rule
  pub inside : Bool
  pub tag : ℕ
  pub kind : ℕ
  pub start : Option ℕ
  pub error : Option ℕ
  pub finals : List ℕ
  pub transitions : List Transition

-- with nothing of a rule but its tag and kind
abbrev pub bare : List Rule → Bool → ℕ → ℕ → Draft
bare rules inside tag kind =
    record { rules = rules; inside = inside; tag = tag; kind = kind; start = none; error = none; finals = []; transitions = [] }

-- between rules
abbrev pub between : List Rule → Draft
between rules = bare rules false 0 0

abbrev pub opened : Draft → ℕ → ℕ → Draft
opened d tag kind = bare d.rules true tag kind

-- with these parts of the open rule
abbrev pub with_parts : Draft → Option ℕ → Option ℕ → List ℕ → List Transition → Draft
with_parts d start error finals transitions =
    record {
      rules = d.rules;
      inside = d.inside;
      tag = d.tag;
      kind = d.kind;
      start = start;
      error = error;
      finals = finals;
      transitions = transitions;
    }

abbrev pub with_start : Draft → ℕ → Draft
with_start d s = with_parts d (some s) d.error d.finals d.transitions

abbrev pub with_error : Draft → ℕ → Draft
with_error d s = with_parts d d.start (some s) d.finals d.transitions

abbrev pub with_final : Draft → ℕ → Draft
with_final d s = with_parts d d.start d.error (s ∷ d.finals) d.transitions

abbrev pub with_transition : Draft → Transition → Draft
with_transition d t = with_parts d d.start d.error d.finals (t ∷ d.transitions)

abbrev pub is_set : Option ℕ → Bool
is_set none = false
is_set (some s) = true

abbrev pub is_unset : Option ℕ → Bool
is_unset none = true
is_unset (some s) = false

abbrev pub state_of : Option ℕ → ℕ
state_of none = 0
state_of (some s) = s

abbrev pub rule_of : Draft → Rule
rule_of d =
    record { tag = d.tag; kind = d.kind; start = state_of d.start; error = state_of d.error; finals = d.finals; transitions = d.transitions }

-- ---- one command

-- what a command comes to: reading goes on, the book is accepted, or it is refused for a reason at a place
pub data Verdict : Type 0 where
  goes : Draft → Verdict
  accepts : List Rule → Verdict
  refuses : Reason → ℕ → Verdict

-- refused for this reason at this place where the test holds
unfoldable pub check : Bool → Reason → ℕ → Verdict → Verdict
check true why place next = refuses why place
check false why place next = next

abbrev pub tagged : ℕ → List Rule → Bool
tagged tag rules = any (λ (r : Rule). eqb r.tag tag) rules

abbrev pub is_empty : List Rule → Bool
is_empty [] = true
is_empty (r ∷ rs) = false

-- no state has this number
abbrev pub no_state : ℕ → Bool
no_state s = leb state_count s

-- a move, as STEP and SPAN give it
unfoldable pub move : Draft → ℕ → ℕ → ℕ → ℕ → ℕ → Verdict
move d at from low high to =
    check (leb max_transitions (length d.transitions)) TooMany at (check (ltb high low || (no_state from || no_state to)) OutOfRange at
    (goes (with_transition d (record { from = from; low = low; high = high; to = to }))))

-- the command at `at` of a book of `len` bytes, in the order of checks of document 01
unfoldable pub apply : Draft → Command → ℕ → ℕ → Verdict
apply d (RULE tag kind) at len =
    check (leb max_rules (length d.rules)) TooMany at
    (check (eqb tag 0 || ltb 1 kind) OutOfRange at
    (check (tagged tag d.rules) TagTaken at
    (goes (opened d tag kind))))
apply d (Start s) at len = check (no_state s) OutOfRange at (check (is_set d.start) TwiceOrMissing at (goes (with_start d s)))
apply d (Error s) at len = check (no_state s) OutOfRange at (check (is_set d.error) TwiceOrMissing at (goes (with_error d s)))
apply d (Final s) at len = check (no_state s) OutOfRange at (goes (with_final d s))
apply d (Step from byte to) at len = move d at from byte byte to
apply d (Span from low high to) at len = move d at from low high to
apply d Close at len =
    check (is_unset d.start || is_unset d.error) TwiceOrMissing at
    (check (overlaps d.transitions) Overlap at
    (check (any (λ (t : Transition). eqb t.from (state_of d.error)) d.transitions) LeavesError at
    (check (among (state_of d.error) d.finals) ErrorFinal at
    (check (among (state_of d.start) d.finals) StartFinal at
    (goes (between (d.rules ++ (rule_of d ∷ []))))))))
apply d End at len =
    check (is_empty d.rules) NoRule at
    (check (ltb (at + 1) len) BytesAfterEnd (at + 1)
    (accepts d.rules))
