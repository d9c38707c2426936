-- What the layers of the code ask and answer between themselves. Nobody needs to believe it: the operations' contracts do not rest on it.
use Rattle.answer.specs.declared.Refusal.{Refusal}
use Rattle.answer.specs.declared.Reason.TheVariants.{OutOfRange, TwiceOrMissing}
use Rattle.std.specs.Prelude.{Option as Maybe, Some, None, is_some, Result, Ok, Err, ◌≡◌, Bool, true, false, List, [], ℕ, ◌+◌, ◌<◌, ◌≤◌, length, get_or, set}
use Rattle.std.proofs.Math.Option.{Option, none, some}
use Rattle.automaton.specs.Choice.{if, All}
use Rattle.automaton.specs.Rule.{Transition, Rule, overlaps, Ranged, state_count}
use Rattle.automaton.specs.Layers.{edge_start, name_place, body_place, count_at, body_at, first_of, end_of, edge_at, to_of, name_word, body_word}
use Rattle.automaton.specs.Layers.{start_word, Within, Chain, Chained, Holds}
use Rattle.table_builder.specs.Layers.{stamp_at, head_in, Built, Settles}
use Rattle.command.specs.declared.Command.{Command}
use Rattle.command.specs.declared.Command.TheVariants.{Rule as RULE, Start, Error, Final, Step, Span, Close, End}
use Rattle.book.specs.declared.Book.{Book}
use Rattle.book.specs.declared.Progress.{Progress}
use Rattle.book.specs.declared.Progress.TheVariants.{On, Done, Narrow}
use Rattle.book.specs.Limits.{max_rules, max_transitions}
use Rattle.book.specs.Draft.{Draft, no_state, tagged, Verdict, goes, accepts, refuses, apply}
use Rattle.book.specs.Valid.{ValidRules}

-- ---- What holds of a draft while a book is read.

abbrev pub Below : ℕ → Option ℕ → Type 0
Below n none = Unit {0}
Below n (some s) = s < n

-- a rule of this tag and kind may stand open after these rules
pub record OpenRule (rules : List Rule) (tag kind : ℕ) : Type 0 where
  pub tag_some : 0 < tag
  pub tag_below : tag < 65536
  pub tag_new : tagged tag rules ≡ false
  pub kind_known : kind ≤ 1
  pub room : length rules < max_rules

-- the closed rules are valid, the open rule is in its ranges, and between rules nothing is left of one
pub record Fine (d : Draft) : Type 0 where
  pub closed : ValidRules d.rules
  pub current : d.inside ≡ true → OpenRule d.rules d.tag d.kind
  pub start : Below state_count d.start
  pub error : Below state_count d.error
  pub finals : All (λ (s : ℕ). s < state_count) d.finals
  pub ranged : All (Ranged state_count) d.transitions
  pub few : length d.transitions ≤ max_transitions
  pub idle_finals : d.inside ≡ false → d.finals ≡ []
  pub idle_transitions : d.inside ≡ false → d.transitions ≡ []

-- ---- How the table and the cells of the open rule's states hold a draft.

-- transitions stand before this place: a book has room for a quarter as many as it has bytes
abbrev pub edge_limit : ℕ
edge_limit = 16450

-- as they are lent: no rule in the table, and every cell zero
pub record Fresh (tb rows : List ℕ) : Type 0 where
  pub head : edge_start ≤ length tb
  pub empty : count_at tb ≡ 0
  pub zeros : (s : ℕ) → s < state_count → get_or rows s 0 ≡ 0

-- they hold these closed rules and what the open rule has so far, whose transitions stand from first to before end
pub record Stored (first end : ℕ) (tb rows : List ℕ) (rules : List Rule) (fs : List ℕ) (ts : List Transition) : Type 0 where
  pub holds : Holds tb rules
  pub apart : (k : ℕ) → k < length rules → (edge_start ≤ first_of (body_at tb k)) × (end_of (body_at tb k) ≤ first)
  pub stamps : (s : ℕ) → s < state_count → stamp_at rows s ≤ length rules + 1
  pub built : Built tb rows (length rules + 1) first end fs ts

-- ---- How the code's `Book` holds a draft.

-- a state of a draft, as the code's Option
abbrev pub given : Option ℕ → Maybe ℕ
given none = None
given (some s) = Some s

-- the state that is given, 0 for none
abbrev pub state_in : Maybe ℕ → ℕ
state_in None = 0
state_in (Some s) = s

-- the state s that START or ERROR gives where `before` was given before, or why it is refused
unfoldable pub once : Maybe ℕ → ℕ → ℕ → Result ℕ Refusal
once before s at =
    if (no_state s) (Err (record { reason = OutOfRange; place = at }))
    (if (is_some before) (Err (record { reason = TwiceOrMissing; place = at })) (Ok s))

-- the `Book` of a draft
abbrev pub book_of : Draft → ℕ → ℕ → Book
book_of d first edges =
    record {
      rules = length d.rules;
      first = first;
      edges = edges;
      inside = d.inside;
      tag = d.tag;
      kind = d.kind;
      start = given d.start;
      error = given d.error;
      overlap = overlaps d.transitions;
    }

-- the `Book` between two rules
abbrev pub idle : ℕ → ℕ → Book
idle rules edges =
    record {
      rules = rules;
      first = edges;
      edges = edges;
      inside = false;
      tag = 0;
      kind = 0;
      start = None;
      error = None;
      overlap = false;
    }

-- b, the table and the cells hold the draft d
pub record Represents (b : Book) (tb rows : List ℕ) (d : Draft) : Type 0 where
  pub fine : Fine d
  pub stored : Stored b.first b.edges tb rows d.rules d.finals d.transitions
  pub same : b ≡ book_of d b.first b.edges

-- they hold some draft
pub record Represented (b : Book) (tb rows : List ℕ) : Type 0 where
  pub draft : Draft
  pub holds : Represents b tb rows draft

-- what a command inside a rule asks of them
pub record Inside (b : Book) (tb rows : List ℕ) : Type 0 where
  pub few : b.rules < max_rules
  pub head : edge_start ≤ length tb
  pub start : edge_start ≤ b.first
  pub order : b.first ≤ b.edges
  pub room : b.edges ≤ length tb
  pub short : b.edges < 65536
  pub chains : (s : ℕ) → s < state_count → Chained tb (head_in rows (b.rules + 1) s)
  pub tops : (s : ℕ) → s < state_count → head_in rows (b.rules + 1) s < b.edges
  pub below : (i : ℕ) → b.first ≤ i → i < b.edges → to_of (edge_at tb i) < state_count
  pub start_below : state_in b.start < state_count

-- the table with the open rule as its next one: its transitions settled, its name and body stored, and the rules counted
pub record Closes (b : Book) (rows tb tb₁ : List ℕ) : Type 0 where
  -- between these bytes all lie that may come first
  pub bytes : ℕ
  pub small : bytes < 65536
  pub reach : (first : ℕ) (ts : List Transition) → Chain tb first (head_in rows (b.rules + 1) (state_in b.start)) ts → Within bytes ts
  pub middle : List ℕ
  pub settles : Settles rows (b.rules + 1) b.first b.edges tb middle
  pub stored : tb₁
      ≡ set (set (set middle (name_place b.rules) (name_word b.tag b.kind (state_in b.error) (state_in b.start)))
      (body_place b.rules) (body_word (start_word (head_in rows (b.rules + 1) (state_in b.start)) bytes) b.first b.edges))
      0 (b.rules + 1)

-- ---- What the code makes of one command.

-- whether a command stands inside a rule
abbrev pub stands_inside : Command → Bool
stands_inside (RULE tag kind) = false
stands_inside (Start s) = true
stands_inside (Error s) = true
stands_inside (Final s) = true
stands_inside (Step from byte to) = true
stands_inside (Span from low high to) = true
stands_inside Close = true
stands_inside End = false

-- how many transitions a command adds at most
abbrev pub adds : Command → ℕ
adds (RULE tag kind) = 0
adds (Start s) = 0
adds (Error s) = 0
adds (Final s) = 0
adds (Step from byte to) = 1
adds (Span from low high to) = 1
adds Close = 0
adds End = 0

-- what the code made of a command is what the verdict says, and transitions stand before n
abbrev pub Follows : Verdict → Result Progress Refusal → List ℕ → List ℕ → ℕ → Type 0
Follows (goes d) (Ok (On b)) tb rows n = Represents b tb rows d × (b.edges ≤ n)
Follows (goes d) (Ok (Done k)) tb rows n = ⊥
Follows (goes d) (Ok Narrow) tb rows n = ⊥
Follows (goes d) (Err f) tb rows n = ⊥
Follows (accepts rules) (Ok (On b)) tb rows n = ⊥
Follows (accepts rules) (Ok (Done k)) tb rows n = (k ≡ length rules) × Holds tb rules
Follows (accepts rules) (Ok Narrow) tb rows n = ⊥
Follows (accepts rules) (Err f) tb rows n = ⊥
Follows (refuses why place) (Ok (On b)) tb rows n = ⊥
Follows (refuses why place) (Ok (Done k)) tb rows n = ⊥
Follows (refuses why place) (Ok Narrow) tb rows n = ⊥
Follows (refuses why place) (Err f) tb rows n = f ≡ record { reason = why; place = place }

-- or it has changed nothing yet, since there is no cell for a state of the command
abbrev pub Makes : Verdict → Result Progress Refusal → List ℕ → List ℕ → List ℕ → List ℕ → ℕ → Type 0
Makes v (Ok (On b)) tb rows tb₁ rows₁ n = Follows v (Ok (On b)) tb₁ rows₁ n
Makes v (Ok (Done k)) tb rows tb₁ rows₁ n = Follows v (Ok (Done k)) tb₁ rows₁ n
Makes v (Ok Narrow) tb rows tb₁ rows₁ n = (tb₁ ≡ tb) × (rows₁ ≡ rows) × (length rows < state_count)
Makes v (Err f) tb rows tb₁ rows₁ n = Follows v (Err f) tb₁ rows₁ n

-- Of every draft that b, the table and the cells hold, the code made of the command what `apply` says, and added no more transitions
-- than the command has. The command stands where it may.
abbrev pub Takes : Book → Command → ℕ → ℕ → Result Progress Refusal → List ℕ → List ℕ → List ℕ → List ℕ → Type 0
Takes b c at len r tb rows tb₁ rows₁ =
    (d : Draft) → Represents b tb rows d → d.inside ≡ stands_inside c
    → Makes (apply d c at len) r tb rows tb₁ rows₁ (b.edges + adds c)
