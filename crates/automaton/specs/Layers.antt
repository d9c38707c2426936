-- What the layers of the code ask and answer between themselves. Nobody needs to believe it: the operations' contracts do not rest on it.
use Rattle.std.specs.Prelude.{◌≡◌, Bool, false, ◌&&◌, List, [], ◌∷◌, Option, None, Some, ℕ, ◌+◌, ◌-◌, ◌*◌, ◌/◌, ◌%◌, ◌<◌, ◌≤◌, leb, eqb, length, get_or}
use Rattle.automaton.specs.Rule.{state_count, Transition, Rule, Sound}
use Rattle.automaton.specs.Choice.{if, All, among}

-- ---- How one slice of words, the table, holds the rules of a book.
-- Word 0 is the number of rules. Two words for each rule follow, its name (tag, kind and the numbers of its error state and its start) and
-- its body (what a walk asks of its start, and where the words of its transitions lie), with room for `rule_room` rules; then a word for
-- each transition, rule by rule.
-- A spot is what is kept of a state: its number, the head of the chain of the transitions that leave it, and whether it is final.
-- Of the start, which is not final, the head is kept, and two bytes between which all lie that these transitions cover.
-- The word of a transition has the spot to which it leads and the next link of its chain. A link is 0 for none, else the place of a
-- transition's word, and the links of a chain fall.

-- rules that a table has room for, the places of the name and of the body of rule number k, and that of the first transition's word
abbrev pub rule_room : ℕ
rule_room = 32

abbrev pub name_place : ℕ → ℕ
name_place k = k + 1

abbrev pub body_place : ℕ → ℕ
body_place k = k + 33

abbrev pub edge_start : ℕ
edge_start = 65

-- transitions that a rule may have
abbrev pub edge_room : ℕ
edge_room = 4096

-- ---- Words.

-- the parts of a spot
abbrev pub state_of : ℕ → ℕ
state_of p = p / 2 % 32768

abbrev pub head_of : ℕ → ℕ
head_of p = p / 65536

abbrev pub is_final : ℕ → Bool
is_final p = eqb (p % 2) 1

-- the start of a rule: its head stands as in a spot, the two bytes as those of a transition in its word
abbrev pub start_word : ℕ → ℕ → ℕ
start_word head bytes = head * 65536 + bytes

-- the spot of a state of which nothing is known yet but its number
abbrev pub bare_spot : ℕ → ℕ
bare_spot state = state * 2

-- the word of a transition, and its parts; the state that it leaves is that of its chain
abbrev pub edge_word : ℕ → ℕ → ℕ → ℕ → ℕ
edge_word low high next spot = spot * 4294967296 + next * 65536 + high * 256 + low

abbrev pub low_of : ℕ → ℕ
low_of e = e % 256

abbrev pub high_of : ℕ → ℕ
high_of e = e / 256 % 256

abbrev pub next_of : ℕ → ℕ
next_of e = e / 65536 % 65536

abbrev pub spot_of : ℕ → ℕ
spot_of e = e / 4294967296

abbrev pub to_of : ℕ → ℕ
to_of e = state_of (spot_of e)

abbrev pub covers_word : ℕ → ℕ → Bool
covers_word e b = leb (low_of e) b && leb b (high_of e)

-- the name of a rule, and its parts
abbrev pub name_word : ℕ → ℕ → ℕ → ℕ → ℕ
name_word tag kind error start = tag * 1099511627776 + error * 16777216 + kind * 65536 + start

abbrev pub tag_of : ℕ → ℕ
tag_of w = w / 1099511627776

abbrev pub error_of : ℕ → ℕ
error_of w = w / 16777216 % 65536

abbrev pub kind_of : ℕ → ℕ
kind_of w = w / 65536 % 256

-- the body of a rule, and its parts: its transitions' words stand from `first` to before `end`
abbrev pub body_word : ℕ → ℕ → ℕ → ℕ
body_word start first end = start * 4294967296 + first * 65536 + end

abbrev pub start_of : ℕ → ℕ
start_of w = w / 4294967296

abbrev pub first_of : ℕ → ℕ
first_of w = w / 65536 % 65536

abbrev pub end_of : ℕ → ℕ
end_of w = w % 65536

-- ---- The words of a table.

abbrev pub count_at : List ℕ → ℕ
count_at tb = get_or tb 0 0

abbrev pub name_at : List ℕ → ℕ → ℕ
name_at tb k = get_or tb (name_place k) 0

abbrev pub body_at : List ℕ → ℕ → ℕ
body_at tb k = get_or tb (body_place k) 0

abbrev pub edge_at : List ℕ → ℕ → ℕ
edge_at tb i = get_or tb i 0

-- ---- Transitions.

-- the word at i is that of t
pub record Edge (tb : List ℕ) (i : ℕ) (t : Transition) : Type 0 where
  pub room : i < length tb
  pub low : low_of (edge_at tb i) ≡ t.low
  pub high : high_of (edge_at tb i) ≡ t.high
  pub to : to_of (edge_at tb i) ≡ t.to

-- the words from first to before end are those of these transitions, the last one first
abbrev pub Listed : List ℕ → ℕ → ℕ → List Transition → Type 0
Listed tb first end [] = end ≡ first
Listed tb first end (t ∷ ts) = (first < end) × Edge tb (end - 1) t × Listed tb first (end - 1) ts

-- the link h leads to the word of t, not before `first`, and its next link is lower
pub record Link (tb : List ℕ) (first h : ℕ) (t : Transition) : Type 0 where
  pub some : 0 < h
  pub above : first ≤ h
  pub back : next_of (edge_at tb h) < h
  pub edge : Edge tb h t

-- the chain from link h is just these transitions
abbrev pub Chain : List ℕ → ℕ → ℕ → List Transition → Type 0
Chain tb first h [] = h ≡ 0
Chain tb first h (t ∷ ts) = Link tb first h t × Chain tb first (next_of (edge_at tb h)) ts

-- a chain starts at link h
pub record Chained (tb : List ℕ) (h : ℕ) : Type 0 where
  pub first : ℕ
  pub transitions : List Transition
  pub chain : Chain tb first h transitions

-- a step from link h of a chain past its word e
pub record Passes (tb : List ℕ) (h e : ℕ) (tb₁ : List ℕ) (h₁ : ℕ) : Type 0 where
  pub some : 0 < h
  pub word : e ≡ edge_at tb h
  pub next : h₁ ≡ next_of (edge_at tb h)
  pub lower : h₁ < h
  pub same : tb₁ ≡ tb

-- a step from link h, with no word at the chain's end
abbrev pub Follows : List ℕ → ℕ → Option ℕ → List ℕ → ℕ → Type 0
Follows tb h None tb₁ h₁ = (h ≡ 0) × (h₁ ≡ 0)
Follows tb h (Some e) tb₁ h₁ = Passes tb h e tb₁ h₁

-- what these transitions cover lies from low to high
abbrev pub Between : ℕ → ℕ → List Transition → Type 0
Between low high ts = All (λ (t : Transition). (low ≤ t.low) × (t.high ≤ high)) ts

-- and between the two bytes of p
abbrev pub Within : ℕ → List Transition → Type 0
Within p ts = Between (low_of p) (high_of p) ts

-- the transitions that leave s
unfoldable pub leaving : ℕ → List Transition → List Transition
leaving s [] = []
leaving s (t ∷ ts) = if (eqb t.from s) (t ∷ leaving s ts) (leaving s ts)

-- ---- The rules of a book.

-- p is the spot of state s of a rule with these final states and transitions, whose words stand from first to before end
pub record Spot (tb : List ℕ) (first end : ℕ) (fs : List ℕ) (ts : List Transition) (s p : ℕ) : Type 0 where
  pub state : state_of p ≡ s
  pub chain : Chain tb first (head_of p) (leaving s ts)
  pub below : head_of p < end
  pub final : is_final p ≡ among s fs

-- p is the start s of a rule with these transitions
pub record Opens (tb : List ℕ) (first end : ℕ) (ts : List Transition) (s p : ℕ) : Type 0 where
  pub chain : Chain tb first (head_of p) (leaving s ts)
  pub below : head_of p < end
  pub reach : Within p (leaving s ts)

-- the transitions of a rule stand from first to before end, each with the spot to which it leads
pub record Body (tb : List ℕ) (first end : ℕ) (fs : List ℕ) (ts : List Transition) : Type 0 where
  pub room : end ≤ length tb
  pub listed : Listed tb first end ts
  pub spots : (i : ℕ) → first ≤ i → i < end → Spot tb first end fs ts (to_of (edge_at tb i)) (spot_of (edge_at tb i))

-- rule number k of the table is r
pub record Table (tb : List ℕ) (k : ℕ) (r : Rule) : Type 0 where
  pub number : k < rule_room
  pub room : edge_start ≤ length tb
  pub name : name_at tb k ≡ name_word r.tag r.kind r.error r.start
  pub kind : r.kind < 256
  pub start : Opens tb (first_of (body_at tb k)) (end_of (body_at tb k)) r.transitions r.start (start_of (body_at tb k))
  pub body : Body tb (first_of (body_at tb k)) (end_of (body_at tb k)) r.finals r.transitions
  pub sound : Sound state_count r
  pub few : length r.transitions ≤ edge_room

-- the table has a rule number k
pub record Tabled (tb : List ℕ) (k : ℕ) : Type 0 where
  pub rule : Rule
  pub table : Table tb k rule

-- a rule with nothing in it, for a number that no rule has
abbrev pub blank : Rule
blank = record { tag = 0; kind = 0; start = 0; error = 0; finals = []; transitions = [] }

abbrev pub rule_at : List Rule → ℕ → Rule
rule_at rules k = get_or rules k blank

-- the table holds these rules, in this order
pub record Holds (tb : List ℕ) (rules : List Rule) : Type 0 where
  pub room : edge_start ≤ length tb
  pub few : length rules ≤ rule_room
  pub count : count_at tb ≡ length rules
  pub each : (k : ℕ) → k < length rules → Table tb k (rule_at rules k)

-- the table holds some rules
pub record Held (tb : List ℕ) : Type 0 where
  pub rules : List Rule
  pub holds : Holds tb rules

-- k is the number of the first rule of this tag, or that of all rules where none has it
pub record Ranks (rules : List Rule) (tag k : ℕ) : Type 0 where
  pub within : k ≤ length rules
  pub earlier : (j : ℕ) → j < k → eqb (rule_at rules j).tag tag ≡ false
  pub here : k < length rules → (rule_at rules k).tag ≡ tag
