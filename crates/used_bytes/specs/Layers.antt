-- What the layers of the code ask and answer between themselves. Nobody needs to believe it: the operations' contracts do not rest on it.
use Rattle.std.specs.Prelude.{◌≡◌, Bool, true, false, ◌&&◌, ◌||◌, ◌⊎◌, List, [], ◌∷◌, ℕ, zero, suc, ◌+◌, ◌<◌, ◌≤◌, eqb, length, get_or}
use Rattle.automaton.specs.Choice.{if, All, any, among}
use Rattle.automaton.specs.Rule.{Transition, Rule, state_count, covers, leads, ends, used}
use Rattle.automaton.specs.Layers.{rule_room, edge_start, state_of, spot_of, edge_at, first_of, end_of, body_at, leaving}
use Rattle.automaton.specs.Layers.{Chain, Spot, Table}
use Rattle.table_builder.specs.Layers.{stamp_at, Built}
use Rattle.used_bytes.specs.declared.Workspace.{Workspace}

-- ---- rules that working storage has room for
-- There are `bound` marks, places of a queue and cells of states, and room for `edges` transitions to wait.

-- the start and all that transitions lead to are states below `bound`, and there are at most `edges` transitions
pub record Fits (bound edges : ℕ) (r : Rule) : Type 0 where
  pub start : r.start < bound
  pub tos : All (λ (t : Transition). t.to < bound) r.transitions
  pub few : length r.transitions ≤ edges

-- rule number k of the table fits
pub record Fitted (bound edges : ℕ) (tb : List ℕ) (k : ℕ) : Type 0 where
  pub rule : Rule
  pub table : Table tb k rule
  pub fits : Fits bound edges rule

-- ---- queues of states

-- how often s stands among xs
abbrev pub hits : List ℕ → ℕ → ℕ
hits [] s = 0
hits (x ∷ xs) s = if (eqb x s) (suc (hits xs s)) (hits xs s)

-- the states of the first n spots of a queue, the last one first, and behind them those that had been marked before
unfoldable pub queued : List ℕ → ℕ → List ℕ → List ℕ
queued queue zero base = base
queued queue (suc n) base = state_of (get_or queue n 0) ∷ queued queue n base

-- the marks with this stamp are those of the queue's states and of `base`, and none stands there twice
pub record Worklist (bound : ℕ) (marks : List ℕ) (stamp : ℕ) (queue : List ℕ) (n : ℕ) (base : List ℕ) : Type 0 where
  pub within : bound ≤ state_count
  pub cells : length marks ≡ bound
  pub slots : length queue ≡ bound
  pub below : All (λ (s : ℕ). s < bound) (queued queue n base)
  pub same : (s : ℕ) → eqb (get_or marks s 0) stamp ≡ among s (queued queue n base)
  pub once : (s : ℕ) → hits (queued queue n base) s ≤ 1
  pub stamps : (s : ℕ) → get_or marks s 0 ≤ stamp

pub record Working (bound : ℕ) (marks : List ℕ) (stamp : ℕ) (queue : List ℕ) (n : ℕ) : Type 0 where
  pub base : List ℕ
  pub worklist : Worklist bound marks stamp queue n base

-- one state more
abbrev pub noted : List ℕ → ℕ → List ℕ
noted fs s = if (among s fs) fs (s ∷ fs)

-- and those to which transitions lead
abbrev pub noted_all : List ℕ → List Transition → List ℕ
noted_all fs [] = fs
noted_all fs (t ∷ ts) = noted_all (noted fs t.to) ts

-- the spot is noted
pub record Notes (bound stamp : ℕ) (base : List ℕ) (spot : ℕ) (marks queue : List ℕ) (n : ℕ) (marks₁ queue₁ : List ℕ) (n₁ : ℕ)
    : Type 0 where
  pub worklist : Worklist bound marks₁ stamp queue₁ n₁ base
  pub states : queued queue₁ n₁ base ≡ noted (queued queue n base) (state_of spot)
  pub more : n ≤ n₁
  pub kept : (k : ℕ) → k < n → get_or queue₁ k 0 ≡ get_or queue k 0
  pub new : (k : ℕ) → n ≤ k → k < n₁ → get_or queue₁ k 0 ≡ spot

-- a chain of transitions to states
pub record Leading (bound : ℕ) (tb : List ℕ) (head : ℕ) : Type 0 where
  pub first : ℕ
  pub transitions : List Transition
  pub chain : Chain tb first head transitions
  pub below : All (λ (t : Transition). t.to < bound) transitions

-- p is the spot of the word at a link of a chain from `head`
pub record Linked (tb : List ℕ) (first head p : ℕ) : Type 0 where
  pub link : ℕ
  pub above : first ≤ link
  pub below : link ≤ head
  pub spot : p ≡ spot_of (edge_at tb link)

-- the transitions of a chain are followed
pub record Follows (bound : ℕ) (tb : List ℕ) (first head : ℕ) (ts : List Transition) (stamp : ℕ) (base queue : List ℕ) (n : ℕ)
    (marks₁ queue₁ : List ℕ) (n₁ : ℕ) : Type 0 where
  pub worklist : Worklist bound marks₁ stamp queue₁ n₁ base
  pub states : queued queue₁ n₁ base ≡ noted_all (queued queue n base) ts
  pub more : n ≤ n₁
  pub kept : (k : ℕ) → k < n → get_or queue₁ k 0 ≡ get_or queue k 0
  pub new : (k : ℕ) → n ≤ k → k < n₁ → Linked tb first head (get_or queue₁ k 0)

-- no mark has the stamp, nor a later one
pub record Unmarked (bound : ℕ) (marks : List ℕ) (stamp : ℕ) : Type 0 where
  pub within : bound ≤ state_count
  pub cells : length marks ≡ bound
  pub earlier : (s : ℕ) → get_or marks s 0 < stamp

-- the first n of the queue are the spots of the states that the start of the rule reaches
pub record Reaches (bound : ℕ) (tb : List ℕ) (k : ℕ) (r : Rule) (stamp : ℕ) (marks queue : List ℕ) (n : ℕ) : Type 0 where
  pub worklist : Worklist bound marks stamp queue n []
  pub spots : (i : ℕ) → i < n → Spot tb (first_of (body_at tb k)) (end_of (body_at tb k)) r.finals r.transitions
      (state_of (get_or queue i 0)) (get_or queue i 0)
  pub reached : (s : ℕ) → among s (queued queue n []) ≡ leads r.transitions r.start s

-- ---- transitions that wait

-- the other way round
abbrev pub turned : Transition → Transition
turned t = record { from = t.to; low = t.low; high = t.high; to = t.from }

-- the bytes of t are marked
abbrev pub Marked : List Bool → Transition → Type 0
Marked set t = (b : ℕ) → b < 256 → covers t b ≡ true → get_or set b false ≡ true

-- the bytes of these transitions are marked too
pub record MarksAll (ts : List Transition) (set set₁ : List Bool) : Type 0 where
  pub size : length set₁ ≡ 256
  pub marks : (b : ℕ) → b < 256 → get_or set₁ b false ≡ any (λ (t : Transition). covers t b) ts || get_or set b false

-- the transitions of a chain are let go
pub record Lets (bound : ℕ) (tb : List ℕ) (first head : ℕ) (ts : List Transition) (stamp : ℕ) (base queue : List ℕ) (n : ℕ)
    (set : List Bool) (good₁ queue₁ : List ℕ) (n₁ : ℕ) (set₁ : List Bool) : Type 0 where
  pub follows : Follows bound tb first head ts stamp base queue n good₁ queue₁ n₁
  pub marks : MarksAll ts set set₁

-- turned transitions wait in the words from `edge_start` on, chained by the state at which they wait
pub record Waits (bound : ℕ) (tb rows : List ℕ) (stamp : ℕ) : Type 0 where
  pub end : ℕ
  pub transitions : List Transition
  pub within : bound ≤ state_count
  pub cells : length rows ≡ bound
  pub built : Built tb rows stamp edge_start end [] transitions
  pub below : All (λ (u : Transition). u.to < bound) transitions

-- what waits at x has been let go
abbrev pub Free : List Transition → List ℕ → List Bool → ℕ → Type 0
Free us gs set x = All (λ (u : Transition). (among u.to gs ≡ true) × Marked set u) (leaving x us)

-- what waits at s is let go, and what waits at the states that are noted by that
pub record Releases (bound : ℕ) (us : List Transition) (s stamp : ℕ) (base : List ℕ) (set : List Bool) (good₁ queue₁ : List ℕ)
    (set₁ : List Bool) : Type 0 where
  pub states : List ℕ
  pub worklist : Worklist bound good₁ stamp queue₁ 0 states
  pub kept : (x : ℕ) → among x base ≡ true → among x states ≡ true
  pub here : Free us states set₁ s
  pub free : All (λ (x : ℕ). (among x base ≡ true) ⊎ Free us states set₁ x) states
  -- whatever holds of `base` and goes from where a transition waits to where it comes from
  pub led : (f : ℕ → Bool) → All (λ (x : ℕ). f x ≡ true) base → All (λ (u : Transition). f u.from ≡ true → f u.to ≡ true) us
      → All (λ (x : ℕ). f x ≡ true) states
  pub size : length set₁ ≡ 256
  pub grown : (b : ℕ) → b < 256 → get_or set b false ≡ true → get_or set₁ b false ≡ true
  pub new : (b : ℕ) → b < 256 → get_or set₁ b false ≡ true → (get_or set b false ≡ true)
      ⊎ (any (λ (u : Transition). among u.from states && covers u b) us ≡ true)

-- ---- states that lead to a final state

-- these transitions wait, and no cell has a later stamp
pub record Waiting (bound : ℕ) (tb rows : List ℕ) (stamp end : ℕ) (us : List Transition) : Type 0 where
  pub within : bound ≤ state_count
  pub cells : length rows ≡ bound
  pub built : Built tb rows stamp edge_start end [] us
  pub below : All (λ (u : Transition). u.to < bound) us
  pub stamps : (s : ℕ) → s < state_count → stamp_at rows s ≤ stamp

-- a chain of transitions to states can be gone through: there is room for each of them to wait
pub record Passing (tb : List ℕ) (head from : ℕ) (good : List ℕ) (stamp : ℕ) (words rows : List ℕ) (end : ℕ) : Type 0 where
  pub bound : ℕ
  pub leading : Leading bound tb head
  pub froms : All (λ (t : Transition). t.from ≡ from) leading.transitions
  pub from_below : from < bound
  pub cells : length good ≡ bound
  pub states : List ℕ
  pub same : (x : ℕ) → eqb (get_or good x 0) stamp ≡ among x states
  pub stamp_below : stamp ≤ rule_room
  pub transitions : List Transition
  pub waiting : Waiting bound words rows stamp end transitions
  pub room : end + length leading.transitions ≤ length words
  pub short : end + length leading.transitions < 65536

-- those of the transitions that do not lead to one of the states wait too
abbrev pub waits : List ℕ → List Transition → List Transition → List Transition
waits gs [] us = us
waits gs (t ∷ ts) us = waits gs ts (if (among t.to gs) us (turned t ∷ us))

-- the transitions ts are gone through: the bytes of those that lead to one of the states are marked, the others wait
pub record Passes (bound stamp : ℕ) (gs : List ℕ) (ts us : List Transition) (end : ℕ) (set : List Bool) (words₁ rows₁ : List ℕ)
    (set₁ : List Bool) (some₁ : Bool) (end₁ : ℕ) : Type 0 where
  pub waiting : Waiting bound words₁ rows₁ stamp end₁ (waits gs ts us)
  pub most : end₁ ≤ end + length ts
  pub some : some₁ ≡ any (λ (t : Transition). among t.to gs) ts
  pub size : length set₁ ≡ 256
  pub marks : (b : ℕ) → b < 256 → get_or set₁ b false ≡ any (λ (t : Transition). among t.to gs && covers t b) ts || get_or set b false

-- u is one of them
abbrev pub Has : Transition → List Transition → Type 0
Has u [] = ⊥
Has u (v ∷ us) = (u ≡ v) ⊎ Has u us

-- gs lead to a final state, us wait and the marked bytes are used by the rule
pub record Sweep (r : Rule) (gs : List ℕ) (us : List Transition) (set : List Bool) : Type 0 where
  pub lead : All (λ (s : ℕ). ends r s ≡ true) gs
  pub ways : All (λ (u : Transition). ends r u.from ≡ true → (ends r u.to ≡ true) × ((b : ℕ) → covers u b ≡ true → used r b ≡ true)) us
  pub free : All (Free us gs set) gs
  pub sound : (b : ℕ) → b < 256 → get_or set b false ≡ true → used r b ≡ true

-- all that is known at one moment
pub record Sweeping (bound : ℕ) (r : Rule) (stamp : ℕ) (good queue words rows : List ℕ) (end : ℕ) (set : List Bool) (gs : List ℕ)
    (us : List Transition) : Type 0 where
  pub worklist : Worklist bound good stamp queue 0 gs
  pub waiting : Waiting bound words rows stamp end us
  pub size : length set ≡ 256
  pub sweep : Sweep r gs us set

-- the bytes of t are marked and the state that it leaves is one of them, or t waits
abbrev pub Settled : List ℕ → List Transition → List Bool → Transition → Type 0
Settled gs us set t = ((among t.from gs ≡ true) × Marked set t) ⊎ Has (turned t) us

-- state s has been gone through
pub record Gone (r : Rule) (gs : List ℕ) (us : List Transition) (set : List Bool) (s : ℕ) : Type 0 where
  pub final : among s r.finals ≡ true → among s gs ≡ true
  pub each : All (Settled gs us set) (leaving s r.transitions)

-- nothing is lost
pub record Later (gs gs₁ : List ℕ) (us us₁ : List Transition) (set set₁ : List Bool) : Type 0 where
  pub kept : (x : ℕ) → among x gs ≡ true → among x gs₁ ≡ true
  pub still : (u : Transition) → Has u us → Has u us₁
  pub grown : (b : ℕ) → b < 256 → get_or set b false ≡ true → get_or set₁ b false ≡ true

-- with state s among them, where it is said to lead to a final state
pub record Gains (bound : ℕ) (r : Rule) (s : ℕ) (said : Bool) (stamp : ℕ) (words rows : List ℕ) (end : ℕ) (gs : List ℕ)
    (us : List Transition) (set : List Bool) (good₁ queue₁ : List ℕ) (set₁ : List Bool) : Type 0 where
  pub states : List ℕ
  pub sweeping : Sweeping bound r stamp good₁ queue₁ words rows end set₁ states us
  pub later : Later gs states us us set set₁
  pub here : said ≡ true → among s states ≡ true

pub record CanGain (s stamp : ℕ) (good queue words rows : List ℕ) (set : List Bool) : Type 0 where
  pub bound : ℕ
  pub waits : Waits bound words rows stamp
  pub below : s < bound
  pub working : Working bound good stamp queue 0
  pub size : length set ≡ 256

-- p is the spot of a state of rule number k that its start leads to
pub record Led (bound : ℕ) (tb : List ℕ) (k : ℕ) (r : Rule) (p : ℕ) : Type 0 where
  pub table : Table tb k r
  pub spot : Spot tb (first_of (body_at tb k)) (end_of (body_at tb k)) r.finals r.transitions (state_of p) p
  pub below : state_of p < bound
  pub led : leads r.transitions r.start (state_of p) ≡ true

-- its state can be gone through
pub record Sweepable (tb : List ℕ) (p stamp : ℕ) (good queue words rows : List ℕ) (end : ℕ) (set : List Bool) : Type 0 where
  pub bound : ℕ
  pub number : ℕ
  pub rule : Rule
  pub led : Led bound tb number rule p
  pub tos : All (λ (t : Transition). t.to < bound) rule.transitions
  pub states : List ℕ
  pub transitions : List Transition
  pub sweeping : Sweeping bound rule stamp good queue words rows end set states transitions
  pub room : end + length (leaving (state_of p) rule.transitions) ≤ length words
  pub short : length words < 65536
  pub stamp_below : stamp ≤ rule_room

-- it is gone through
pub record Goes (bound : ℕ) (r : Rule) (p stamp : ℕ) (end : ℕ) (gs : List ℕ) (us : List Transition) (set : List Bool)
    (good₁ queue₁ words₁ rows₁ : List ℕ) (end₁ : ℕ) (set₁ : List Bool) : Type 0 where
  pub states : List ℕ
  pub transitions : List Transition
  pub sweeping : Sweeping bound r stamp good₁ queue₁ words₁ rows₁ end₁ set₁ states transitions
  pub later : Later gs states us transitions set set₁
  pub gone : Gone r states transitions set₁ (state_of p)
  pub most : end₁ ≤ end + length (leaving (state_of p) r.transitions)

-- ---- working storage

-- no cell has the stamp, nor a later one
pub record Unstamped (bound : ℕ) (rows : List ℕ) (stamp : ℕ) : Type 0 where
  pub cells : length rows ≡ bound
  pub earlier : (s : ℕ) → s < state_count → stamp_at rows s < stamp

-- what a rule with this stamp, of at most `edges` transitions, is swept in: marks, a queue, words and cells
pub record Storage (bound edges stamp : ℕ) (good queue words rows : List ℕ) : Type 0 where
  pub unmarked : Unmarked bound good stamp
  pub slots : length queue ≡ bound
  pub unstamped : Unstamped bound rows stamp
  pub room : edge_start + edges ≤ length words
  pub short : length words < 65536

-- the reached states can be swept
pub record Ready (tb : List ℕ) (stamp : ℕ) (spots : List ℕ) (n : ℕ) (good queue words rows : List ℕ) (set : List Bool) : Type 0 where
  pub bound : ℕ
  pub edges : ℕ
  pub number : ℕ
  pub fitted : Fitted bound edges tb number
  pub seen : List ℕ
  pub reaches : Reaches bound tb number fitted.rule stamp seen spots n
  pub storage : Storage bound edges stamp good queue words rows
  pub stamp_below : stamp ≤ rule_room
  pub size : length set ≡ 256
  pub clear : (b : ℕ) → get_or set b false ≡ false

-- what a rule with this stamp needs
pub record Room (bound edges stamp : ℕ) (seen spots good queue words rows : List ℕ) : Type 0 where
  pub unseen : Unmarked bound seen stamp
  pub slots : length spots ≡ bound
  pub storage : Storage bound edges stamp good queue words rows

-- a workspace has it
abbrev pub RoomIn : {states words : ℕ} → ℕ → ℕ → ℕ → Workspace states words → Type 0
RoomIn bound edges stamp w = Room bound edges stamp w.seen w.spots w.good w.queue w.waiting w.rows
