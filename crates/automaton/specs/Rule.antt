-- A rule of a book is a deterministic automaton with a tag and a kind. Bytes, states and tags are natural numbers.
use Rattle.std.specs.Prelude.{◌≡◌, Bool, true, false, ◌&&◌, ◌||◌, List, [], ◌∷◌, ℕ, zero, suc, ◌<◌, ◌≤◌, leb, eqb, length, take}
use Rattle.automaton.specs.Choice.{if, All, any, among}

-- The paper's move: from one state, at each byte from low to high, both included, to another.
pub record Transition : Type 0 where
  pub from : ℕ
  pub low : ℕ
  pub high : ℕ
  pub to : ℕ

-- `transitions` has the last one read first. No two of an accepted rule fit one state and byte, so the order plays no part.
pub record Rule : Type 0 where
  pub tag : ℕ
  pub kind : ℕ
  pub start : ℕ
  pub error : ℕ
  pub finals : List ℕ
  pub transitions : List Transition

-- ---- what a rule matches

abbrev pub covers : Transition → ℕ → Bool
covers t b = leb t.low b && leb b t.high

-- where the transitions lead from s at b: by the first that leaves s and covers b, else to the error state
unfoldable pub target : List Transition → ℕ → ℕ → ℕ → ℕ
target [] s b error = error
target (t ∷ ts) s b error = if (eqb t.from s && covers t b) t.to (target ts s b error)

abbrev pub step : Rule → ℕ → ℕ → ℕ
step r s b = target r.transitions s b r.error

unfoldable pub walk : Rule → ℕ → List ℕ → ℕ
walk r s [] = s
walk r s (b ∷ w) = walk r (step r s b) w

unfoldable pub matches : Rule → List ℕ → Bool
matches r w = among (walk r r.start w) r.finals

-- the greatest number of at most n first bytes of a text, at least one, that the rule matches; 0 for none
unfoldable pub longest_within : Rule → List ℕ → ℕ → ℕ
longest_within r text zero = 0
longest_within r text (suc n) = if (matches r (take (suc n) text)) (suc n) (longest_within r text n)

abbrev pub longest : Rule → List ℕ → ℕ
longest r text = longest_within r text (length text)

-- ---- used bytes

-- A byte that a rule uses (document 02, wish 5): it stands in some byte string that the rule matches.
pub record Uses (r : Rule) (b : ℕ) : Type 0 where
  pub text : List ℕ
  pub bytes : All (λ (x : ℕ). x < 256) text
  pub matched : matches r text ≡ true
  pub inside : among b text ≡ true

-- The same by computation, for a rule that a book may hold (proofs/Used.antt has it in both directions).

-- by the transitions, any number of them, one gets from s to x; one that is taken more than once can be left out from its first to its last
unfoldable pub leads : List Transition → ℕ → ℕ → Bool
leads [] s x = eqb s x
leads (t ∷ ts) s x = leads ts s x || leads ts s t.from && leads ts t.to x

-- one gets from s to a final state
abbrev pub ends : Rule → ℕ → Bool
ends r s = any (leads r.transitions s) r.finals

-- the transition covers b, from a state that the start leads to, to one that leads to a final state
abbrev pub carries : Rule → ℕ → Transition → Bool
carries r b t = covers t b && (leads r.transitions r.start t.from && ends r t.to)

unfoldable pub used : Rule → ℕ → Bool
used r b = any (carries r b) r.transitions

-- ---- what the reading of a book sees to

-- two transitions leave one state and share a byte (each has low ≤ high)
abbrev pub meets : Transition → Transition → Bool
meets t u = eqb u.from t.from && (leb t.low u.high && leb u.low t.high)

unfoldable pub overlaps : List Transition → Bool
overlaps [] = false
overlaps (t ∷ ts) = if (any (meets t) ts) true (overlaps ts)

-- every number of a transition is in its range; states are below n
pub record Ranged (n : ℕ) (t : Transition) : Type 0 where
  pub from_below : t.from < n
  pub to_below : t.to < n
  pub ordered : t.low ≤ t.high
  pub byte : t.high < 256

-- a rule that a book may hold, of at most n states
pub record Sound (n : ℕ) (r : Rule) : Type 0 where
  pub start_below : r.start < n
  pub error_below : r.error < n
  pub finals_below_lem : All (λ (s : ℕ). s < n) r.finals
  pub ranged : All (Ranged n) r.transitions
  pub apart : overlaps r.transitions ≡ false
  -- nothing leaves the error state, and neither it nor the start is final
  pub stays : any (λ (t : Transition). eqb t.from r.error) r.transitions ≡ false
  pub fails : among r.error r.finals ≡ false
  pub nonempty : among r.start r.finals ≡ false

-- states of a rule are numbered below this (document 02, wish 13)
abbrev pub state_count : ℕ
state_count = 4096
