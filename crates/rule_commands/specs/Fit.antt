-- What a table must be for its commands to be read as its rule, whatever its size.
use Rattle.std.specs.Prelude.{◌≡◌, false, List, [], ◌∷◌, ◌++◌, reverse, ℕ, ◌<◌, ◌≤◌, length}
use Rattle.automaton.specs.Choice.{All}
use Rattle.automaton.specs.Rule.{Transition, Rule, overlaps, Ranged}
use Rattle.rule_commands.specs.Bytes.{rule_bytes}

-- The error state of such a rule. Every other state is below it.
abbrev pub error_state : ℕ
error_state = 255

-- what the commands of these final states and SPANs need, but for the limits of a book and for final states without the start
pub record Fit (tag kind : ℕ) (finals : List ℕ) (spans : List Transition) : Type 0 where
  pub tag_some : 0 < tag
  pub tag_below : tag < 65536
  pub kind_known : kind ≤ 1
  pub finals_below_lem : All (λ (s : ℕ). s < error_state) finals
  pub ranged : All (Ranged error_state) spans
  pub apart : overlaps (reverse spans) ≡ false

-- the rule that they say: the last command read stands first
abbrev pub rule_by : ℕ → ℕ → List ℕ → List Transition → Rule
rule_by tag kind finals spans =
    record { tag = tag; kind = kind; start = 0; error = error_state; finals = reverse finals; transitions = reverse spans }

-- the book of this rule alone
abbrev pub rule_book : ℕ → ℕ → List ℕ → List Transition → List ℕ
rule_book tag kind finals spans = rule_bytes tag kind finals spans ++ (8 ∷ [])

-- a number for each byte, a state or 0
pub record FitRow (row : List ℕ) : Type 0 where
  pub size : length row ≡ 256
  pub below : All (λ (n : ℕ). n < error_state) row

pub record FitRows (rows : List (List ℕ)) : Type 0 where
  pub few : length rows ≤ error_state
  pub each : All FitRow rows
