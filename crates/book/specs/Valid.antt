-- What holds of every accepted book.
use Rattle.std.specs.Prelude.{◌≡◌, false, List, [], ◌∷◌, ◌<◌, ◌≤◌, eqb, length}
use Rattle.automaton.specs.Choice.{All}
use Rattle.automaton.specs.Rule.{Rule, Sound, state_count}
use Rattle.book.specs.Limits.{max_rules, max_transitions}

pub record ValidRule (r : Rule) : Type 0 where
  pub sound : Sound state_count r
  pub tag_some : 0 < r.tag
  pub tag_below : r.tag < 65536
  pub kind : r.kind ≤ 1
  pub few : length r.transitions ≤ max_transitions

-- no tag occurs twice
abbrev pub Distinct : List Rule → Type 0
Distinct [] = Unit {0}
Distinct (r ∷ rs) = All (λ (q : Rule). eqb q.tag r.tag ≡ false) rs × Distinct rs

pub record ValidRules (rules : List Rule) : Type 0 where
  pub each : All ValidRule rules
  pub distinct : Distinct rules
  pub few : length rules ≤ max_rules

pub record Valid (rules : List Rule) : Type 0 where
  pub rules_valid : ValidRules rules
  pub some_rule : 0 < length rules
