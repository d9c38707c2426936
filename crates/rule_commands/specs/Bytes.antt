-- The commands of a rule that is given by a table, in the order of document 02, wish 9: RULE, START 0, ERROR 255, FINALs, SPANs, CLOSE.
use mathlib.Core.List.{List, [], ◌∷◌, ◌++◌, map, flatten}
use Rattle.std.specs.Prelude.{ℕ, ◌/◌, ◌%◌}
use Rattle.automaton.specs.Rule.{Transition}
use Rattle.rule_commands.specs.Spans.{spans_of}

abbrev pub final_bytes : ℕ → List ℕ
final_bytes s = 4 ∷ s ∷ []

abbrev pub span_bytes : Transition → List ℕ
span_bytes t = 6 ∷ t.from ∷ t.low ∷ t.high ∷ t.to ∷ []

-- RULE, START, ERROR
abbrev pub head_bytes : ℕ → ℕ → List ℕ
head_bytes tag kind = 1 ∷ tag / 256 ∷ tag % 256 ∷ kind ∷ 2 ∷ 0 ∷ 3 ∷ 255 ∷ []

unfoldable pub rule_bytes : ℕ → ℕ → List ℕ → List Transition → List ℕ
rule_bytes tag kind finals spans =
    head_bytes tag kind ++ (flatten (map final_bytes finals) ++ (flatten (map span_bytes spans) ++ (7 ∷ [])))

-- of the rule with these final states and this row for each state, from 0 on
abbrev pub table_bytes : ℕ → ℕ → List ℕ → List (List ℕ) → List ℕ
table_bytes tag kind finals rows = rule_bytes tag kind finals (spans_of 0 rows)
