-- The rule of an expression's table matches what the expression matches; what a reader makes of a book of it alone. Assumes nothing.
use Rattle.answer.specs.declared.Reason.TheVariants.{BookTooLong, StartFinal, TooMany}
use mathlib.Core.Path.{◌≡◌, sym, ◌∙◌}
use mathlib.Core.Bool.{Bool, true, false}
use mathlib.Core.Logic.{◌↔◌}
use mathlib.Core.List.{List, [], ◌∷◌}
use Prim.Native.Nat.{ℕ, ◌+◌, ◌*◌, ◌≤◌, ◌<◌}
use lib.ListN.{length}
use Rattle.automaton.specs.Choice.{All, among}
use Rattle.automaton.specs.Rule.{Transition, Rule, matches}
use Rattle.book.specs.Limits.{max_bytes, max_transitions}
use Rattle.reader.specs.Reading.{accepted, refused, read_by}
use Rattle.expression.specs.Expression.{Expression, Matches}
use Rattle.positions.specs.Positions.{nullable}
use Rattle.positions.specs.Sets.{matches_by_sets}
use Rattle.positions.proofs.Matching.{sets_match, match_sets}
use Rattle.subsets.specs.States.{states, are_too_many, rows_of, finals_of}
use Rattle.rule_commands.specs.Spans.{spans_of}
use Rattle.rule_commands.specs.Fit.{Fit, rule_by, rule_book}
use Rattle.rule_commands.proofs.Read.{rule_too_long, rule_too_many, rule-start-final, rule_accepted}
use Rattle.rule_commands.proofs.Tables.{table-matches}
use Rattle.rule_commands.proofs.Runs.{table_fits}
use Rattle.expression_rule.specs.Layers.{Sets}
use Rattle.expression_rule.proofs.Fitting.{table_rows, table_finals, start-final}
use Rattle.expression_rule.proofs.Walks.{table-matches_sets}

module _ {e : Expression} {firsts lasts : ℕ} {empty : Bool} {follow takers : List ℕ} (s : Sets e firsts lasts empty follow takers)
    (few : are_too_many firsts follow takers ≡ false) (tag kind : ℕ) where
  abbrev finals : List ℕ
  finals = finals_of lasts empty (states firsts follow takers)

  abbrev spans : List Transition
  spans = spans_of 0 (rows_of firsts follow takers)

  abbrev rule : Rule
  rule = rule_by tag kind finals spans

  pub rule-matches_sets : (w : List ℕ) → All (λ (b : ℕ). b < 256) w → matches rule w ≡ matches_by_sets e w
  rule-matches_sets w a =
      table-matches tag kind finals (rows_of firsts follow takers) (table_rows firsts follow takers few s.takers_size).each w a
      ∙ table-matches_sets s few w a

  pub rule-matches : (w : List ℕ) → All (λ (b : ℕ). b < 256) w → (matches rule w ≡ true) ↔ Matches e w
  rule-matches w a =
      (λ h. match_sets e w (sym (rule-matches_sets w a) ∙ h), λ m. rule-matches_sets w a ∙ sets_match e w m)

  pub start-final-nullable : among 0 finals ≡ nullable e
  start-final-nullable = start-final lasts (states firsts follow takers) empty ∙ s.empty_matched

  -- ---- the book of the rule alone

  module _ (strict : Bool) (nonzero : 0 < tag) (below : tag < 65536) (plain : kind ≤ 1) where
    abbrev book : List ℕ
    book = rule_book tag kind finals spans

    pub fit : Fit tag kind finals spans
    fit =
        table_fits tag kind finals (rows_of firsts follow takers) nonzero below plain (table_finals firsts follow takers lasts empty few)
        (table_rows firsts follow takers few s.takers_size)

    pub read_too_long : max_bytes < length book → read_by strict book ≡ refused BookTooLong 0
    read_too_long l = rule_too_long strict tag kind finals spans l

    module _ (short : length book ≤ max_bytes) where
      pub read_too_many : max_transitions < length spans → read_by strict book ≡ refused TooMany (8 + 2 * length finals + 5 * max_transitions)
      read_too_many l = rule_too_many strict tag kind finals spans fit short l

      module _ (room : length spans ≤ max_transitions) where
        pub read_nullable : nullable e ≡ true → read_by strict book ≡ refused StartFinal (8 + 2 * length finals + 5 * length spans)
        read_nullable h = rule-start-final strict tag kind finals spans fit short room (start-final-nullable ∙ h)

        pub read_accepted : nullable e ≡ false → read_by strict book ≡ accepted (rule ∷ [])
        read_accepted h = rule_accepted strict tag kind finals spans fit short room (start-final-nullable ∙ h)
