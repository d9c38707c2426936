-- The tag and the kind of one rule of a book.
use Rattle.answer.specs.declared.Refusal.{Refusal}
use Rattle.answer.specs.declared.RuleName.{RuleName}
use Rattle.std.specs.Prelude.{Result, Err}
use Rattle.answer.specs.declared.Reason.TheVariants.{UnknownTag}
use Rattle.answer.specs.Answers.{named}
use Rattle.std.proofs.Math.Option.{Option, none, some}
use Rattle.std.specs.Prelude.{List, [], ◌∷◌, ℕ, zero, suc, length}
use Rattle.automaton.specs.Rule.{Rule}
use Rattle.reader.specs.Reading.{Reading, accepted, refused, read_book}

-- the rule of this number, the first being number 0
unfoldable pub numbered : List Rule → ℕ → Option Rule
numbered [] index = none
numbered (r ∷ rs) zero = some r
numbered (r ∷ rs) (suc index) = numbered rs index

-- past the last rule 18, at the number of rules
abbrev pub rule_answer : Option Rule → ℕ → Result RuleName Refusal
rule_answer (some r) count = named r.tag r.kind
rule_answer none count = Err (record { reason = UnknownTag; place = count })

-- the book's refusals first
abbrev pub rule_reading : Reading → ℕ → Result RuleName Refusal
rule_reading (refused reason place) index = Err (record { reason = reason; place = place })
rule_reading (accepted rules) index = rule_answer (numbered rules index) (length rules)

unfoldable pub rule_outcome : List ℕ → ℕ → Result RuleName Refusal
rule_outcome book index = rule_reading (read_book book) index
