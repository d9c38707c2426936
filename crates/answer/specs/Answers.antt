-- What calls answer, by its parts.
use Rattle.std.specs.Prelude.{Bool, ℕ, Result, Ok}
use Rattle.answer.specs.declared.Refusal.{Refusal}
use Rattle.answer.specs.declared.RuleName.{RuleName}
use Rattle.answer.specs.declared.Cut.{Cut}
use Rattle.answer.specs.declared.Turn.{Turn}

-- the tag and the kind of a rule
abbrev pub named : ℕ → ℕ → Result RuleName Refusal
named tag kind = Ok (record { tag = tag; kind = kind })

-- the number of tokens, and the place of the rest
abbrev pub lexed : ℕ → ℕ → Result Cut Refusal
lexed tokens rest = Ok (record { tokens = tokens; rest = rest })

-- the number of tokens, the next place, the bytes examined, and whether the turn is finished
abbrev pub turned : ℕ → ℕ → ℕ → Bool → Result Turn Refusal
turned tokens next examined finished =
    Ok (record { tokens = tokens; next = next; examined = examined; finished = finished })
