-- The first token of a list that a printer refuses.
use Rattle.answer.specs.declared.Reason.{Reason}
use Rattle.answer.specs.declared.Reason.TheVariants.{ReadOn}
use Rattle.std.specs.Prelude.{Bool, true, false, List, [], ◌∷◌, ℕ, suc}
use Rattle.std.proofs.Math.Option.{Option, none, some}
use Rattle.answer.specs.declared.Refusal.{Refusal}
use Rattle.automaton.specs.Rule.{Rule}
use Rattle.longest_match.specs.Lexer.{Token, join, extends}
use Rattle.record.specs.declared.TokenRecord.{TokenRecord}

-- refused for this reason at this place where the test holds; the place of a token is its number, the first being number k
unfoldable pub refuse : Bool → Reason → ℕ → Option Refusal → Option Refusal
refuse true why place next = some (record { reason = why; place = place })
refuse false why place next = next

-- refused for the reason, if there is one
unfoldable pub refuse_by : Option Reason → ℕ → Option Refusal → Option Refusal
refuse_by (some reason) place next = some (record { reason = reason; place = place })
refuse_by none place next = next

-- for the reason that `fault` gives
unfoldable pub first_fault : (TokenRecord → Option Reason) → List TokenRecord → ℕ → Option Refusal
first_fault fault [] k = none
first_fault fault (r ∷ rs) k = refuse_by (fault r) k (first_fault fault rs (suc k))

-- 21, at the first token that can be read on into the bytes of the tokens after it
unfoldable pub first_extended : List Rule → List Token → ℕ → Option Refusal
first_extended rules [] k = none
first_extended rules (t ∷ ts) k = refuse (extends rules t.bytes (join ts)) ReadOn k (first_extended rules ts (suc k))
