-- What the layers of the code ask and answer between themselves. Nobody needs to believe it: the operations' contracts do not rest on it.
use Rattle.std.specs.Prelude.{Bool, true, false, not, ◌≡◌, List, ℕ, ◌+◌, ◌*◌, ◌≤◌, length}
use Rattle.std.proofs.Math.Option.{none}
use Rattle.automaton.specs.Rule.{Rule}
use Rattle.automaton.specs.Layers.{Holds, Held}
use Rattle.book.specs.Limits.{max_text}
use Rattle.record.specs.declared.TokenRecord.{TokenRecord}
use Rattle.record.specs.Records.{record_count}
use Rattle.token_list.specs.Layers.{Spanned}
use Rattle.printer.specs.Layers.{small_text}
use Rattle.spacing.specs.Separators.{spelled}
use Rattle.separated.specs.Refusals.{separated_refusal}

-- whether a kind is not the wanted one
unfoldable pub differs : Bool → Bool → Bool
differs true kind = not kind
differs false kind = kind

-- the call is not refused before anything is put together, whichever rules the table holds
pub record Passed (tb : List ℕ) (sep : TokenRecord) (mode : ℕ) (records pool : List ℕ) : Type 0 where
  pub held : Held tb
  pub unrefused : (rules : List Rule) → Holds tb rules → separated_refusal rules sep mode records pool ≡ none

-- the scratch has room for what is put together, unless that is too long to be written, and for no more than may be written
pub record Roomy (sep : TokenRecord) (mode : ℕ) (records pool scratch : List ℕ) : Type 0 where
  pub short : length scratch ≤ max_text
  pub room : (rules : List Rule) → length (spelled rules sep mode records pool) ≤ max_text
      → length (spelled rules sep mode records pool) ≤ length scratch

-- the tokens lie in the pool, and a small scratch has room for them with a separator each
pub record Short (sep : TokenRecord) (records pool : List ℕ) : Type 0 where
  pub bytes : ℕ
  pub spanned : Spanned records pool bytes
  pub few : bytes + record_count records * sep.len ≤ small_text
