-- What the layers of the code ask and answer between themselves. Nobody needs to believe it: the operations' contracts do not rest on it.
use Rattle.answer.specs.declared.Reason.{Reason}
use Rattle.answer.specs.declared.Reason.TheVariants.{ReadOn}
use Rattle.std.specs.Prelude.{Result, Ok, Err, Option as Maybe, Some, None, ◌≡◌, List, ◌++◌, ℕ, ◌≤◌, ◌<◌, length, drop}
use Rattle.std.proofs.Math.Option.{Option, none, some}
use Rattle.answer.specs.declared.Refusal.{Refusal}
use Rattle.automaton.specs.Choice.{All}
use Rattle.automaton.specs.Rule.{Rule}
use Rattle.book.specs.Limits.{max_text}
use Rattle.longest_match.specs.Lexer.{join}
use Rattle.record.specs.Records.{record_count}
use Rattle.record.specs.Encoding.{Fits}
use Rattle.record.specs.declared.TokenRecord.{TokenRecord}
use Rattle.record.specs.Tokens.{records_of, tokens_of, InPool}
use Rattle.token_list.specs.Faults.{fault_of}
use Rattle.token_list.specs.Checks.{first_fault, first_extended}

-- the first refusal, if there is one
abbrev pub checked_of : Option Refusal → Result Unit Refusal
checked_of none = Ok tt
checked_of (some f) = Err f

-- the reason that refuses a token, if one does
abbrev pub fault_for : Option Reason → Maybe Reason
fault_for none = None
fault_for (some reason) = Some reason

-- whatever is answered of a token whose fields fit their types is the reason that `fault` gives
abbrev pub Finds : (TokenRecord → Maybe Reason → Type 0) → (TokenRecord → Option Reason) → Type 0
Finds answers fault = (r : TokenRecord) (o : Maybe Reason) → Fits r → answers r o → o ≡ fault_for (fault r)

-- ---- joining

-- every token lies in the pool, and there is room for all their bytes
pub record Fitting (records pool out : List ℕ) : Type 0 where
  pub each : All (InPool pool) (records_of records)
  pub room : length (join (tokens_of records pool)) ≤ length out

-- these bytes, and every byte past them as it was
pub record Joined (bytes entry exit : List ℕ) : Type 0 where
  pub written : exit ≡ bytes ++ drop (length bytes) entry

-- ---- how many bytes

-- the tokens lie in the pool, and their n bytes are few enough to be written
pub record Spanned (records pool : List ℕ) (n : ℕ) : Type 0 where
  pub each : All (InPool pool) (records_of records)
  pub bytes : n ≡ length (join (tokens_of records pool))
  pub short : n ≤ max_text

pub record Spans (records pool : List ℕ) (e : Maybe ℕ) : Type 0 where
  pub fits : (n : ℕ) → e ≡ Some n → Spanned records pool n
  pub beyond : e ≡ None → All (InPool pool) (records_of records) → max_text < length (join (tokens_of records pool))

-- ---- reading back

-- the text is the bytes of tokens that lie in the pool, joined
pub record Spread (records pool text : List ℕ) : Type 0 where
  pub each : All (InPool pool) (records_of records)
  pub written : text ≡ join (tokens_of records pool)

pub record Spreads (records text : List ℕ) : Type 0 where
  pub pool : List ℕ
  pub spread : Spread records pool text

-- no token is at fault
abbrev pub Faultless : List Rule → List ℕ → List ℕ → Type 0
Faultless rules records pool = first_fault (fault_of rules pool) (records_of records) 0 ≡ none

-- no token is at fault, and none is read on
pub record Settled (rules : List Rule) (records pool : List ℕ) : Type 0 where
  pub faultless : Faultless rules records pool
  pub apart : first_extended rules (tokens_of records pool) 0 ≡ none

-- every token is read back and the list is settled, or token number k is the first that is not; if no token is at fault, it is read on
pub record ReadsBack (rules : List Rule) (records pool : List ℕ) (k : ℕ) : Type 0 where
  pub settled : record_count records ≤ k → Settled rules records pool
  pub first : k < record_count records → Faultless rules records pool
      → first_extended rules (tokens_of records pool) 0 ≡ some (record { reason = ReadOn; place = k })
