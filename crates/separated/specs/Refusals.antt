-- What is refused before anything is put together.
use Rattle.answer.specs.declared.Reason.{Reason}
use Rattle.answer.specs.declared.Reason.TheVariants.{NoSeparator, SeparatorInList, SharedByte, TooManyTokens, UnknownMode}
use Rattle.std.specs.Prelude.{Bool, not, List, ℕ, ltb}
use Rattle.std.proofs.Math.Option.{Option, none, some}
use Rattle.answer.specs.declared.Refusal.{Refusal}
use Rattle.automaton.specs.Choice.{if}
use Rattle.automaton.specs.Rule.{Rule}
use Rattle.book.specs.Limits.{max_tokens}
use Rattle.longest_match.specs.Lexer.{or}
use Rattle.record.specs.Records.{record_count}
use Rattle.record.specs.declared.TokenRecord.{TokenRecord}
use Rattle.record.specs.Tokens.{records_of}
use Rattle.token_list.specs.Faults.{fault_of}
use Rattle.token_list.specs.Checks.{refuse, refuse_by, first_fault}
use Rattle.shared_bytes.specs.Bytes.{shared_byte}
use Rattle.shared_bytes.specs.Kinds.{separates}

-- ---- the checks of one token

-- the fault, or else this reason where the test holds
unfoldable pub or_else : Option Reason → Bool → Reason → Option Reason
or_else (some fault) test why = some fault
or_else none test why = if test (some why) none

-- the separator token: the fault of any token, else 25 where no separator rule has its tag
unfoldable pub separator_fault : List Rule → List ℕ → TokenRecord → Option Reason
separator_fault rules pool r = or_else (fault_of rules pool r) (not (separates rules r.tag)) NoSeparator

-- a token of the list: the fault of any token, else 26 where a separator rule has its tag
unfoldable pub plain_fault : List Rule → List ℕ → TokenRecord → Option Reason
plain_fault rules pool r = or_else (fault_of rules pool r) (separates rules r.tag) SeparatorInList

-- ---- the whole call

-- 23 at a byte
unfoldable pub sharing : Option ℕ → Option Refusal
sharing none = none
sharing (some b) = some (record { reason = SharedByte; place = b })

-- also of the empty list: 24, the separator's faults at the list's length, 16, the first token at fault
unfoldable pub list_refusal : List Rule → TokenRecord → ℕ → List ℕ → List ℕ → Option Refusal
list_refusal rules sep mode records pool =
    refuse (ltb 2 mode) UnknownMode 0
    (refuse_by (separator_fault rules pool sep) (record_count records)
    (refuse (ltb max_tokens (record_count records)) TooManyTokens 0
    (first_fault (plain_fault rules pool) (records_of records) 0)))

-- and 23 before that
unfoldable pub separated_refusal : List Rule → TokenRecord → ℕ → List ℕ → List ℕ → Option Refusal
separated_refusal rules sep mode records pool = or (sharing (shared_byte rules)) (list_refusal rules sep mode records pool)
