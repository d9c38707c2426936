-- What a printer asks of one token.
use Rattle.answer.specs.declared.Reason.TheVariants.{PastThePool, UnknownTag, NotAlone}
use Rattle.answer.specs.declared.Reason.{Reason}
use Rattle.std.specs.Prelude.{Bool, false, not, List, [], ◌∷◌, ℕ, ◌+◌, ltb, eqb, length}
use Rattle.std.proofs.Math.Option.{Option, none, some}
use Rattle.automaton.specs.Choice.{if}
use Rattle.automaton.specs.Rule.{Rule, matches}
use Rattle.book.specs.Draft.{tagged}
use Rattle.record.specs.declared.TokenRecord.{TokenRecord}
use Rattle.record.specs.Tokens.{bytes_in}

-- The token is cut as itself alone (document 01, 'Used bytes and separators', sentence 3): among the rules, the one of the tag matches, and
-- none before it does.
unfoldable pub alone_in : List Rule → ℕ → List ℕ → Bool
alone_in [] tag w = false
alone_in (r ∷ rs) tag w = if (eqb r.tag tag) (matches r w) (if (matches r w) false (alone_in rs tag w))

-- The reason that refuses a token, if one does: 17 where it ends behind the pool, 18 where no rule has its tag, 19 where it is not cut as
-- itself.
unfoldable pub fault_of : List Rule → List ℕ → TokenRecord → Option Reason
fault_of rules pool r =
    if (ltb (length pool) (r.place + r.len)) (some PastThePool)
    (if (not (tagged r.tag rules)) (some UnknownTag)
    (if (not (alone_in rules r.tag (bytes_in pool r))) (some NotAlone)
    none))
