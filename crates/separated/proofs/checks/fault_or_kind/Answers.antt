-- `fault_or_kind`: the fault, or what the kind comes to.
use Rattle.std.proofs.Common.{sym, ◌∙◌}
use Rattle.separated.proofs.Checking.{or_fault, or_kind}
use Rattle.separated.proofs.checks.fault_or_kind.Goals as goal

pub returns-then-is_separator-separator : goal.returns-then-is_separator-separator
returns-then-is_separator-separator c = λ rs h.
    or_kind _ _ _ _ (sym c.in-None.is ∙ c.token_fault.ensures rs h) (rw (c.is_separator.ensures rs h) at c.if-is_separator-separator.true)

pub returns-in-Some : goal.returns-in-Some
returns-in-Some c = λ rs h. or_fault _ _ _ (sym c.in-Some.is ∙ c.token_fault.ensures rs h)

pub returns-else-is_separator-separator : goal.returns-else-is_separator-separator
returns-else-is_separator-separator c = λ rs h.
    or_kind _ _ _ _ (sym c.in-None.is ∙ c.token_fault.ensures rs h) (rw (c.is_separator.ensures rs h) at c.if-is_separator-separator.false)
