-- `check_list` answers `list_refusal`, test by test.
use Rattle.std.proofs.Common.{rules, arith, sym, ◌∙◌}
use Rattle.separated.proofs.Checking.{separator_fault_lem, list_mode, list_separator, list_many, list_tokens}
use Rattle.separated.proofs.checks.check_list.Goals as goal

pub returns-then-mode-gt2 : goal.returns-then-mode-gt2
returns-then-mode-gt2 c = λ rs h. list_mode rs _ _ _ _ (omega arith) (search rules)

pub returns-in-Some : goal.returns-in-Some
returns-in-Some c = λ rs h.
    list_separator rs _ _ _ _ (omega arith) (separator_fault_lem rs _ _ (sym c.in-Some.is ∙ c.fault_or_kind.ensures rs h)) (search rules)

pub returns-then-count-gt-TOKENS : goal.returns-then-count-gt-TOKENS
returns-then-count-gt-TOKENS c = λ rs h.
    list_many rs _ _ _ _ (omega arith) (separator_fault_lem rs _ _ (sym c.in_default.is ∙ c.fault_or_kind.ensures rs h)) (omega arith) (search rules)

pub returns : goal.returns
returns c = λ rs h.
    list_tokens rs _ _ _ _ (omega arith) (separator_fault_lem rs _ _ (sym c.in_default.is ∙ c.fault_or_kind.ensures rs h)) (omega arith)
    (c.check_tokens.ensures rs h)
