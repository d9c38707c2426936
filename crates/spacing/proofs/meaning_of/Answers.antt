-- `meaning_of` answers `meaning`.
use Rattle.spacing.proofs.Modes.{meaning_zero, meaning_other}
use Rattle.spacing.proofs.meaning_of.Goals as goal

pub returns-then-mode-eq0 : goal.returns-then-mode-eq0
returns-then-mode-eq0 c = meaning_zero _ c.if-mode-eq0.true

pub returns-else-mode-eq0 : goal.returns-else-mode-eq0
returns-else-mode-eq0 c = meaning_other _ c.if-mode-eq0.false
