-- `rehearse_bytes`: the bytes are joined and read back. Assumes nothing.
use native.Mathlib.Omega.{arith}
use Rattle.printer.proofs.Rehearsing.{spanned_laid, spanned_spread, rehearses_on, rehearses_clean}
use Rattle.printer.proofs.rehearsal.rehearse_bytes.Goals as goal

pub returns-then-k-records : goal.returns-then-k-records
returns-then-k-records c = λ rs h.
    let spanned = c.requires.spanned in
    rw c.at.ensures
    (rehearses_on rs _ _ _ spanned (c.read_back-k.ensures rs _ h (spanned_spread spanned c.join_tokens.ensures)) (omega arith))

pub returns : goal.returns
returns c = λ rs h.
    let spanned = c.requires.spanned in
    let joined = c.join_tokens.ensures in
    rehearses_clean rs _ _ _ spanned (c.read_back-k.ensures rs _ h (spanned_spread spanned joined)) (omega arith)
    (spanned_laid spanned joined)
