-- `read_alternatives`, `read_piece` and `read_sequence`: what was read before is `Got`, where there is no fault.
-- Assumes nothing.
use Rattle.std.proofs.Common.{sym, ◌∙◌, arith}
use Rattle.std.proofs.lemmas.Result.{err_from_is_err_and}
use Rattle.expression.specs.Spelling.{alternatives}
use Rattle.expression.specs.Reading.{read_as}
use Rattle.expression_reader.proofs.Levels.{got, placed, alternatives_wrong, alternatives_alone, alternatives_more, alternatives_fault}
use Rattle.expression_reader.proofs.Levels.{sequence_wrong, sequence_alone, sequence_more, sequence_fault}
use Rattle.expression_reader.proofs.Levels.{group_reads, group_fault, atom_reads, piece_reads, piece_fault, ready_behind, ready_next}
use Rattle.expression_reader.proofs.+reading.Goals as goal
use Rattle.expression_reader.proofs.+reading.Goals.{read_piece-then-stands+in_ok-inner+in_ok-atom, read_piece-else-stands+in_ok-atom-2}

pub read_alternatives-returns-in_err-left : goal.read_alternatives-returns-in_err-left
read_alternatives-returns-in_err-left t c =
    let p = err_from_is_err_and c.from_residual.result c.from_residual.ensures.1 in
    rw (p.1, p.2) (alternatives_wrong c.in_err-left.ensures)

pub read_alternatives-returns-then-not-stands : goal.read_alternatives-returns-then-not-stands
read_alternatives-returns-then-not-stands t c = alternatives_alone c.requires c.in_ok-left.ensures (sym c.stands.ensures ∙ c.if-not-stands.true)

pub read_alternatives-overflow_add-left : goal.read_alternatives-overflow_add-left
read_alternatives-overflow_add-left t c =
    let r = ready_behind c.requires (got c.requires c.in_ok-left.ensures) in
    omega (arith, (ready_next 124 r.0 (sym c.stands.ensures ∙ c.if-not-stands.false)).1)

pub read_alternatives-read_alternatives-requires : goal.read_alternatives-read_alternatives-requires
read_alternatives-read_alternatives-requires t c =
    let r = ready_behind c.requires (got c.requires c.in_ok-left.ensures) in
    let n = ready_next 124 r.0 (sym c.stands.ensures ∙ c.if-not-stands.false) in
    (omega (arith, r.1, n.1, c.decreases), n.0)

pub read_alternatives-returns-in_err-right : goal.read_alternatives-returns-in_err-right
read_alternatives-returns-in_err-right t c =
    let p = err_from_is_err_and c.from_residual-in_err-right.result c.from_residual-in_err-right.ensures.1 in
    rw (p.1, p.2) (alternatives_fault c.requires c.in_ok-left.ensures (sym c.stands.ensures ∙ c.if-not-stands.false) c.in_err-right.ensures)

pub read_alternatives-returns : goal.read_alternatives-returns
read_alternatives-returns t c =
    rw c.unite.ensures
    (alternatives_more c.requires c.in_ok-left.ensures (sym c.stands.ensures ∙ c.if-not-stands.false) c.in_ok-right.ensures)

pub read_piece-read_alternatives-requires : goal.read_piece-read_alternatives-requires
read_piece-read_alternatives-requires t c =
    let n = ready_next 40 c.requires (sym c.stands.ensures ∙ c.if-stands.true) in (omega (arith, n.1, c.decreases), n.0)

pub read_piece-returns-in_err-inner : goal.read_piece-returns-in_err-inner
read_piece-returns-in_err-inner t c =
    let p = err_from_is_err_and c.from_residual.result c.from_residual.ensures.1 in
    rw (p.1, p.2) (piece_fault (group_fault (sym c.stands.ensures ∙ c.if-stands.true) c.in_err-inner.ensures))

pub read_piece-close-requires : goal.read_piece-close-requires
read_piece-close-requires t c =
    placed (ready_next 40 c.requires (sym c.stands.ensures ∙ c.if-stands.true)).0 c.in_ok-inner.ensures

pub read_piece-returns-in_err-atom : goal.read_piece-returns-in_err-atom
read_piece-returns-in_err-atom t c =
    let p = err_from_is_err_and c.from_residual-in_err-atom.result c.from_residual-in_err-atom.ensures.1 in
    rw (p.1, p.2) (piece_fault (group_reads c.requires (sym c.stands.ensures ∙ c.if-stands.true) c.in_ok-inner.ensures c.in_err-atom.ensures))

pub read_piece-returns-in_err-atom-2 : goal.read_piece-returns-in_err-atom-2
read_piece-returns-in_err-atom-2 t c =
    let p = err_from_is_err_and c.from_residual-in_err-atom-2.result c.from_residual-in_err-atom-2.ensures.1 in
    rw (p.1, p.2)
    (piece_fault (atom_reads (c.in_err-atom-2.ensures (read_as alternatives) (sym c.stands.ensures ∙ c.if-stands.false))))

pub read_piece-carry-requires : goal.read_piece-carry-requires
read_piece-carry-requires t c = elim c.if-stands.branch [
  | read_piece-then-stands+in_ok-inner+in_ok-atom w ↦ rw w.atom-is
      (placed c.requires
      (group_reads c.requires (sym c.stands.ensures ∙ w.if-stands.true) w.in_ok-inner.ensures w.in_ok-atom.ensures)).0
  | read_piece-else-stands+in_ok-atom-2 w ↦ rw w.atom-is
      (placed c.requires (atom_reads (w.in_ok-atom-2.ensures (read_as alternatives) (sym c.stands.ensures ∙ w.if-stands.false)))).0
]

pub read_piece-returns : goal.read_piece-returns
read_piece-returns t c = elim c.if-stands.branch [
  | read_piece-then-stands+in_ok-inner+in_ok-atom w ↦ piece_reads c.requires
      (rw (w.atom-is, w.takers-is, w.follow-is)
      (group_reads c.requires (sym c.stands.ensures ∙ w.if-stands.true) w.in_ok-inner.ensures w.in_ok-atom.ensures))
      c.carry.ensures
  | read_piece-else-stands+in_ok-atom-2 w ↦ piece_reads c.requires
      (rw (w.atom-is, w.takers-is, w.follow-is)
      (atom_reads (w.in_ok-atom-2.ensures (read_as alternatives) (sym c.stands.ensures ∙ w.if-stands.false))))
      c.carry.ensures
]

pub read_sequence-returns-in_err-left : goal.read_sequence-returns-in_err-left
read_sequence-returns-in_err-left t c =
    let p = err_from_is_err_and c.from_residual.result c.from_residual.ensures.1 in
    rw (p.1, p.2) (sequence_wrong c.in_err-left.ensures)

pub read_sequence-returns-then-ends_sequence : goal.read_sequence-returns-then-ends_sequence
read_sequence-returns-then-ends_sequence t c = sequence_alone c.requires c.in_ok-left.ensures (sym c.ends_sequence.ensures ∙ c.if-ends_sequence.true)

pub read_sequence-read_sequence-requires : goal.read_sequence-read_sequence-requires
read_sequence-read_sequence-requires t c =
    let r = ready_behind c.requires (got c.requires c.in_ok-left.ensures) in
    (omega (arith, r.1, r.0.inside, c.decreases), r.0)

pub read_sequence-returns-in_err-right : goal.read_sequence-returns-in_err-right
read_sequence-returns-in_err-right t c =
    let p = err_from_is_err_and c.from_residual-in_err-right.result c.from_residual-in_err-right.ensures.1 in
    rw (p.1, p.2) (sequence_fault c.requires c.in_ok-left.ensures (sym c.ends_sequence.ensures ∙ c.if-ends_sequence.false) c.in_err-right.ensures)

pub read_sequence-returns : goal.read_sequence-returns
read_sequence-returns t c =
    sequence_more c.requires c.in_ok-left.ensures (sym c.ends_sequence.ensures ∙ c.if-ends_sequence.false) c.in_ok-right.ensures
    c.join.ensures
