-- `read_back`: a turn reads one token back. Assumes nothing.
use mathlib.Core.Path.{◌≡◌, sym, ◌∙◌, subst}
use native.Mathlib.Omega.{arith}
use Rattle.longest_match.proofs.Parts.{part_end}
use Rattle.longest_match.proofs.Held.{held_empty}
use Rattle.record.specs.Records.{record_count}
use Rattle.token_list.specs.Layers.{ReadsBack}
use Rattle.token_list.proofs.Settling.{retracing_start, retracing_within, retracing_next, retracing_none}
use Rattle.token_list.proofs.Settling.{found, retracing_longer, retracing_other, retracing_end}
use Rattle.token_list.proofs.readback.read_back.Goals as goal
use Rattle.token_list.proofs.readback.read_back.Goals.{then-chosen-len-via-then-chosen-len, then-chosen-len-via-else-chosen-len+then-ne}

pub loop-k-init : goal.loop-k-init
loop-k-init c = λ rs pool h s. retracing_start s

pub choose_with-requires-clause-from_le_to : goal.choose_with-requires-clause-from_le_to
choose_with-requires-clause-from_le_to c =
    let held = c.requires.held in
    let w = (c.loop-k.invariant held.rules c.requires.spreads.pool held.holds c.requires.spreads.spread).within in
    (omega (arith, w), omega arith)

pub returns-in_default : goal.returns-in_default
returns-in_default c = λ rs pool h s.
    retracing_none (c.loop-k.invariant rs pool h s) (held_empty h) (omega arith) c.read_record-token.ensures
    (c.in_default.ensures.chooses rs _ h (part_end _ _)) (omega arith)

pub returns-then-chosen-len : goal.returns-then-chosen-len
returns-then-chosen-len c = λ rs pool h s.
    let w = c.loop-k.invariant rs pool h s in
    let chosen = c.in-Some.ensures.chooses rs _ h (part_end _ _) in
    elim c.then-chosen-len.branch [
      | then-chosen-len-via-then-chosen-len b ↦
          retracing_longer w (held_empty h) (omega arith) c.read_record-token.ensures chosen (λ e. omega arith)
      | then-chosen-len-via-else-chosen-len+then-ne b ↦
          retracing_other w (held_empty h) (omega arith) c.read_record-token.ensures chosen c.in-Some.ensures.some_byte (omega arith)
          _ (c.find_tag-rule.ensures rs h) (sym b.ne.ensures ∙ b.if-ne.true)
    ]

pub overflow_add-at : goal.overflow_add-at
overflow_add-at c =
    let held = c.requires.held in
    let w = c.loop-k.invariant held.rules c.requires.spreads.pool held.holds c.requires.spreads.spread in
    omega (arith, retracing_within w (held_empty held.holds) (omega arith) c.read_record-token.ensures)

pub loop-k-preserved : goal.loop-k-preserved
loop-k-preserved c = λ rs pool h s.
    retracing_next (c.loop-k.invariant rs pool h s) (held_empty h) (omega arith) c.read_record-token.ensures
    (c.in-Some.ensures.chooses rs _ h (part_end _ _)) c.in-Some.ensures.some_byte (omega arith)
    (found _ (c.find_tag-rule.ensures rs h) (sym c.ne.ensures ∙ c.if-ne.false))

pub returns : goal.returns
returns c = λ rs pool h s.
    let e : c.loop-k.k ≡ record_count c.args.records.now = omega (arith, (c.loop-k.invariant rs pool h s).few) in
    subst (ReadsBack rs c.args.records.now pool) e (retracing_end (c.loop-k.invariant rs pool h s) (omega arith))
