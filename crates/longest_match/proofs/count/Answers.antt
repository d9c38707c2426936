use Rattle.std.proofs.Common.{arith, refl}
use Rattle.longest_match.proofs.Parts.{part_end}
use Rattle.longest_match.proofs.Cutting.{cutting_within, cutting_next, cutting_stop, lex_stop, lex-end}
use Rattle.longest_match.proofs.count.Goals as goal

pub overflow_add-at : goal.overflow_add-at
overflow_add-at c =
    let rs = c.requires.rules in
    let h = c.requires.holds in
    omega (arith, cutting_within (c.loop-at.invariant rs h) (c.in-Some.ensures.chooses rs _ h (part_end _ _)) c.in-Some.ensures.some_byte)

pub loop-at-preserved : goal.loop-at-preserved
loop-at-preserved c = λ rs h.
    cutting_next (c.loop-at.invariant rs h) (c.in-Some.ensures.chooses rs _ h (part_end _ _)) c.in-Some.ensures.some_byte

pub returns-after-loop-at : goal.returns-after-loop-at
returns-after-loop-at c = λ rs h. cutting_stop (c.loop-at.invariant rs h) (lex-end rs c.args.text.now c.loop-at.at (omega arith))

pub returns-in_default : goal.returns-in_default
returns-in_default c = λ rs h.
    cutting_stop (c.loop-at.invariant rs h) (lex_stop rs _ ((c.in_default.ensures.chooses rs _ h (part_end _ _)).nothing refl))
