use Rattle.std.proofs.Common.{◌<◌, ◌≤◌, length, sym, ◌∙◌, arith, below_more}
use borrow.Author.Tests.{ne_eqb}
use Rattle.automaton.proofs.find_tag.Goals as goal

pub tag_of-requires : goal.tag_of-requires
tag_of-requires c =
    let q = c.requires in
    record { rule = _; table = q.holds.each c.loop-k.k (omega (arith, c.count_of-k-end.ensures q.rules q.holds)) }

pub returns-then-tag_of-tag : goal.returns-then-tag_of-tag
returns-then-tag_of-tag c = λ rs h.
    let l : c.loop-k.k < length rs = omega (arith, c.count_of-k-end.ensures rs h) in (
      l,
      record {
        within = omega arith;
        earlier = c.loop-k.invariant rs h;
        here = λ m. sym (c.tag_of.ensures _ (h.each c.loop-k.k l)) ∙ c.if-tag_of-tag.true;
      },
    )

pub loop-k-preserved : goal.loop-k-preserved
loop-k-preserved c = λ rs h.
    let l : c.loop-k.k < length rs = omega (arith, c.count_of-k-end.ensures rs h) in
    below_more _ _ (c.loop-k.invariant rs h)
    (ne_eqb _ _ (λ e. c.if-tag_of-tag.false (c.tag_of.ensures _ (h.each c.loop-k.k l) ∙ e)))

pub returns : goal.returns
returns c = λ rs h.
    let l : length rs ≤ c.loop-k.k = omega (arith, c.count_of-k-end.ensures rs h) in
    record { within = omega arith; earlier = λ j m. c.loop-k.invariant rs h j (omega arith); here = λ m. absurd (omega arith) }
