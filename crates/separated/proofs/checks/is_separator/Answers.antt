-- `is_separator`: a rule of the tag is a separator or not.
use Rattle.std.proofs.Common.{arith, sym, ◌∙◌}
use Rattle.automaton.specs.Layers.{rule_at}
use Rattle.separated.proofs.Checking.{plainly_start, plainly_other, plainly_plain, plainly_end, separator-found}
use Rattle.separated.proofs.checks.is_separator.Goals.{else-tag_of-tag-via-then-tag_of-tag+else-kind_of-eq1, else-tag_of-tag-via-else-tag_of-tag}
use Rattle.separated.proofs.checks.is_separator.Goals as goal

pub loop-k-init : goal.loop-k-init
loop-k-init c = λ rs h. plainly_start rs _

pub tag_of-requires : goal.tag_of-requires
tag_of-requires c =
    let n = c.count_of-k-end.ensures _ c.requires.holds in
    record { rule = rule_at c.requires.rules c.loop-k.k; table = c.requires.holds.each _ (omega arith) }

pub kind_of-requires : goal.kind_of-requires
kind_of-requires c =
    let n = c.count_of-k-end.ensures _ c.requires.holds in
    record { rule = rule_at c.requires.rules c.loop-k.k; table = c.requires.holds.each _ (omega arith) }

pub returns-then-kind_of-eq1 : goal.returns-then-kind_of-eq1
returns-then-kind_of-eq1 c = λ rs h.
    let n = c.count_of-k-end.ensures rs h in
    let t = h.each c.loop-k.k (omega arith) in
    separator-found rs _ _ (omega arith) (sym (c.tag_of.ensures _ t) ∙ c.if-tag_of-tag.true) (sym (c.kind_of.ensures _ t) ∙ c.if-kind_of-eq1.true)

pub returns : goal.returns
returns c = λ rs h. let n = c.count_of-k-end.ensures rs h in plainly_end (c.loop-k.invariant rs h) (omega arith)

pub loop-k-preserved : goal.loop-k-preserved
loop-k-preserved c = λ rs h.
    let n = c.count_of-k-end.ensures rs h in
    let t = h.each c.loop-k.k (omega arith) in
    elim c.else-tag_of-tag.branch [
      | else-tag_of-tag-via-then-tag_of-tag+else-kind_of-eq1 w ↦
          plainly_plain (c.loop-k.invariant rs h) (λ z. w.if-kind_of-eq1.false (w.kind_of.ensures _ t ∙ z))
      | else-tag_of-tag-via-else-tag_of-tag w ↦ plainly_other (c.loop-k.invariant rs h) (λ z. w.if-tag_of-tag.false (c.tag_of.ensures _ t ∙ z))
    ]
