-- What is said of RULE for each way out. Assumes nothing.
use native.Mathlib.Omega.{arith}
use Rattle.automaton.specs.Rule.{overlaps}
use Rattle.book.proofs.Steps.{rule_too_many, rule_tag_zero, rule_kind, rule_taken, rule-opened}
use Rattle.book.proofs.opening.open_rule.Goals as goal
use Rattle.book.proofs.opening.open_rule.Goals.{then-tag-eq0-via-then-tag-eq0, then-tag-eq0-via-else-tag-eq0+then-kind-gt1}

pub returns-then-rules-ge-RULES : goal.returns-then-rules-ge-RULES
returns-then-rules-ge-RULES c = λ rows len d h i. rw c.at.ensures (rule_too_many h _ _ _ len _ (omega arith))

pub returns-then-tag-eq0 : goal.returns-then-tag-eq0
returns-then-tag-eq0 c = λ rows len d h i. rw c.at-then-tag-eq0.ensures
    (elim c.then-tag-eq0.branch [
      | then-tag-eq0-via-then-tag-eq0 w ↦ rule_tag_zero h _ _ _ len _ (omega arith) w.if-tag-eq0.true
      | then-tag-eq0-via-else-tag-eq0+then-kind-gt1 w ↦ rule_kind h _ _ _ len _ (omega arith) w.if-tag-eq0.false w.if-kind-gt1.true
    ])

pub returns-then-is_taken : goal.returns-then-is_taken
returns-then-is_taken c = λ rows len d h i.
    rw c.at-then-is_taken.ensures
    (rule_taken h _ _ _ len _ (omega arith) (λ e. omega arith) (omega arith) (c.is_taken.ensures d.rules h.stored.holds) c.if-is_taken.true)

pub returns : goal.returns
unfolding overlaps
returns c = λ rows len d h i.
    rw c.between.ensures
    (rule-opened h _ _ _ len _ (omega arith) (λ e. omega arith) (omega arith) (c.is_taken.ensures d.rules h.stored.holds)
    c.if-is_taken.false i c.ranges.tag.fits (omega arith) (rw h.same))
