-- By the rule of that number in the table.
use Rattle.std.proofs.Common.{arith}
use Rattle.automaton.specs.Layers.{rule_at}
use Rattle.book_reader.proofs.Rules.{rule-past, rule_told}
use Rattle.book_reader.proofs.rule_in.Goals as goal

pub returns-then-rules-index : goal.returns-then-rules-index
returns-then-rules-index c = λ rs h. rw c.at.ensures (rule-past rs (c.count_of-rules.ensures rs h) (omega arith))

pub tag_of-tag-requires : goal.tag_of-tag-requires
tag_of-tag-requires c =
    let n = c.count_of-rules.ensures _ c.requires.holds in
    record { rule = rule_at c.requires.rules c.args.index; table = c.requires.holds.each _ (omega arith) }

pub kind_of-kind-requires : goal.kind_of-kind-requires
kind_of-kind-requires c =
    let n = c.count_of-rules.ensures _ c.requires.holds in
    record { rule = rule_at c.requires.rules c.args.index; table = c.requires.holds.each _ (omega arith) }

pub returns : goal.returns
returns c = λ rs h.
    let n = c.count_of-rules.ensures rs h in
    let t = h.each c.args.index (omega arith) in
    rule_told rs n (omega arith) (c.tag_of-tag.ensures _ t) (c.kind_of-kind.ensures _ t)
