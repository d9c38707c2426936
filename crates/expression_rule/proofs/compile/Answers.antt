-- `compile`: each return is one case of the outcome.
use Rattle.std.proofs.Common.{rules, arith, sym, ◌∙◌, eq-eqb, ne_eqb}
use mathlib.Core.Path.{◌≡◌}
use mathlib.Core.Bool.{false, ◌||◌}
use mathlib.Core.List.{List}
use Prim.Native.Nat.{ℕ, ◌≤◌}
use lib.Dec.{eqb, ltb}
use lib.ListN.{length}
use borrow.Author.Tests.{le-ltb, lt-ltb}
use Rattle.expression_rule.proofs.Answers.{wrong_rule_lem, text_long, text_wrong}
use Rattle.expression_rule.proofs.Compiling.{answered, passed, holds, understood, mistaken}
use Rattle.expression_rule.proofs.compile.Goals as goal

-- tag and kind are those of a rule, and the text is no longer than the limit
fine : (tag kind : ℕ) → (tag ≡ 0 → ⊥) → kind ≤ 1 → eqb tag 0 || ltb 1 kind ≡ false
fine tag kind some low = rw (ne_eqb tag 0 some, le-ltb 1 kind low)

short : (text : List ℕ) → length text ≤ 512 → ltb 512 (length text) ≡ false
short text low = le-ltb 512 (length text) low

pub returns-then-tag-eq0 : goal.returns-then-tag-eq0
returns-then-tag-eq0 c = answered (wrong_rule_lem _ _ _ _ (rw (eq-eqb _ 0 c.if-tag-eq0.true))) (search rules)

pub returns-then-kind-gt1 : goal.returns-then-kind-gt1
returns-then-kind-gt1 c = answered (wrong_rule_lem _ _ _ _ (rw (ne_eqb _ 0 c.if-tag-eq0.false, lt-ltb 1 c.args.kind (omega arith)))) (search rules)

pub returns-then-text-gt-BYTES : goal.returns-then-text-gt-BYTES
returns-then-text-gt-BYTES c =
    answered (text_long _ _ _ _ (fine c.args.tag c.args.kind c.if-tag-eq0.false (omega arith)) (lt-ltb 512 (length c.args.text.now) (omega arith))) (search rules)

pub returns-in-Ok : goal.returns-in-Ok
returns-in-Ok c =
    let u = understood _ (sym c.in-Ok.is ∙ c.read_expression.ensures.answer) in
    let h = holds (c.read_expression.ensures.noted u.expression u.reads) c.args.text.now u.is in
    passed _ _ _ _ (fine c.args.tag c.args.kind c.if-tag-eq0.false (omega arith)) (short c.args.text.now (omega arith)) u.reads (c.compile_part.ensures u.expression h)

pub returns-in-Err : goal.returns-in-Err
returns-in-Err c =
    let w = mistaken _ (sym c.in-Err.is ∙ c.read_expression.ensures.answer) in
    answered (text_wrong _ _ _ _ (fine c.args.tag c.args.kind c.if-tag-eq0.false (omega arith)) (short c.args.text.now (omega arith)) w) (search rules)
