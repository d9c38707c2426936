-- `rewrite_accepted`: each return is one case of the outcome.
use Rattle.std.proofs.Common.{arith}
use Rattle.answer.specs.declared.Reason.TheVariants.{BookTooLong}
use Rattle.book.specs.Limits.{max_bytes}
use Rattle.output.proofs.Written.{written_short, written-whole, up_to_long, up_to_fitting}
use Rattle.rewriting.specs.Rewritten.{rewritten}
use Rattle.rewriting.proofs.rewrite_accepted.Goals as goal

pub returns-then-total-gt-BYTES : goal.returns-then-total-gt-BYTES
returns-then-total-gt-BYTES c =
    up_to_long max_bytes BookTooLong (rewritten c.args.book.now) c.args.out.now (omega (arith, c.measure-total.ensures)) (cc)

pub returns-then-out-total : goal.returns-then-out-total
returns-then-out-total c =
    let e = c.measure-total.ensures in
    up_to_fitting max_bytes BookTooLong (rewritten c.args.book.now) c.args.out.now (omega (arith, e))
    (written_short (rewritten c.args.book.now) c.args.out.now e (omega arith) (cc))

pub returns : goal.returns
returns c =
    let e = c.measure-total.ensures in
    up_to_fitting max_bytes BookTooLong (rewritten c.args.book.now) c.args.out.now (omega (arith, e))
    (written-whole (rewritten c.args.book.now) c.args.out.now e (omega arith) (rw (← e) at c.write_commands.ensures))
