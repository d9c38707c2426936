-- `rewrite`: by what reading answers.
use Rattle.std.proofs.lemmas.Result.{err_from_is_err_and}
use Rattle.rewriting.proofs.Answering.{accepted_readable, answered_accepted, answered_refused}
use Rattle.rewriting.proofs.rewrite.Goals as goal

pub returns-in_err-read-clause-value : goal.returns-in_err-read-clause-value
returns-in_err-read-clause-value c =
    let p = err_from_is_err_and c.from_residual.result c.from_residual.ensures.1 in
    rw (p.1, p.2) (answered_refused c.args.book.now c.in_err-read.ensures c.args.out.now).answer

pub returns-in_err-read-clause-out_after : goal.returns-in_err-read-clause-out_after
returns-in_err-read-clause-out_after c = (answered_refused c.args.book.now c.in_err-read.ensures c.args.out.now).out

pub rewrite_accepted-requires : goal.rewrite_accepted-requires
rewrite_accepted-requires c = accepted_readable _ c.in_ok-read.ensures

pub returns-clause-value : goal.returns-clause-value
returns-clause-value c = (answered_accepted c.args.book.now c.in_ok-read.ensures c.args.out.now c.rewrite_accepted.ensures).answer

pub returns-clause-out_after : goal.returns-clause-out_after
returns-clause-out_after c = (answered_accepted c.args.book.now c.in_ok-read.ensures c.args.out.now c.rewrite_accepted.ensures).out
