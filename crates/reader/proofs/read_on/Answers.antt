-- From command to command. Assumes nothing.
use mathlib.Core.Path.{sym, ◌∙◌}
use native.Mathlib.Omega.{arith}
use borrow.Author.Rules.{rules}
use Rattle.std.proofs.lemmas.Result.{err_from_is_err_and}
use Rattle.reader.proofs.Loading.{going_stops, loaded_refused, here, mapped_ok, no_command, commanded, edges_left, room-left, taken_in}
use Rattle.reader.proofs.read_on.Goals as goal

pub returns-in_err-read : goal.returns-in_err-read
returns-in_err-read c =
    let p = err_from_is_err_and c.from_residual.result c.from_residual.ensures.1 in
    rw (p.1, p.2)
    (no_command _ c.command.result c.loop-cursor.invariant c.loop-cursor-test.true c.command.ensures
    (λ why f h. search rules) c.map_err.ensures.cases c.in_err-read.was)

pub apply-requires-clause-inside_value : goal.apply-requires-clause-inside_value
apply-requires-clause-inside_value c =
    let k = here c.loop-cursor.invariant c.loop-cursor-test.true (λ i. (c.type_inv.book i).fits) (mapped_ok _ c.command.result c.map_err.ensures.cases c.in_ok-read.was ∙ c.command.ensures) in
    (sym (commanded k).stands, room-left k, edges_left k, k.more)

pub returns-in_err-on : goal.returns-in_err-on
returns-in_err-on c =
    let k = here c.loop-cursor.invariant c.loop-cursor-test.true (λ i. (c.type_inv.book i).fits) (mapped_ok _ c.command.result c.map_err.ensures.cases c.in_ok-read.was ∙ c.command.ensures) in
    let p = err_from_is_err_and c.from_residual-in_err-on.result c.from_residual-in_err-on.ensures.1 in
    rw (p.1, p.2) (taken_in k _ _ c.apply.auto.table c.apply.ensures c.in_err-on.was)

pub loop-cursor-smaller : goal.loop-cursor-smaller
loop-cursor-smaller c =
    let k = here c.loop-cursor.invariant c.loop-cursor-test.true (λ i. (c.type_inv.book i).fits) (mapped_ok _ c.command.result c.map_err.ensures.cases c.in_ok-read.was ∙ c.command.ensures) in
    omega (arith, k.more, (commanded k).further)

pub loop-cursor-preserved : goal.loop-cursor-preserved
loop-cursor-preserved c =
    let k = here c.loop-cursor.invariant c.loop-cursor-test.true (λ i. (c.type_inv.book i).fits) (mapped_ok _ c.command.result c.map_err.ensures.cases c.in_ok-read.was ∙ c.command.ensures) in
    taken_in k _ _ c.apply.auto.table c.apply.ensures (rw c.in-On.is at c.in_ok-on.was)

pub returns-in-Done : goal.returns-in-Done
returns-in-Done c =
    let k = here c.loop-cursor.invariant c.loop-cursor-test.true (λ i. (c.type_inv.book i).fits) (mapped_ok _ c.command.result c.map_err.ensures.cases c.in_ok-read.was ∙ c.command.ensures) in
    taken_in k _ _ c.apply.auto.table c.apply.ensures (rw c.in-Done.is at c.in_ok-on.was)

pub returns-in-Narrow : goal.returns-in-Narrow
returns-in-Narrow c =
    let k = here c.loop-cursor.invariant c.loop-cursor-test.true (λ i. (c.type_inv.book i).fits) (mapped_ok _ c.command.result c.map_err.ensures.cases c.in_ok-read.was ∙ c.command.ensures) in
    taken_in k _ _ c.apply.auto.table c.apply.ensures (rw c.in-Narrow.is at c.in_ok-on.was)

pub returns : goal.returns
returns c = loaded_refused (going_stops c.loop-cursor.invariant c.loop-cursor-test.false) c.at.ensures
