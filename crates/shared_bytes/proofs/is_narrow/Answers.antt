-- The transitions stand where the table says.
use Prim.Native.Nat.{◌≤◌}
use native.Mathlib.Omega.{arith}
use borrow.Author.Rules.{rules}
use Rattle.std.proofs.Common.{List, ℕ, ◌-◌, ◌<◌, take, drop}
use Rattle.std.proofs.lemmas.Iterator.{cases_from_all, YieldsList-from_slice}
use Rattle.automaton.specs.Layers.{to_of}
use Rattle.shared_bytes.specs.Layers.{narrow_states, narrow_edges}
use Rattle.shared_bytes.proofs.Fitting.{looking_all, looking_few, looking_order}
use Rattle.shared_bytes.proofs.is_narrow.Goals as goal

pub slice_bounds-iter-count : goal.slice_bounds-iter-count
slice_bounds-iter-count c = looking_order c.requires.table c.first_of-first.ensures c.end_of-end.ensures

pub slice_bounds-iter-start : goal.slice_bounds-iter-start
slice_bounds-iter-start c =
    let h : c.first_of-first.result ≤ c.end_of-end.result = looking_order c.requires.table c.first_of-first.ensures c.end_of-end.ensures in
    search rules

pub returns : goal.returns
returns c = λ m t e.
    let slice : List ℕ = take (c.end_of-end.result - c.first_of-first.result) (drop c.first_of-first.result c.args.table.now) in
    record {
      start = omega (arith, (c.start_spot.ensures m t).state);
      tos = looking_all t c.first_of-first.ensures c.end_of-end.ensures narrow_states
          (rw e at (cases_from_all _ _ c.all.result (λ x. to_of x < narrow_states) (λ x. Unit {0}) c.all.ensures.ran
          (YieldsList-from_slice slice c.iter.ensures.rest) (λ x q d. search rules) (λ x q d. tt)));
      few = looking_few t c.first_of-first.ensures c.end_of-end.ensures narrow_edges c.if-first-end.false;
    }
