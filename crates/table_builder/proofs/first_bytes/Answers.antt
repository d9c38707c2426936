use Rattle.std.proofs.Common.{◌≡◌, ◌∙◌, refl}
use Rattle.automaton.specs.Layers.{edge_at}
use Rattle.table_builder.proofs.Spanning.{spanning_next, spanning_end}
use Rattle.table_builder.proofs.first_bytes.Goals as goal

pub loop-e-preserved : goal.loop-e-preserved
loop-e-preserved c =
    let s = c.in-Some.ensures.steps in
    let e : c.in-Some.e ≡ edge_at c.args.table.now c.loop-e.e-iterator.link = rw (← c.loop-e.invariant.0) s.word in (
      s.same ∙ c.loop-e.invariant.0,
      spanning_next c.loop-e.invariant.1 s.some (cc) (cc) (rw (← c.loop-e.invariant.0) s.next),
    )

pub returns-clause-by_index : goal.returns-clause-by_index
returns-clause-by_index c = spanning_end c.loop-e.invariant.1 c.in-None.ensures.steps.0 refl
