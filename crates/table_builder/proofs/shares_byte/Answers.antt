use Rattle.std.proofs.Common.{arith, refl, ◌≡◌, ◌∙◌, ◌<◌}
use mathlib.Core.Logic.{◌⊎◌}
use Rattle.automaton.specs.Layers.{low_of, high_of, edge_at}
use Rattle.automaton.proofs.Chains.{along_next, along_hit, along_end}
use Rattle.table_builder.proofs.Spanning.{share_hit, share_miss}
use Rattle.table_builder.proofs.shares_byte.Goals as goal

pub returns-then-low-last : goal.returns-then-low-last
returns-then-low-last c =
    let s = c.in-Some.ensures.steps in
    let e : c.in-Some.e ≡ edge_at c.args.table.now c.loop-e.e-iterator.link = rw (← c.loop-e.invariant.0) s.word in
    along_hit c.loop-e.invariant.1 s.some
    (λ t us l. share_hit _ _ us l (rw (← e) (omega arith)) (rw (← e) (omega arith)))

pub loop-e-preserved : goal.loop-e-preserved
loop-e-preserved c =
    let s = c.in-Some.ensures.steps in
    let e : c.in-Some.e ≡ edge_at c.args.table.now c.loop-e.e-iterator.link = rw (← c.loop-e.invariant.0) s.word in
    let m : (high_of c.in-Some.e < c.args.low) ⊎ (c.args.high < low_of c.in-Some.e) = (grind arith) in (
      s.same ∙ c.loop-e.invariant.0,
      along_next c.loop-e.invariant.1 s.some (λ t us l. share_miss _ _ us l (rw (← e) m)) (rw (← c.loop-e.invariant.0) s.next),
    )

pub returns : goal.returns
returns c = along_end c.loop-e.invariant.1 c.in-None.ensures.steps.0 refl
