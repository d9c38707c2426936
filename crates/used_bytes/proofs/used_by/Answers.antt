-- What the start reaches, swept.
use native.Mathlib.Omega.{arith}
use borrow.Author.Rules.{rules}
use Rattle.used_bytes.proofs.Useful.{reaches-room}
use Rattle.used_bytes.proofs.used_by.Goals as goal

pub sweep-requires : goal.sweep-requires
sweep-requires c =
    let a = c.requires in
    record {
      bound = a.0;
      edges = a.1;
      number = _;
      fitted = a.2;
      seen = _;
      reaches = c.reach-states.ensures a.0 a.3.unseen a.2.rule a.2.table;
      storage = a.3.storage;
      stamp_below = omega (arith, a.2.table.number);
      size = search rules;
      clear = c.empty-set.ensures;
    }

pub returns-clause-by_index : goal.returns-clause-by_index
returns-clause-by_index c = λ bound edges o.
    let a = c.requires in
    reaches-room _ (c.reach-states.ensures bound o.unseen a.2.rule a.2.table) (c.sweep.ensures.by_index bound edges o.storage)

pub returns-clause-b_value : goal.returns-clause-b_value
returns-clause-b_value c = λ m t.
    let a = c.requires in
    c.sweep.ensures.by_index_2 a.0 _ m t _ (c.reach-states.ensures a.0 a.3.unseen m t)
