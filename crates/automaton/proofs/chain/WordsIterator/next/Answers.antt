use Rattle.std.proofs.Common.{◌<◌, arith, rules}
use Rattle.automaton.specs.Layers.{Chained}
use Rattle.automaton.proofs.Chains.{Step, chained_step}
use Rattle.automaton.proofs.chain.WordsIterator.next.Goals as goal

pub offset_bounds-self-self : goal.offset_bounds-self-self
offset_bounds-self-self c = omega (arith, (chained_step c.requires (omega arith)).room)

pub bounds-self-self : goal.bounds-self-self
bounds-self-self c = (chained_step c.requires (omega arith)).room

pub returns-clause-goes : goal.returns-clause-goes
returns-clause-goes c =
    let k = c.args.self.now in
    let s : Step k.table.now k.link = chained_step c.requires (omega arith) in
    let n : Chained k.table.now c.next-self.result = rw c.next-self.ensures s.rest in
    let l : c.next-self.result < k.link = rw c.next-self.ensures s.back in
    record { on = λ f. (n, search rules, l); keeps = n; rests = λ f. search rules }

pub returns-clause-steps : goal.returns-clause-steps
returns-clause-steps c =
    record {
      some = omega arith;
      word = cc;
      next = c.next-self.ensures;
      lower = rw c.next-self.ensures (chained_step c.requires (omega arith)).back;
      same = cc;
    }
