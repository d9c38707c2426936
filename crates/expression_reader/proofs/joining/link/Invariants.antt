-- `link`: the positions below `p` are linked.
use Rattle.std.proofs.Common.{◌≡◌, ◌<◌}
use Rattle.expression_reader.specs.Layers.{Linked}
use Rattle.expression_reader.proofs.joining.link.Given as goal

abbrev pub invariant-loop-p : goal.invariant-loop-p
invariant-loop-p l = record {
  linked : Linked l.from l.p l.last l.first l.initial.follow l.follow;
  way : l.to < l.p → l.p ≡ l.from;
}
