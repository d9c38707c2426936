-- `measure`: the first tokens have no fault, and `total` bytes.
use Rattle.std.proofs.Common.{List, ℕ, ◌<◌, get_or}
use Rattle.automaton.specs.Rule.{Rule}
use Rattle.automaton.specs.Layers.{Holds}
use Rattle.record.specs.Encoding.{encoded, Fits}
use Rattle.record.specs.Layers.{no_record}
use Rattle.slices.proofs.Passes.{Measuring}
use Rattle.slices.proofs.printing.measure.Given as goal

abbrev pub invariant-loop-k : goal.invariant-loop-k
invariant-loop-k l = record {
  fits : (i : ℕ) → i < l.k → Fits (get_or l.tokens i no_record);
  measuring : (rs : List Rule) → Holds l.table rs → Measuring rs (encoded l.tokens) l.pool l.total l.k;
}
