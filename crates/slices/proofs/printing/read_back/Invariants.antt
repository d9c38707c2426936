-- `read_back`: the first tokens are not read on, for any rules that the table holds and any pool that has the bytes.
use Rattle.std.proofs.Common.{◌≡◌, ◌≤◌, List, ℕ, take}
use Rattle.automaton.specs.Rule.{Rule}
use Rattle.automaton.specs.Layers.{Holds}
use Rattle.longest_match.specs.Lexer.{join}
use Rattle.record.specs.Encoding.{encoded}
use Rattle.record.specs.Tokens.{tokens_of}
use Rattle.token_list.specs.Layers.{Faultless}
use Rattle.slices.proofs.Passes.{Extending}
use Rattle.slices.proofs.printing.read_back.Given as goal

abbrev pub invariant-loop-k : goal.invariant-loop-k
invariant-loop-k l = record {
  within : l.at ≤ l.total;
  extending : (rs : List Rule) (pool : List ℕ) → Holds l.table rs → Faultless rs (encoded l.tokens) pool
      → take l.total l.text ≡ join (tokens_of (encoded l.tokens) pool)
      → Extending rs (encoded l.tokens) pool (take l.total l.text) l.at l.k;
}
