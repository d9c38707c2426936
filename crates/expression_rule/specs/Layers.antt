-- What is known of the sets that an expression is compiled to: each is a number, as crate subsets takes them.
use Rattle.std.specs.Prelude.{◌≡◌, Bool, ℕ, suc, ◌+◌, ◌*◌, ◌<◌, ◌≤◌, length, get_or, take}
use mathlib.Core.List.{List, flatten}
use Rattle.automaton.specs.Choice.{All}
use Rattle.expression.specs.Expression.{Expression}
use Rattle.positions.specs.Positions.{size, depth, nullable, takes_at, first, last, follows}
use Rattle.positions.specs.Numbers.{set_of}
use Rattle.position_reader.specs.declared.Part.{Part}
use Rattle.expression_rule.specs.Outcome.{firsts_of, follow_of, takers_of}

-- these are the sets of e; what `follow` has for a number that is no position plays no part
pub record Sets (e : Expression) (firsts lasts : ℕ) (empty : Bool) (follow takers : List ℕ) : Type 0 where
  pub small : size e ≤ 64
  pub first-set : firsts ≡ set_of (first e)
  pub last_set : lasts ≡ set_of (last e)
  pub empty_matched : empty ≡ nullable e
  pub follow_size : length follow ≡ 64
  pub follow_set : (p : ℕ) → p < size e → get_or follow p 0 ≡ set_of (follows e p)
  pub takers_size : length takers ≡ 256
  pub takers_set : (b : ℕ) → b < 256 → get_or takers b 0 ≡ set_of (takes_at e b)

-- what was read of an expression, and noted of its positions; only of so many that the tables hold them is all noted
pub record Holds (e : Expression) (part : Part) (takers follow : List ℕ) : Type 0 where
  pub end : part.end ≡ size e
  pub deep : part.depth ≡ depth e
  pub empty : part.empty ≡ nullable e
  pub firsts : part.first ≡ firsts_of e
  pub lasts : part.last ≡ set_of (last e)
  pub takers_all : length takers ≡ 256 → takers ≡ takers_of e
  pub follow_all : length follow ≡ 64 → follow ≡ follow_of e

-- the rows of states 0 to count stand in the targets
pub record Stood (rows : List (List ℕ)) (targets : List ℕ) (count : ℕ) : Type 0 where
  pub number : length rows ≡ suc count
  pub wide : All (λ (row : List ℕ). length row ≡ 256) rows
  pub laid : take (256 * (count + 1)) targets ≡ flatten rows
