-- What a table says of the rules that it holds. Assumes nothing.
use mathlib.Core.Path.{◌≡◌, sym, ◌∙◌}
use mathlib.Core.Option.{none}
use mathlib.Core.List.{List, []}
use Prim.Native.Nat.{ℕ, ◌≤◌}
use native.Mathlib.Omega.{arith}
use lib.ListN.{length}
use Rattle.automaton.specs.Choice.{All}
use Rattle.automaton.specs.Rule.{Rule, Sound, state_count}
use Rattle.automaton.specs.Layers.{rule_room, count_at, blank, Holds, Held}
use Rattle.automaton.proofs.Tests.{all_of}
use Rattle.longest_match.specs.Lexer.{first_match}
use Rattle.longest_match.proofs.First.{nothing_empty}

module _ {tb : List ℕ} {rules : List Rule} (h : Holds tb rules) where
  pub held_sound : All (Sound state_count) rules
  held_sound = all_of (Sound state_count) rules blank (λ k l. (h.each k l).sound)

  pub held_empty : first_match rules [] ≡ none
  held_empty = nothing_empty state_count rules held_sound

-- as many rules as it says, and so no more than there is room for
module _ {tb : List ℕ} (held : Held tb) {n : ℕ} (h : (rules : List Rule) → Holds tb rules → n ≡ length rules) where
  pub held_many : n ≡ count_at tb
  held_many = h held.rules held.holds ∙ sym held.holds.count

  pub held_few : n ≤ rule_room
  held_few = omega (arith, h held.rules held.holds, held.holds.few)
