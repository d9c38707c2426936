-- Where a step of a walk leads, and how far a rule goes. Nobody needs to believe it: the operations' contracts do not rest on it.
use Rattle.std.specs.Prelude.{◌≡◌, List, [], ◌∷◌, Option, None, Some, ℕ, ◌+◌, ◌<◌, ◌≤◌, max, ltb, eqb, length, take}
use Rattle.automaton.specs.Choice.{if}
use Rattle.automaton.specs.Rule.{Transition, Rule, covers, walk}
use Rattle.automaton.specs.Layers.{state_of, head_of, spot_of, to_of, edge_at}

-- where a chain's transitions lead at b: by the first that covers b, else to the error state
unfoldable pub pick : List Transition → ℕ → ℕ → ℕ
pick [] b error = error
pick (t ∷ ts) b error = if (covers t b) t.to (pick ts b error)

-- p is the spot to which the first transition that covers b leads
pub record Found (tb : List ℕ) (first head : ℕ) (ts : List Transition) (b p : ℕ) : Type 0 where
  pub link : ℕ
  pub some : 0 < link
  pub above : first ≤ link
  pub below : link ≤ head
  pub spot : p ≡ spot_of (edge_at tb link)
  pub to : (error : ℕ) → pick ts b error ≡ to_of (edge_at tb link)

-- the spot to which the first transition that covers b leads
abbrev pub Finds : List ℕ → ℕ → ℕ → List Transition → ℕ → Option ℕ → Type 0
Finds tb first head ts b None = (error : ℕ) → pick ts b error ≡ error
Finds tb first head ts b (Some p) = Found tb first head ts b p

-- how far a walk went that stands at the spot or start p after i bytes, where no byte more leads elsewhere than into the error state: to
-- where it stood there first, behind its first byte at least; a state that something leaves is not the error state
abbrev pub went_to : ℕ → ℕ → ℕ → ℕ
went_to error p i = if (ltb 0 (head_of p)) (i + 1) (if (eqb i 0) 1 (if (eqb (state_of p) error) i (i + 1)))

-- After n bytes of a text, one or more, the rule stands in its error state, and after fewer, but for none, it does not; n is one more than
-- there are where it does so after none of them.
pub record Goes (r : Rule) (text : List ℕ) (n : ℕ) : Type 0 where
  pub some : 0 < n
  pub within : n ≤ length text + 1
  pub going : (k : ℕ) → 0 < k → k < n → walk r r.start (take k text) ≡ r.error → ⊥
  pub stopped : n ≤ length text → walk r r.start (take n text) ≡ r.error

-- the further of two: what was known, and how far the rule goes
pub record Further (r : Rule) (text : List ℕ) (known went : ℕ) : Type 0 where
  pub far : ℕ
  pub goes : Goes r text far
  pub further : went ≡ max known far
