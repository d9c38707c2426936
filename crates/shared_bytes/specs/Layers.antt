-- What the layers of the code ask and answer between themselves. Nobody needs to believe it: the operations' contracts do not rest on it.
use Rattle.std.specs.Prelude.{◌≡◌, Bool, true, false, List, ℕ, ◌<◌, length, get_or}
use Rattle.automaton.specs.Rule.{Rule, used}
use Rattle.automaton.specs.Layers.{Holds, rule_at}
use Rattle.used_bytes.specs.Layers.{Fits}

-- ---- rules that working storage has room for

-- the first n rules fit
abbrev pub FirstFit : ℕ → ℕ → List Rule → ℕ → Type 0
FirstFit bound edges rules n = (k : ℕ) → k < n → Fits bound edges (rule_at rules k)

-- all rules of the table do
pub record Fitting (bound edges : ℕ) (tb : List ℕ) : Type 0 where
  pub rules : List Rule
  pub holds : Holds tb rules
  pub each : FirstFit bound edges rules (length rules)

-- a narrow rule fits these
abbrev pub narrow_states : ℕ
narrow_states = 256

abbrev pub narrow_edges : ℕ
narrow_edges = 512

-- ---- covered bytes

-- the bytes that the first n rules use, of those of a kind, are marked
pub record Covers (rules : List Rule) (kind n : ℕ) (set : List Bool) : Type 0 where
  pub size : length set ≡ 256
  pub marks : (k : ℕ) → k < n → (rule_at rules k).kind ≡ kind → (b : ℕ) → b < 256 → used (rule_at rules k) b ≡ true → get_or set b false ≡ true
