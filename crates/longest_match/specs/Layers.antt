-- What the layers of the code ask and answer between themselves. Nobody needs to believe it: the operations' contracts do not rest on it.
use Rattle.std.specs.Prelude.{◌≡◌, true, false, List, ℕ, ◌+◌, ◌-◌, ◌<◌, ◌≤◌, Option, Some, None, length, take, drop}
use Rattle.std.proofs.Math.Option.{none, some}
use Rattle.automaton.specs.Rule.{Rule, walk, matches}
use Rattle.automaton.specs.Layers.{rule_at}
use Rattle.longest_match.specs.Lexer.{Found, choose, lex}
use Rattle.longest_match.specs.Steps.{prefixes, greatest, first_with}
use Rattle.longest_match.specs.Masks.{agreeing, mask_of}
use Rattle.longest_match.specs.declared.Choice.{Choice}

-- ---- What the code answers, said of the rules that a table holds.

-- the bytes of a text from one place to another
unfoldable pub part : List ℕ → ℕ → ℕ → List ℕ
part text from to = take (to - from) (drop from text)

-- the first len bytes of a text as a token of this tag
abbrev pub front : ℕ → ℕ → List ℕ → Found
front tag len text = record { token = record { tag = tag; bytes = take len text }; rest = drop len text }

-- the parts of a choice; all 0 for none
abbrev pub chosen_rule : Option Choice → ℕ
chosen_rule (Some c) = c.rule
chosen_rule None = 0

abbrev pub chosen_len : Option Choice → ℕ
chosen_len (Some c) = c.len
chosen_len None = 0

abbrev pub chosen_mask : Option Choice → ℕ
chosen_mask (Some c) = c.mask
chosen_mask None = 0

-- Rule number `rule` is chosen with the first `len` bytes: it matches them, no earlier rule does, and no rule matches more.
-- Both are 0 where nothing is chosen.
pub record Chooses (rules : List Rule) (text : List ℕ) (rule len : ℕ) : Type 0 where
  pub within : len ≤ length text
  pub nothing : len ≡ 0 → choose rules text ≡ none
  pub idle : len ≡ 0 → rule ≡ 0
  pub known : 0 < len → rule < length rules
  pub matched : 0 < len → matches (rule_at rules rule) (take len text) ≡ true
  pub earlier : 0 < len → (k : ℕ) → k < rule → matches (rule_at rules k) (take len text) ≡ false
  pub chosen : 0 < len → choose rules text ≡ some (front (rule_at rules rule).tag len text)

-- The rules that match just the first `len` bytes are those of the mask; 0 where nothing is chosen.
pub record Agrees (rules : List Rule) (text : List ℕ) (len mask : ℕ) : Type 0 where
  pub empty : len ≡ 0 → mask ≡ 0
  pub agreed : 0 < len → mask ≡ agreeing rules (take len text)

-- The mask of the lengths that are n; 0 where n is.
pub record MaskOf (lengths : List ℕ) (n mask : ℕ) : Type 0 where
  pub zero : n ≡ 0 → mask ≡ 0
  pub those : 0 < n → mask ≡ mask_of n lengths

-- What steps 2 and 3 find in the lengths of the prefixes; all 0 where none is more than 0.
pub record Picks (lengths : List ℕ) (rule len mask : ℕ) : Type 0 where
  pub longest : len ≡ greatest lengths
  pub earliest : rule ≡ first_with len lengths
  pub mask_is : MaskOf lengths len mask

-- whether a rule stands in its error state after so many bytes of a text
abbrev pub Stopped : Rule → List ℕ → ℕ → Type 0
Stopped r text k = walk r r.start (take k text) ≡ r.error

-- After n bytes of a text, one or more, each of the first `count` rules stands in its error state, and after more too; after fewer, but for
-- none, one of them does not. n is one more than there are where that is never so.
pub record GoFar (rules : List Rule) (count : ℕ) (text : List ℕ) (n : ℕ) : Type 0 where
  pub some : 0 < n
  pub within : n ≤ length text + 1
  pub going : (k : ℕ) → 0 < k → k < n → (j : ℕ) × (j < count) × (Stopped (rule_at rules j) text k → ⊥)
  pub stopped : (k : ℕ) → n ≤ k → k ≤ length text → (j : ℕ) → j < count → Stopped (rule_at rules j) text k

-- the walks of the rules over a text: the lengths of their longest prefixes stand at the front of those, and they go so far
pub record Walks (rules : List Rule) (text lengths : List ℕ) (n : ℕ) : Type 0 where
  pub front_is : take (length rules) lengths ≡ prefixes rules text
  pub far : GoFar rules (length rules) text n

-- the number of tokens and the place of the rest
pub record Cuts (rules : List Rule) (text : List ℕ) (tokens rest : ℕ) : Type 0 where
  pub tokens_are : tokens ≡ length (lex rules text).tokens
  pub rest_is : rest ≡ length text - length (lex rules text).rest
