-- The limits of documents 01 and 02, named once, but for the number of states (`state_count`, with what a rule is); the code has them as
-- constants of `Book`.
use Rattle.std.specs.Prelude.{ℕ}

abbrev pub max_bytes : ℕ
max_bytes = 65536

abbrev pub max_rules : ℕ
max_rules = 32

-- transitions of one rule
abbrev pub max_transitions : ℕ
max_transitions = 4096

-- bytes of a text, and of what a printer writes
abbrev pub max_text : ℕ
max_text = 65536

-- tokens of a list
abbrev pub max_tokens : ℕ
max_tokens = 65536
