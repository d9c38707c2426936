-- The built-in book: its command bytes, and the rules that they say (document 01, 'The built-in book', sentences 1 to 6). What the rules
-- match is said in Patterns.
use Rattle.std.specs.Prelude.{List, [], ◌∷◌, ◌++◌, ℕ}
use Rattle.automaton.specs.Rule.{Transition, Rule}

-- a timestamp: sentence 1
abbrev pub timestamp_bytes : List ℕ
timestamp_bytes =
    0x01 ∷ 0x00 ∷ 0x01 ∷ 0x00 ∷ 0x02 ∷ 0x00 ∷ 0x03 ∷ 0x0B ∷ 0x04 ∷ 0x0A ∷
    0x05 ∷ 0x00 ∷ 0x5B ∷ 0x01 ∷
    0x06 ∷ 0x01 ∷ 0x30 ∷ 0x39 ∷ 0x02 ∷
    0x06 ∷ 0x02 ∷ 0x30 ∷ 0x39 ∷ 0x03 ∷
    0x05 ∷ 0x03 ∷ 0x3A ∷ 0x04 ∷
    0x06 ∷ 0x04 ∷ 0x30 ∷ 0x39 ∷ 0x05 ∷
    0x06 ∷ 0x05 ∷ 0x30 ∷ 0x39 ∷ 0x06 ∷
    0x05 ∷ 0x06 ∷ 0x2E ∷ 0x07 ∷
    0x06 ∷ 0x07 ∷ 0x30 ∷ 0x39 ∷ 0x08 ∷
    0x06 ∷ 0x08 ∷ 0x30 ∷ 0x39 ∷ 0x09 ∷
    0x05 ∷ 0x09 ∷ 0x5D ∷ 0x0A ∷
    0x07 ∷ []

-- a word: sentence 2
abbrev pub word_bytes : List ℕ
word_bytes =
    0x01 ∷ 0x00 ∷ 0x02 ∷ 0x00 ∷ 0x02 ∷ 0x00 ∷ 0x03 ∷ 0x02 ∷ 0x04 ∷ 0x01 ∷
    0x06 ∷ 0x00 ∷ 0x21 ∷ 0x5A ∷ 0x01 ∷
    0x05 ∷ 0x00 ∷ 0x5C ∷ 0x01 ∷
    0x06 ∷ 0x00 ∷ 0x5E ∷ 0x7E ∷ 0x01 ∷
    0x06 ∷ 0x00 ∷ 0x80 ∷ 0xFF ∷ 0x01 ∷
    0x06 ∷ 0x01 ∷ 0x21 ∷ 0x5A ∷ 0x01 ∷
    0x05 ∷ 0x01 ∷ 0x5C ∷ 0x01 ∷
    0x06 ∷ 0x01 ∷ 0x5E ∷ 0x7E ∷ 0x01 ∷
    0x06 ∷ 0x01 ∷ 0x80 ∷ 0xFF ∷ 0x01 ∷
    0x07 ∷ []

-- blanks and tabs: sentence 3
abbrev pub blanks_bytes : List ℕ
blanks_bytes =
    0x01 ∷ 0x00 ∷ 0x03 ∷ 0x01 ∷ 0x02 ∷ 0x00 ∷ 0x03 ∷ 0x02 ∷ 0x04 ∷ 0x01 ∷
    0x05 ∷ 0x00 ∷ 0x20 ∷ 0x01 ∷
    0x05 ∷ 0x00 ∷ 0x09 ∷ 0x01 ∷
    0x05 ∷ 0x01 ∷ 0x20 ∷ 0x01 ∷
    0x05 ∷ 0x01 ∷ 0x09 ∷ 0x01 ∷
    0x07 ∷ []

-- a newline: sentence 4
abbrev pub newline_bytes : List ℕ
newline_bytes =
    0x01 ∷ 0x00 ∷ 0x04 ∷ 0x01 ∷ 0x02 ∷ 0x00 ∷ 0x03 ∷ 0x02 ∷ 0x04 ∷ 0x01 ∷
    0x05 ∷ 0x00 ∷ 0x0A ∷ 0x01 ∷
    0x07 ∷ []

-- a bracket: sentence 5
abbrev pub bracket_bytes : List ℕ
bracket_bytes =
    0x01 ∷ 0x00 ∷ 0x05 ∷ 0x00 ∷ 0x02 ∷ 0x00 ∷ 0x03 ∷ 0x02 ∷ 0x04 ∷ 0x01 ∷
    0x05 ∷ 0x00 ∷ 0x5B ∷ 0x01 ∷
    0x05 ∷ 0x00 ∷ 0x5D ∷ 0x01 ∷
    0x07 ∷ []

-- the five rules in this order, and END
unfoldable pub builtin_bytes : List ℕ
builtin_bytes = timestamp_bytes ++ word_bytes ++ blanks_bytes ++ newline_bytes ++ bracket_bytes ++ (0x08 ∷ [])

-- ---- the rules; the last transition read stands first

abbrev pub span : ℕ → ℕ → ℕ → ℕ → Transition
span from low high to = record { from = from; low = low; high = high; to = to }

abbrev pub one : ℕ → ℕ → ℕ → Transition
one from byte to = span from byte byte to

unfoldable pub timestamp : Rule
timestamp =
    record {
      tag = 1;
      kind = 0;
      start = 0;
      error = 11;
      finals = 10 ∷ [];
      transitions =
          one 9 0x5D 10 ∷
          span 8 0x30 0x39 9 ∷
          span 7 0x30 0x39 8 ∷
          one 6 0x2E 7 ∷
          span 5 0x30 0x39 6 ∷
          span 4 0x30 0x39 5 ∷
          one 3 0x3A 4 ∷
          span 2 0x30 0x39 3 ∷
          span 1 0x30 0x39 2 ∷
          one 0 0x5B 1 ∷ [];
    }

unfoldable pub word : Rule
word =
    record {
      tag = 2;
      kind = 0;
      start = 0;
      error = 2;
      finals = 1 ∷ [];
      transitions =
          span 1 0x80 0xFF 1 ∷
          span 1 0x5E 0x7E 1 ∷
          one 1 0x5C 1 ∷
          span 1 0x21 0x5A 1 ∷
          span 0 0x80 0xFF 1 ∷
          span 0 0x5E 0x7E 1 ∷
          one 0 0x5C 1 ∷
          span 0 0x21 0x5A 1 ∷ [];
    }

unfoldable pub blanks : Rule
blanks =
    record {
      tag = 3;
      kind = 1;
      start = 0;
      error = 2;
      finals = 1 ∷ [];
      transitions =
          one 1 0x09 1 ∷
          one 1 0x20 1 ∷
          one 0 0x09 1 ∷
          one 0 0x20 1 ∷ [];
    }

unfoldable pub newline : Rule
newline =
    record {
      tag = 4;
      kind = 1;
      start = 0;
      error = 2;
      finals = 1 ∷ [];
      transitions =
          one 0 0x0A 1 ∷ [];
    }

unfoldable pub bracket : Rule
bracket =
    record {
      tag = 5;
      kind = 0;
      start = 0;
      error = 2;
      finals = 1 ∷ [];
      transitions =
          one 0 0x5D 1 ∷
          one 0 0x5B 1 ∷ [];
    }

unfoldable pub builtin_rules : List Rule
builtin_rules = timestamp ∷ word ∷ blanks ∷ newline ∷ bracket ∷ []
