-- The numbers by which each operation refuses (document 01, 'What each operation refuses'; document 02).
use Rattle.answer.specs.Refusals.{number_of}
use Rattle.std.specs.Prelude.{◌≡◌, true, List, [], ◌∷◌, ◌++◌, ℕ, ◌≤◌}
use Rattle.answer.specs.declared.Refusal.{Refusal}
use Rattle.automaton.specs.Choice.{among}

-- reading a book
abbrev pub book_numbers : List ℕ
book_numbers = 1 ∷ 2 ∷ 3 ∷ 4 ∷ 5 ∷ 6 ∷ 7 ∷ 8 ∷ 9 ∷ 10 ∷ 11 ∷ 12 ∷ 13 ∷ []

-- reading it strictly (document 02, wish 10)
abbrev pub strict_numbers : List ℕ
strict_numbers = book_numbers ++ (33 ∷ [])

-- rewriting it (the same): 1 also for the longer book
abbrev pub rewrite_numbers : List ℕ
rewrite_numbers = book_numbers ++ (22 ∷ [])

-- making a rule of an expression (document 02, wish 9), in the order in which they are asked
abbrev pub compile_numbers : List ℕ
compile_numbers = 6 ∷ 31 ∷ 30 ∷ 32 ∷ 22 ∷ []

-- asking for one rule, which that page does not have: 18 past the last
abbrev pub rule_numbers : List ℕ
rule_numbers = book_numbers ++ (18 ∷ [])

-- cutting
abbrev pub lex_numbers : List ℕ
lex_numbers = book_numbers ++ (14 ∷ 15 ∷ [])

-- cutting in turns (document 02, wish 1)
abbrev pub turn_numbers : List ℕ
turn_numbers = book_numbers ++ (14 ∷ 27 ∷ 15 ∷ [])

-- plain writing
abbrev pub print_numbers : List ℕ
print_numbers = book_numbers ++ (16 ∷ 17 ∷ 18 ∷ 19 ∷ 20 ∷ 21 ∷ 22 ∷ [])

-- spacing
abbrev pub separated_numbers : List ℕ
separated_numbers = book_numbers ++ (23 ∷ 24 ∷ 17 ∷ 18 ∷ 19 ∷ 25 ∷ 16 ∷ 26 ∷ 20 ∷ 22 ∷ [])

-- a refusal by one of these numbers, at a place of at most `most`
pub record Refused (numbers : List ℕ) (most : ℕ) (f : Refusal) : Type 0 where
  pub number_among : among (number_of f.reason) numbers ≡ true
  pub place-within : f.place ≤ most
