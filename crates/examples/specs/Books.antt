-- The books of document 01's examples, as command bytes. State 9 is the error state of every rule.
use Rattle.std.specs.Prelude.{List, [], ◌∷◌, ◌++◌, ℕ}

-- RULE of a tag below 256, with START 0 and ERROR 9, the commands between, and CLOSE
abbrev rule : ℕ → ℕ → List ℕ → List ℕ
rule tag kind commands = (1 ∷ 0 ∷ tag ∷ kind ∷ 2 ∷ 0 ∷ 3 ∷ 9 ∷ []) ++ commands ++ (7 ∷ [])

abbrev final : ℕ → List ℕ
final s = 4 ∷ s ∷ []

abbrev move : ℕ → ℕ → ℕ → List ℕ
move from byte to = 5 ∷ from ∷ byte ∷ to ∷ []

abbrev span : ℕ → ℕ → ℕ → ℕ → List ℕ
span from low high to = 6 ∷ from ∷ low ∷ high ∷ to ∷ []

abbrev end : List ℕ
end = 8 ∷ []

-- Book A: rule 1 has the texts a and abc, rule 2 b, rule 3 c; rule 4 is a separator, blanks.
abbrev pub book_a : List ℕ
book_a =
    rule 1 0 (final 1 ++ final 3 ++ move 0 97 1 ++ move 1 98 2 ++ move 2 99 3)
    ++ rule 2 0 (final 1 ++ move 0 98 1)
    ++ rule 3 0 (final 1 ++ move 0 99 1)
    ++ rule 4 1 (final 1 ++ move 0 32 1 ++ move 1 32 1)
    ++ end

-- Book B: rule 1 has the texts a and ab, rule 2 bc.
abbrev pub book_b : List ℕ
book_b =
    rule 1 0 (final 1 ++ final 2 ++ move 0 97 1 ++ move 1 98 2)
    ++ rule 2 0 (final 2 ++ move 0 98 1 ++ move 1 99 2)
    ++ end

-- Book C: rule 1 has the text if, rule 2 every run of small letters.
abbrev pub book_c : List ℕ
book_c =
    rule 1 0 (final 2 ++ move 0 105 1 ++ move 1 102 2)
    ++ rule 2 0 (final 1 ++ span 0 97 122 1 ++ span 1 97 122 1)
    ++ end
