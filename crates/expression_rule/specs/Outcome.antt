-- Making a rule of an expression (document 02, wish 9), as a function from what a call is lent to what it answers and leaves behind.
use Rattle.answer.specs.declared.Reason.TheVariants.{LargeExpression, NoExpression, OutOfRange, TooManySets}
use Rattle.std.specs.Prelude.{Bool, ◌||◌, List, [], ◌∷◌, ◌++◌, ℕ, zero, suc, eqb, ltb, length}
use Rattle.output.specs.Outcome.{PrintOutcome, print_refused, refused_if, written}
use Rattle.expression.specs.Expression.{Expression}
use Rattle.expression.specs.Reading.{Reading, right, wrong, read_expression}
use Rattle.positions.specs.Positions.{size, depth, nullable, takes_at, first, last, follows}
use Rattle.positions.specs.Numbers.{set_of}
use Rattle.subsets.specs.States.{states, are_too_many, rows_of, finals_of}
use Rattle.rule_commands.specs.Bytes.{table_bytes}

-- ---- limits

-- bytes of an expression
abbrev pub max_expression : ℕ
max_expression = 512

abbrev pub max_positions : ℕ
max_positions = 64

-- parentheses within each other
abbrev pub max_depth : ℕ
max_depth = 16

-- ---- the rule

-- f 0, f 1 and so on, n of them
unfoldable pub tabled : ℕ → (ℕ → ℕ) → List ℕ
tabled zero f = []
tabled (suc n) f = tabled n f ++ (f n ∷ [])

-- the positions that can match the first byte, those that can match the byte after that of each, and those that take each byte, as numbers
abbrev pub firsts_of : Expression → ℕ
firsts_of e = set_of (first e)

abbrev pub follow_of : Expression → List ℕ
follow_of e = tabled max_positions (λ p. set_of (follows e p))

abbrev pub takers_of : Expression → List ℕ
takers_of e = tabled 256 (λ b. set_of (takes_at e b))

-- more sets of positions are reached than a rule has numbers for
abbrev pub many_sets : Expression → Bool
many_sets e = are_too_many (firsts_of e) (follow_of e) (takers_of e)

-- the states that are final, and the table of where each leads
abbrev pub finals_for : Expression → List ℕ
finals_for e = finals_of (set_of (last e)) (nullable e) (states (firsts_of e) (follow_of e) (takers_of e))

abbrev pub rows_for : Expression → List (List ℕ)
rows_for e = rows_of (firsts_of e) (follow_of e) (takers_of e)

-- the commands of the rule
unfoldable pub compiled : ℕ → ℕ → Expression → List ℕ
compiled tag kind e = table_bytes tag kind (finals_for e) (rows_for e)

-- ---- the call

abbrev pub is_too_large : Expression → Bool
is_too_large e = ltb max_positions (size e) || ltb max_depth (depth e)

abbrev pub compile_right : ℕ → ℕ → Expression → List ℕ → PrintOutcome
compile_right tag kind e out = refused_if (is_too_large e) LargeExpression 0 out (refused_if (many_sets e) TooManySets 0 out (written (compiled tag kind e) out))

abbrev pub compile_reading : ℕ → ℕ → Reading → List ℕ → PrintOutcome
compile_reading tag kind (wrong place) out = print_refused NoExpression place out
compile_reading tag kind (right e) out = compile_right tag kind e out

-- 6, 31 by the text's length, 30, 31 by positions or depth, 32, 22
unfoldable pub compile_outcome : ℕ → ℕ → List ℕ → List ℕ → PrintOutcome
compile_outcome tag kind text out =
    refused_if (eqb tag 0 || ltb 1 kind) OutOfRange 0 out
    (refused_if (ltb max_expression (length text)) LargeExpression 0 out
    (compile_reading tag kind (read_expression text) out))
