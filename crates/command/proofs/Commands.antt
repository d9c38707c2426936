-- Laws of the commands. Assumes nothing.
use mathlib.Core.Bool.{Bool, true, false, ◌||◌}
use Prim.Native.Nat.{ℕ, ◌≤◌}
use native.Mathlib.Omega.{arith}
use lib.Dec.{eqb}
use Rattle.automaton.specs.Choice.{if}
use Rattle.command.specs.Commands.{operands_of}

pub if-le : (c : Bool) {a b m : ℕ} → a ≤ m → b ≤ m → if c a b ≤ m
if-le true p q = p
if-le false p q = q

pub operands_le : (code : ℕ) → operands_of code ≤ 6
unfolding operands_of
operands_le code =
    if-le (eqb code 1) (omega arith)
    (if-le (eqb code 2 || (eqb code 3 || eqb code 4)) (omega arith)
    (if-le (eqb code 5) (omega arith)
    (if-le (eqb code 6) (omega arith)
    (if-le (eqb code 9 || (eqb code 10 || eqb code 11)) (omega arith) (if-le (eqb code 12) (omega arith) (omega arith))))))
