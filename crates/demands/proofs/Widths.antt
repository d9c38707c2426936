-- States of two bytes: what is asked of them is kept. Assumes nothing.
use mathlib.Core.Path.{◌≡◌}
use mathlib.Core.Bool.{true, ◌||◌}
use mathlib.Core.Logic.{◌⊎◌, inl, inr}
use Prim.Native.Nat.{◌<◌}
use native.Mathlib.Omega.{arith}
use lib.Dec.{ltb}
use borrow.Author.Tests.{le-leb, lt-leb, le-ltb}
use Rattle.automaton.proofs.Tests.{or_true}
use Rattle.command.specs.Commands.{decode}
use Rattle.book.specs.Draft.{check, no_state, move, apply}
use Rattle.demands.specs.Widths.{OneState, OneSpan, NoSuchState, NoSuchMove, EveryState, EveryMove}

pub one_state : OneState
unfolding decode
one_state short long at there e = record { start = rw e; error = rw e; final = rw e }

pub one_span : OneSpan
unfolding decode
one_span short long at there a b c d = rw (a, b, c, d)

pub no_such_state : NoSuchState
unfolding apply check
no_such_state d s at len l = let e = le-leb 4096 s (omega arith) in record { start = rw e; error = rw e; final = rw e }

pub no_such_move : NoSuchMove
unfolding apply move check
no_such_move d from low high to at len w = rw (outside w)
  where
    outside : (4095 < from) ⊎ (4095 < to) → ltb high low || (no_state from || no_state to) ≡ true
    outside (inl l) = rw (le-leb 4096 from (omega arith), or_true)
    outside (inr l) = rw (le-leb 4096 to (omega arith), or_true, or_true)

pub every_state : EveryState
unfolding apply check
every_state d s at len l = let e = lt-leb 4096 s (omega arith) in record { start = rw e; error = rw e; final = rw e }

pub every-move : EveryMove
unfolding apply move check
every-move d from low high to at len few order f t =
    rw (lt-leb _ _ few, le-ltb _ _ order, lt-leb 4096 from (omega arith), lt-leb 4096 to (omega arith))
