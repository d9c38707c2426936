-- A list that is short has room in a small scratch.
use Rattle.std.proofs.Common.{arith, ℕ, ◌≡◌, length, replicate}
use Rattle.std.proofs.lemmas.List.{length-replicate}
use Rattle.separated.proofs.Rooms.{roomy_small}
use Rattle.book_separated.proofs.print_separated.Goals as goal

pub print_through-requires-clause-room : goal.print_through-requires-clause-room
print_through-requires-clause-room c =
    let s = c.is_short.ensures c.if-is_short.true in
    let n : length (replicate {A = ℕ} 2048 0) ≡ 2048 = length-replicate {A = ℕ} 2048 0 in
    roomy_small _ _ _ _ s.spanned (omega (arith, n, s.few)) (omega (arith, n))
