-- Document 02, wish 13: states of two bytes. What is said of cuts and printers is said of every rule that a book may hold; here stands
-- which states those have.
use Rattle.answer.specs.declared.Reason.TheVariants.{OutOfRange, TooMany, TwiceOrMissing}
use Rattle.std.specs.Prelude.{◌≡◌, ◌⊎◌, List, ℕ, ◌+◌, ◌<◌, ◌≤◌, leb, length}
use Rattle.big_endian.specs.Numbers.{two_at}
use Rattle.command.specs.Commands.{byte_at, decode}
use Rattle.book.specs.Draft.{Draft, is_set, goes, refuses, check, with_start, with_error, with_final, with_transition, apply}
use Rattle.command.specs.declared.Command.TheVariants as command

-- ---- a state in one byte and in two

-- START, ERROR and FINAL that name one state, whichever of the two forms each has, are one command,
pub record StatesAlike (short long : List ℕ) (at there : ℕ) : Type 0 where
  pub start : decode long there 9 ≡ decode short at 2
  pub error : decode long there 10 ≡ decode short at 3
  pub final : decode long there 11 ≡ decode short at 4

abbrev pub OneState : Type 0
OneState = (short long : List ℕ) (at there : ℕ) → byte_at short (at + 1) ≡ two_at long (there + 1) → StatesAlike short long at there

-- and so are two SPANs with the same states and bytes
abbrev pub OneSpan : Type 0
OneSpan =
    (short long : List ℕ) (at there : ℕ) → byte_at short (at + 1) ≡ two_at long (there + 1) → byte_at short (at + 2) ≡ byte_at long (there + 3)
    → byte_at short (at + 3) ≡ byte_at long (there + 4) → byte_at short (at + 4) ≡ two_at long (there + 5)
    → decode long there 12 ≡ decode short at 6

-- ---- which states there are

-- A state above 4,095 is refused by 6: before 8, and of a move after 5.
pub record RefusedState (d : Draft) (s at len : ℕ) : Type 0 where
  pub start : apply d (command.Start s) at len ≡ refuses OutOfRange at
  pub error : apply d (command.Error s) at len ≡ refuses OutOfRange at
  pub final : apply d (command.Final s) at len ≡ refuses OutOfRange at

abbrev pub NoSuchState : Type 0
NoSuchState = (d : Draft) (s at len : ℕ) → 4095 < s → RefusedState d s at len

abbrev pub NoSuchMove : Type 0
NoSuchMove =
    (d : Draft) (from low high to at len : ℕ) → (4095 < from) ⊎ (4095 < to)
    → apply d (command.Span from low high to) at len ≡ check (leb 4096 (length d.transitions)) TooMany at (refuses OutOfRange at)

-- One up to 4,095 is taken, a second START or ERROR apart.
pub record TakenState (d : Draft) (s at len : ℕ) : Type 0 where
  pub start : apply d (command.Start s) at len ≡ check (is_set d.start) TwiceOrMissing at (goes (with_start d s))
  pub error : apply d (command.Error s) at len ≡ check (is_set d.error) TwiceOrMissing at (goes (with_error d s))
  pub final : apply d (command.Final s) at len ≡ goes (with_final d s)

abbrev pub EveryState : Type 0
EveryState = (d : Draft) (s at len : ℕ) → s ≤ 4095 → TakenState d s at len

-- So is a move between two such states, low not above high, where the rule has fewer than 4,096.
abbrev pub EveryMove : Type 0
EveryMove =
    (d : Draft) (from low high to at len : ℕ) → length d.transitions < 4096 → low ≤ high → from ≤ 4095 → to ≤ 4095
    → apply d (command.Span from low high to) at len
    ≡ goes (with_transition d (record { from = from; low = low; high = high; to = to }))
