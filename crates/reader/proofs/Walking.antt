-- From one command to the next: what is read where a command stands, and that one stands wherever an accepted book is read on; and how
-- far the stricter reading goes with the ordinary one. Assumes nothing.
use Rattle.answer.specs.declared.Reason.{Reason}
use Rattle.answer.specs.declared.Reason.TheVariants.{BookTooLong, CutOff, Misplaced, Retired}
use Rattle.std.specs.Prelude.{Ok, Err}
use mathlib.Core.Path.{◌≡◌, refl}
use mathlib.Core.Bool.{Bool, true, false, ◌&&◌}
use mathlib.Core.List.{List, []}
use Prim.Native.Nat.{ℕ, zero, suc, ◌+◌, ◌<◌, ◌≤◌}
use native.Mathlib.Omega.{arith}
use lib.Dec.{leb, ltb, eqb}
use lib.ListN.{length}
use borrow.Author.Tests.{lt-ltb, le-leb, ltb-true, leb-true, eqb-true}
use Rattle.automaton.specs.Choice.{if}
use Rattle.automaton.specs.Rule.{Rule}
use Rattle.command.specs.declared.Decoded.{Decoded}
use Rattle.command.specs.Commands.{byte_at, placed, retired, operands_of, decode, command_at}
use Rattle.book.specs.Limits.{max_bytes}
use Rattle.book.specs.Draft.{Draft, between, Verdict, goes, accepts, refuses, apply}
use Rattle.reader.specs.Reading.{Reading, accepted, refused, go_on, take_in, read_from, read_by, read_book, read_strict}

-- a reading is not both
pub not_accepted : {A : Type 0} {reason : Reason} {place : ℕ} {rules : List Rule} → refused reason place ≡ accepted rules → A
not_accepted e = let z : ◌≡◌ {A = ℕ} 0 1 = cc in absurd (omega arith)

-- ---- a command

module _ (strict : Bool) (bytes : List ℕ) (at : ℕ) (d : Draft) where
  abbrev pub code : ℕ
  code = byte_at bytes at

  -- where the command behind this one stands
  abbrev pub next : ℕ
  next = at + 1 + operands_of code

  -- what reading comes to by the command at `at`, with n steps left behind it
  abbrev pub on_by : ℕ → Reading
  on_by n = go_on (apply d (decode bytes at code) at (length bytes)) (read_from strict n bytes next)

  -- it may stand there, this reading takes it, and its operands are there
  pub record Takes : Type 0 where
    pub more : at < length bytes
    pub stands : placed code d.inside ≡ true
    pub taken : retired strict code ≡ false
    pub within : next ≤ length bytes

  pub read_command : (n : ℕ) → Takes → read_from strict (suc n) bytes at d ≡ on_by n
  unfolding read_from command_at
  read_command n t = rw (lt-ltb _ _ t.more, t.stands, t.taken, le-leb _ _ t.within)

  -- a book that is accepted from here on has such a command here
  pub read_accepted : (n : ℕ) {rules : List Rule} → read_from strict (suc n) bytes at d ≡ accepted rules → Takes × (on_by n ≡ accepted rules)
  unfolding read_from command_at
  read_accepted n {rules} e =
      go (ltb at (length bytes)) refl (placed code d.inside) refl (retired strict code) refl (leb next (length bytes)) refl e
    where
      go : (m : Bool) → ltb at (length bytes) ≡ m → (p : Bool) → placed code d.inside ≡ p → (o : Bool) → retired strict code ≡ o
          → (l : Bool) → leb next (length bytes) ≡ l
          → if m (take_in (if p (if o (Err Retired) (if l (Ok (record { command = decode bytes at code; next = record { at = next } }))
          (Err CutOff))) (Err Misplaced)) d at (length bytes) (read_from strict n bytes)) (refused CutOff (length bytes)) ≡ accepted rules
          → Takes × (on_by n ≡ accepted rules)
      go true a true b false c true h z =
          (record { more = ltb-true at (length bytes) a; stands = b; taken = c; within = leb-true next (length bytes) h }, z)
      go true a true b false c false h z = not_accepted z
      go true a true b true c l h z = not_accepted z
      go true a false b o c l h z = not_accepted z
      go false a p b o c l h z = not_accepted z

-- ---- the stricter reading

-- it comes to the same, or refuses a STEP
pub data Stricter (bytes : List ℕ) (strictly ordinarily : Reading) : Type 0 where
  alike : strictly ≡ ordinarily → Stricter bytes strictly ordinarily
  retires : (place : ℕ) → place < length bytes → byte_at bytes place ≡ 5 → strictly ≡ refused Retired place
      → Stricter bytes strictly ordinarily

stricter_from : (n : ℕ) (bytes : List ℕ) (at : ℕ) (d : Draft) → Stricter bytes (read_from true n bytes at d) (read_from false n bytes at d)
unfolding read_from command_at retired
stricter_from zero bytes at d = alike refl
stricter_from (suc n) bytes at d =
    go (ltb at (length bytes)) refl (placed (byte_at bytes at) d.inside) (eqb (byte_at bytes at) 5) refl
    (leb (next false bytes at d) (length bytes)) (stricter_from n bytes (next false bytes at d))
  where
    After : Type 0
    After =
        (e : Draft) → Stricter bytes (read_from true n bytes (next false bytes at d) e) (read_from false n bytes (next false bytes at d) e)

    decided : (v : Verdict) → After
        → Stricter bytes (go_on v (read_from true n bytes (next false bytes at d))) (go_on v (read_from false n bytes (next false bytes at d)))
    decided (goes e) ih = ih e
    decided (accepts rules) ih = alike refl
    decided (refuses why place) ih = alike refl

    here : Decoded
    here = record { command = decode bytes at (byte_at bytes at); next = record { at = next false bytes at d } }

    taking : (strict m p o l : Bool) → Reading
    taking strict m p o l =
        if m (take_in (if p (if (strict && o) (Err Retired) (if l (Ok here) (Err CutOff))) (Err Misplaced)) d at (length bytes)
        (read_from strict n bytes)) (refused CutOff (length bytes))

    go : (m : Bool) → ltb at (length bytes) ≡ m → (p o : Bool) → eqb (byte_at bytes at) 5 ≡ o → (l : Bool) → After
        → Stricter bytes (taking true m p o l) (taking false m p o l)
    go true a true true b l ih = retires at (ltb-true at (length bytes) a) (eqb-true (byte_at bytes at) 5 b) refl
    go true a true false b true ih = decided (apply d (decode bytes at (byte_at bytes at)) at (length bytes)) ih
    go true a true false b false ih = alike refl
    go true a false o b l ih = alike refl
    go false a p o b l ih = alike refl

pub stricter : (bytes : List ℕ) → Stricter bytes (read_strict bytes) (read_book bytes)
unfolding read_by
stricter bytes = go (ltb max_bytes (length bytes))
  where
    go : (t : Bool) → Stricter bytes (if t (refused BookTooLong 0) (read_from true (length bytes) bytes 0 (between [])))
        (if t (refused BookTooLong 0) (read_from false (length bytes) bytes 0 (between [])))
    go true = alike refl
    go false = stricter_from (length bytes) bytes 0 (between [])
