-- Answers that are those of `written`, and outcomes that are accepted. Assumes nothing.
use Rattle.answer.specs.declared.Reason.{Reason}
use Rattle.std.specs.Prelude.{Result, Ok, Err}
use Rattle.answer.specs.declared.Reason.TheVariants.{OutputTooShort}
use mathlib.Core.Path.{◌≡◌, refl, ◌∙◌}
use mathlib.Core.Bool.{Bool, true, false}
use mathlib.Core.Option.{Option, none, some}
use mathlib.Core.List.{List, ◌++◌}
use Prim.Native.Nat.{ℕ, ◌<◌, ◌≤◌}
use native.Mathlib.Nat.{zero-add}
use lib.Dec.{ltb}
use lib.ListN.{length, take, drop}
use borrow.Author.Tests.{lt-ltb, le-ltb, ltb-true, ltb-false}
use Rattle.answer.specs.declared.Refusal.{Refusal}
use Rattle.output.specs.Outcome.{PrintOutcome, print_refused, print_accepted, refused_if, unless, written, written_up_to}
use Rattle.output.specs.Layers.{PrintAnswered, WritesOut}

-- ---- what is written

module _ (bytes out : List ℕ) {total : ℕ} (e : total ≡ length bytes) where
  pub written_short : length out < total → {r : Result ℕ Refusal} → r ≡ Err (record { reason = OutputTooShort; place = total })
      → PrintAnswered (written bytes out) r out
  unfolding refused_if
  written_short l a = rw (← e, lt-ltb _ _ l) (record { answer = a; out = refl })

  pub written-whole : total ≤ length out → {exit : List ℕ} → exit ≡ bytes ++ drop total out
      → PrintAnswered (written bytes out) (Ok total) exit
  unfolding refused_if
  written-whole l p = rw (← e, le-ltb _ _ l) (record { answer = refl; out = p })

  -- the whole outcome
  pub written_lacks : length out < total → written bytes out ≡ print_refused OutputTooShort total out
  unfolding refused_if
  written_lacks l = rw (← e, lt-ltb _ _ l)

  pub written-fits : total ≤ length out → written bytes out ≡ print_accepted bytes out
  unfolding refused_if
  written-fits l = rw (← e, le-ltb _ _ l)

  -- what `write` leaves of the bytes that stand in a scratch from `at` on
  pub written_out : (scratch : List ℕ) (at : ℕ) → take total (drop at scratch) ≡ bytes → {r : Result ℕ Refusal} {exit : List ℕ}
      → WritesOut scratch at total out r exit → PrintAnswered (written bytes out) r exit
  written_out scratch at s {r} {exit} h = go (ltb (length out) total) refl
    where
      go : (t : Bool) → ltb (length out) total ≡ t → PrintAnswered (written bytes out) r exit
      go true l = let g = h.lacks (ltb-true _ _ l) in rw g.1 (written_short (ltb-true _ _ l) g.0)
      go false l =
          let g = h.prints (ltb-false _ _ l) in
          rw g.0 (written-whole (ltb-false _ _ l) (g.1 ∙ rw (s, zero-add)))

-- ---- an accepted outcome passes each check

pub check_printed : (t : Bool) (reason : Reason) (place : ℕ) (out : List ℕ) (next : PrintOutcome) (n : ℕ)
    → (refused_if t reason place out next).answer ≡ Ok n
    → (t ≡ false) × (next.answer ≡ Ok n)
unfolding refused_if
check_printed true why place out next n e = cc
check_printed false why place out next n e = (refl, e)

pub unless_printed : (o : Option Refusal) (out : List ℕ) (next : PrintOutcome) (n : ℕ) → (unless o out next).answer ≡ Ok n
    → (o ≡ none) × (next.answer ≡ Ok n)
unfolding unless
unless_printed (some f) out next n e = cc
unless_printed none out next n e = (refl, e)

-- ---- up to a limit

module _ (most : ℕ) (reason : Reason) (bytes out : List ℕ) where
  pub up_to_long : most < length bytes → {r : Result ℕ Refusal} → r ≡ Err (record { reason = reason; place = 0 })
      → PrintAnswered (written_up_to most reason bytes out) r out
  unfolding written_up_to refused_if
  up_to_long l a = rw (lt-ltb _ _ l) (record { answer = a; out = refl })

  pub up_to_fitting : length bytes ≤ most → {r : Result ℕ Refusal} {exit : List ℕ} → PrintAnswered (written bytes out) r exit
      → PrintAnswered (written_up_to most reason bytes out) r exit
  unfolding written_up_to refused_if
  up_to_fitting l a = rw (le-ltb _ _ l) a

  -- what is accepted, and nothing else
  pub up_to_accepts : length bytes ≤ most → length bytes ≤ length out → written_up_to most reason bytes out ≡ print_accepted bytes out
  unfolding written_up_to refused_if
  up_to_accepts l m = rw (le-ltb _ _ l, le-ltb _ _ m)

  pub up_to_printed : {n : ℕ} → (written_up_to most reason bytes out).answer ≡ Ok n
      → (length bytes ≤ most) × (length bytes ≤ length out)
  unfolding written_up_to
  up_to_printed {n} e =
      let a = check_printed (ltb most (length bytes)) reason 0 out _ n e in
      let b = check_printed (ltb (length out) (length bytes)) OutputTooShort (length bytes) out _ n a.1 in
      (ltb-false _ _ a.0, ltb-false _ _ b.0)
