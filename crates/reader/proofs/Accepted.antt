-- Every accepted book is valid. Assumes nothing.
use Rattle.answer.specs.declared.Reason.{Reason}
use Rattle.answer.specs.declared.Reason.TheVariants.{BookTooLong, CutOff, Misplaced, Retired}
use Rattle.std.specs.Prelude.{Result, Ok, Err}
use mathlib.Core.Path.{◌≡◌, refl, sym, subst}
use mathlib.Core.Bool.{Bool, true, false, not, ◌&&◌}
use mathlib.Core.List.{List, []}
use Prim.Native.Nat.{ℕ, zero, suc, ◌+◌, ◌*◌, ◌<◌, ◌≤◌}
use native.Mathlib.Omega.{arith}
use lib.Dec.{leb, ltb, eqb}
use lib.ListN.{length}
use borrow.Author.Tests.{leb-true, eqb-true, eqb-false, ne_eqb}
use Rattle.automaton.specs.Choice.{if}
use Rattle.automaton.specs.Rule.{Rule}
use Rattle.automaton.proofs.Tests.{clash}
use Rattle.command.specs.declared.Command.{Command}
use Rattle.command.specs.declared.Decoded.{Decoded}
use Rattle.big_endian.specs.Numbers.{two_at}
use Rattle.command.specs.Commands.{byte_at, decode, retired, command_at, placed, operands_of}
use Rattle.book.specs.Limits.{max_bytes}
use Rattle.book.specs.Draft.{Draft, between, Verdict, goes, accepts, refuses, apply}
use Rattle.book.specs.Valid.{Valid}
use Rattle.book.specs.Layers.{Fine, stands_inside, adds}
use Rattle.book.proofs.Fine.{InRange, Good, fine_start, apply_good}
use Rattle.reader.specs.Reading.{Reading, accepted, refused, go_on, take_in, read_from, read_by, read_book}

-- where a command is found, it is one for its place, its operands are bytes, and the cursor moves on within the book
pub record Commanded (bytes : List ℕ) (at : ℕ) (inside : Bool) (c : Command) (next : ℕ) : Type 0 where
  pub stands : stands_inside c ≡ inside
  pub ranged : InRange c
  pub further : at < next
  pub wide : at + 4 * adds c ≤ next
  pub within : next ≤ length bytes

abbrev pub Found : List ℕ → ℕ → Bool → Result Decoded Reason → Type 0
Found bytes at inside (Ok read) = Commanded bytes at inside read.command read.next.at
Found bytes at inside (Err why) = Unit {0}

up : {k n : ℕ} → k ≤ n → (n ≡ k → ⊥) → suc k ≤ n
up l ne = omega arith

past : {k n : ℕ} → suc k ≤ n → n ≤ k → ⊥
past a b = omega arith

-- a code from 1 to 12, or another
module _ (P : ℕ → Type 0) (code : ℕ) where
  at_code : (k : ℕ) (t : Bool) → eqb code k ≡ t → P k → ((code ≡ k → ⊥) → P code) → P code
  at_code k true e p other = subst P (sym (eqb-true code k e)) p
  at_code k false e p other = other (eqb-false code k e)

  pub by_code : P 1 → P 2 → P 3 → P 4 → P 5 → P 6 → P 7 → P 8 → P 9 → P 10 → P 11 → P 12 → ((1 ≤ code → code ≤ 12 → ⊥) → P code)
      → P code
  by_code p1 p2 p3 p4 p5 p6 p7 p8 p9 p10 p11 p12 other =
      at_code 1 (eqb code 1) refl p1 (λ n1. at_code 2 (eqb code 2) refl p2 (λ n2. at_code 3 (eqb code 3) refl p3 (λ n3.
      at_code 4 (eqb code 4) refl p4 (λ n4. at_code 5 (eqb code 5) refl p5 (λ n5. at_code 6 (eqb code 6) refl p6 (λ n6.
      at_code 7 (eqb code 7) refl p7 (λ n7. at_code 8 (eqb code 8) refl p8 (λ n8. at_code 9 (eqb code 9) refl p9 (λ n9.
      at_code 10 (eqb code 10) refl p10 (λ n10. at_code 11 (eqb code 11) refl p11 (λ n11. at_code 12 (eqb code 12) refl p12 (λ n12.
      other (λ l h. past (up (up (up (up (up (up (up (up (up (up (up (up l n1) n2) n3) n4) n5) n6) n7) n8) n9) n10) n11) n12) h)))))))))))))

pub not_placed : (code : ℕ) (inside : Bool) → (1 ≤ code → code ≤ 12 → ⊥) → placed code inside ≡ false
unfolding placed
not_placed code inside out =
    rw (ne_eqb code 1 (λ e. out (omega arith) (omega arith)), ne_eqb code 8 (λ e. out (omega arith) (omega arith)))
    (go (leb 2 code) refl (leb code 12) refl)
  where
    go : (a : Bool) → leb 2 code ≡ a → (b : Bool) → leb code 12 ≡ b → if (a && b) inside false ≡ false
    go true e true f = let l : 2 ≤ code = leb-true _ _ e in let h : code ≤ 12 = leb-true _ _ f in absurd (out (omega arith) (omega arith))
    go true e false f = refl
    go false e b f = refl

closed-place : (inside : Bool) → not inside ≡ true → false ≡ inside
closed-place true e = clash e refl
closed-place false e = refl

module _ (bytes : List ℕ) (at : ℕ) (inside : Bool) (byte : (i : ℕ) → byte_at bytes i < 256) where
  pair_below : (i : ℕ) → two_at bytes i < 65536
  pair_below i = omega (arith, byte i, byte (i + 1))

  -- where a command of this code may stand and its operands are there, it is found
  abbrev Decodes : ℕ → Type 0
  Decodes code = placed code inside ≡ true → at + 1 + operands_of code ≤ length bytes
      → Commanded bytes at inside (decode bytes at code) (at + 1 + operands_of code)

  decoded_found : (code : ℕ) → Decodes code
  unfolding placed operands_of decode
  decoded_found code =
      by_code Decodes code
      (λ e. found _ (closed-place inside e) (pair_below (at + 1)) (omega arith) (omega arith))
      (λ e. found _ (sym e) tt (omega arith) (omega arith))
      (λ e. found _ (sym e) tt (omega arith) (omega arith))
      (λ e. found _ (sym e) tt (omega arith) (omega arith))
      (λ e. found _ (sym e) (byte (at + 2)) (omega arith) (omega arith))
      (λ e. found _ (sym e) (byte (at + 3)) (omega arith) (omega arith))
      (λ e. found _ (sym e) tt (omega arith) (omega arith))
      (λ e. found _ (closed-place inside e) tt (omega arith) (omega arith))
      (λ e. found _ (sym e) tt (omega arith) (omega arith))
      (λ e. found _ (sym e) tt (omega arith) (omega arith))
      (λ e. found _ (sym e) tt (omega arith) (omega arith))
      (λ e. found _ (sym e) (byte (at + 4)) (omega arith) (omega arith))
      (λ out e. clash e (not_placed code inside out))
    where
      found : (c : Command) {next : ℕ} → stands_inside c ≡ inside → InRange c → at < next → at + 4 * adds c ≤ next → next ≤ length bytes
          → Commanded bytes at inside c next
      found c s r f w l = record { stands = s; ranged = r; further = f; wide = w; within = l }

  pub command_found : (strict : Bool) → Found bytes at inside (command_at strict bytes at inside)
  unfolding command_at
  command_found strict =
      go (byte_at bytes at) (placed (byte_at bytes at) inside) refl (retired strict (byte_at bytes at))
      (leb (at + 1 + operands_of (byte_at bytes at)) (length bytes)) refl
    where
      go : (code : ℕ) (p : Bool) → placed code inside ≡ p → (o l : Bool) → leb (at + 1 + operands_of code) (length bytes) ≡ l
          → Found bytes at inside
          (if p (if o (Err Retired)
          (if l (Ok (record { command = decode bytes at code; next = record { at = at + 1 + operands_of code } })) (Err CutOff))) (Err Misplaced))
      go code true e true l h = tt
      go code true e false true h = decoded_found code e (leb-true _ _ h)
      go code true e false false h = tt
      go code false e o l h = tt

abbrev GoodReading : Reading → Type 0
GoodReading (accepted rules) = Valid rules
GoodReading (refused why place) = Unit {0}

read_good : (n : ℕ) (bytes : List ℕ) (at : ℕ) (d : Draft) → ((i : ℕ) → byte_at bytes i < 256) → Fine d
    → GoodReading (read_from false n bytes at d)
unfolding read_from
read_good zero bytes at d byte f = tt
read_good (suc n) bytes at d byte f =
    go (ltb at (length bytes)) (command_at false bytes at d.inside) (command_found bytes at d.inside byte false)
    (λ m e g. read_good n bytes m e byte g)
  where
    verdict : (v : Verdict) (m : ℕ) → ((e : Draft) → Fine e → GoodReading (read_from false n bytes m e)) → Good v
        → GoodReading (go_on v (read_from false n bytes m))
    verdict (goes e) m ih g = ih e g
    verdict (accepts rules) m ih g = g
    verdict (refuses why place) m ih g = tt

    taken : (c : Result Decoded Reason) → Found bytes at d.inside c → ((m : ℕ) (e : Draft) → Fine e → GoodReading (read_from false n bytes m e))
        → GoodReading (take_in c d at (length bytes) (read_from false n bytes))
    taken (Err why) h ih = tt
    taken (Ok read) h ih =
        verdict (apply d read.command at (length bytes)) read.next.at (ih read.next.at)
        (apply_good d read.command at (length bytes) f h.ranged h.stands)

    go : (t : Bool) (c : Result Decoded Reason) → Found bytes at d.inside c → ((m : ℕ) (e : Draft) → Fine e → GoodReading (read_from false n bytes m e))
        → GoodReading (if t (take_in c d at (length bytes) (read_from false n bytes)) (refused CutOff (length bytes)))
    go true c h ih = taken c h ih
    go false c h ih = tt

-- Every accepted book is valid.
pub accepted_valid : (bytes : List ℕ) (rules : List Rule) → ((i : ℕ) → byte_at bytes i < 256)
    → read_book bytes ≡ accepted rules → Valid rules
unfolding read_by
accepted_valid bytes rules byte e = subst GoodReading e (go (ltb max_bytes (length bytes)))
  where
    go : (t : Bool) → GoodReading (if t (refused BookTooLong 0) (read_from false (length bytes) bytes 0 (between [])))
    go true = tt
    go false = read_good (length bytes) bytes 0 (between []) byte fine_start
