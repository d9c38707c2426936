-- Writing one text behind another, and numbers in decimal. Assumes nothing.
use mathlib.Core.Path.{◌≡◌, refl, sym, ◌∙◌, ap}
use mathlib.Core.Bool.{Bool, true, false}
use mathlib.Core.List.{List, [], ◌∷◌, ◌++◌, append_assoc, append-nil}
use Prim.Native.Nat.{ℕ, zero, suc, ◌+◌, ◌*◌, ◌/◌, ◌%◌, ◌^◌, ◌<◌, ◌≤◌}
use native.Mathlib.Omega.{arith}
use native.Mathlib.Nat.{pow-suc}
use native.Mathlib.Numerals.{add-one}
use lib.Dec.{ltb}
use lib.ListN.{length, take, drop, set, length-append, take-append-drop}
use lib.Seq.{paste, take-length, length-take-le, take_at, drop_at, drop-drop, set_split, append_snoc}
use borrow.Author.Tests.{lt-ltb, le-ltb, ltb-true, ltb-false}
use Rattle.automaton.specs.Choice.{if}
use Rattle.listing.specs.Decimal.{decimal_for, decimal}
use Rattle.listing.specs.Layers.{Room, Puts}

-- ---- writing

pub puts_nothing : (entry : List ℕ) (at : ℕ) → Puts entry at [] at entry
puts_nothing entry at =
    record { behind = omega arith; written = rw append-nil (let z : at + 0 ≡ at = omega arith in rw z (sym (take-append-drop at entry))) }

pub puts-byte : (entry : List ℕ) (at byte : ℕ) → Room at (byte ∷ []) entry → Puts entry at (byte ∷ []) (at + 1) (set entry at byte)
puts-byte entry at byte l =
    record { behind = refl; written = rw (set_split entry at byte (omega (arith, l.room)), append_snoc, add-one) }

pub puts_copied : (entry : List ℕ) (at : ℕ) (text : List ℕ) {exit : List ℕ} → exit ≡ paste entry at text (length text)
    → Puts entry at text (at + length text) exit
puts_copied entry at text e = record { behind = refl; written = e ∙ rw (take-length text) }

module _ {entry middle exit xs ys : List ℕ} {at m end : ℕ}
    (p : Puts entry at xs m middle) (q : Puts middle m ys end exit) (r : Room at xs entry) where
  head_length : length (take at entry ++ xs) ≡ at + length xs
  head_length =
      let l : length (take at entry) ≡ at = length-take-le at entry (omega (arith, r.room)) in
      length-append (take at entry) xs ∙ ap (λ (n : ℕ). n + length xs) l

  ahead : take m middle ≡ take at entry ++ xs
  ahead = rw (p.written, p.behind) (take_at (take at entry ++ xs) (drop (at + length xs) entry) (at + length xs) head_length)

  beyond : drop m middle ≡ drop (at + length xs) entry
  beyond = rw (p.written, p.behind) (drop_at (take at entry ++ xs) (drop (at + length xs) entry) (at + length xs) head_length)

  total : at + length xs + length ys ≡ at + length (xs ++ ys)
  total = omega (arith, length-append xs ys)

  rest : drop (m + length ys) middle ≡ drop (at + length (xs ++ ys)) entry
  rest =
      sym (drop-drop (length ys) m middle) ∙ ap (drop (length ys)) beyond ∙ drop-drop (length ys) (at + length xs) entry
      ∙ ap (λ (n : ℕ). drop n entry) total

  -- ys behind xs
  pub puts_then : Puts entry at (xs ++ ys) end exit
  puts_then = record {
    behind = q.behind ∙ ap (λ (n : ℕ). n + length ys) p.behind ∙ total;
    written =
        q.written ∙ ap (λ (l : List ℕ). l ++ ys ++ drop (m + length ys) middle) ahead
        ∙ ap (λ (l : List ℕ). take at entry ++ xs ++ ys ++ l) rest
        ∙ ap (λ (l : List ℕ). l ++ drop (at + length (xs ++ ys)) entry) (append_assoc (take at entry) xs ys);
  }

-- room for both is room for each
pub room-first : {at : ℕ} {xs out : List ℕ} (ys : List ℕ) → Room at (xs ++ ys) out → Room at xs out
room-first {at} {xs} {out} ys r = record { room = omega (arith, length-append xs ys, r.room) }

pub room_second : {entry middle xs ys : List ℕ} {at m : ℕ} → Puts entry at xs m middle → length middle ≡ length entry
    → Room at (xs ++ ys) entry
    → Room m ys middle
room_second {entry} {middle} {xs} {ys} p e r = record { room = omega (arith, length-append xs ys, p.behind, r.room) }

-- ---- numbers

decimal_fuel : (f g n : ℕ) → n < f → n < g → decimal_for f n ≡ decimal_for g n
unfolding decimal_for
decimal_fuel zero g n p q = absurd (omega arith)
decimal_fuel (suc f) zero n p q = absurd (omega arith)
decimal_fuel (suc f) (suc g) n p q = go (ltb n 10) refl (decimal_fuel f g (n / 10))
  where
    go : (t : Bool) → ltb n 10 ≡ t → (n / 10 < f → n / 10 < g → decimal_for f (n / 10) ≡ decimal_for g (n / 10))
        → if t ((48 + n) ∷ []) (decimal_for f (n / 10) ++ ((48 + n % 10) ∷ []))
        ≡ if t ((48 + n) ∷ []) (decimal_for g (n / 10) ++ ((48 + n % 10) ∷ []))
    go true e h = refl
    go false e h = let l : 10 ≤ n = ltb-false n 10 e in rw (h (omega arith) (omega arith))

pub decimal_digit : (n : ℕ) → n < 10 → decimal n ≡ (48 + n) ∷ []
unfolding decimal decimal_for
decimal_digit n l = rw (lt-ltb n 10 l)

pub decimal_more : (n : ℕ) → 10 ≤ n → decimal n ≡ decimal (n / 10) ++ ((48 + n % 10) ∷ [])
unfolding decimal decimal_for
decimal_more n l =
    let e = decimal_fuel n (suc (n / 10)) (n / 10) (omega arith) (omega arith) in
    rw (le-ltb n 10 l) (ap (λ (ds : List ℕ). ds ++ ((48 + n % 10) ∷ [])) e)

-- one digit, and one more digit
module _ {at : ℕ} {entry : List ℕ} {n : ℕ} (l : n < 10) where
  pub room-digit : Room at (decimal n) entry → Room at ((48 + n) ∷ []) entry
  room-digit r = rw (decimal_digit n l) at r

  pub puts-digit : {end : ℕ} {exit : List ℕ} → Puts entry at ((48 + n) ∷ []) end exit → Puts entry at (decimal n) end exit
  puts-digit p = rw (decimal_digit n l) p

module _ {at : ℕ} {entry : List ℕ} {n : ℕ} (l : 10 ≤ n) (r : Room at (decimal n) entry) where
  room_both : Room at (decimal (n / 10) ++ ((48 + n % 10) ∷ [])) entry
  room_both = rw (decimal_more n l) at r

  pub room_tenth : Room at (decimal (n / 10)) entry
  room_tenth = room-first _ room_both

  module _ {m : ℕ} {middle : List ℕ} (p : Puts entry at (decimal (n / 10)) m middle) where
    pub room-last : length middle ≡ length entry → Room m ((48 + n % 10) ∷ []) middle
    room-last e = room_second p e room_both

    pub puts-last : {end : ℕ} {exit : List ℕ} → Puts middle m ((48 + n % 10) ∷ []) end exit → Puts entry at (decimal n) end exit
    puts-last q = rw (decimal_more n l) (puts_then p q room_tenth)

pub length-digit : (n : ℕ) → n < 10 → length (decimal n) ≡ 1
length-digit n l = ap length (decimal_digit n l)

pub length_more : (n : ℕ) → 10 ≤ n → length (decimal n) ≡ length (decimal (n / 10)) + 1
length_more n l = ap length (decimal_more n l) ∙ length-append (decimal (n / 10)) ((48 + n % 10) ∷ [])

-- one digit more holds ten times as much
length_below : (b k n : ℕ) → 0 < k → ((m : ℕ) → m < b → length (decimal m) ≤ k) → n < b * 10 → length (decimal n) ≤ k + 1
length_below b k n p h l = go (ltb n 10) refl
  where
    go : (t : Bool) → ltb n 10 ≡ t → length (decimal n) ≤ k + 1
    go true e = let q : n < 10 = ltb-true n 10 e in omega (arith, length-digit n q)
    go false e = let q : 10 ≤ n = ltb-false n 10 e in omega (arith, length_more n q, h (n / 10) (omega arith))

pub digits : (k n : ℕ) → n < 10 ^ suc k → length (decimal n) ≤ suc k
digits zero n l = omega (arith, length-digit n l)
digits (suc k) n l = omega (arith, length_below (10 ^ suc k) (suc k) n (omega arith) (digits k) (rw (pow-suc 10 (suc k)) at l))
