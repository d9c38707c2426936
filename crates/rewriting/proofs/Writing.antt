-- What the loops and stores of rewriting leave. Assumes nothing.
use mathlib.Core.Path.{◌≡◌, ap, sym, ◌∙◌}
use mathlib.Core.List.{List, [], ◌∷◌, ◌++◌, append-nil, append_assoc, map, flatten}
use Prim.Native.Nat.{ℕ, zero, suc, ◌+◌, ◌-◌, ◌≤◌, ◌<◌}
use native.Mathlib.Nat.{zero-add}
use native.Mathlib.Numerals.{add-one, add-two, add-three, add-four}
use native.Mathlib.Omega.{arith}
use lib.Dec.{eqb}
use lib.ListN.{length, get_or, take, drop, set, length-take, length-drop, length-append, drop_of_length-le}
use lib.Seq.{paste, sets-eq, get_or-drop, get_or-take, take-take, take-length, take_all, drop-drop}
use borrow.Author.Tests.{ne_eqb}
use Rattle.command.specs.Commands.{byte_at, operands_of}
use Rattle.command.proofs.Commands.{if-le}
use Rattle.automaton.specs.Choice.{if, All}
use Rattle.output.proofs.Filling.{Filling, filling_start, filling_room, filling_next, filling_end}
use Rattle.rewriting.specs.Rewritten.{commands_in, span_of, modern, rewritten}
use Rattle.rewriting.specs.Layers.{Whole, Readable, Fitting}
use Rattle.rewriting.proofs.Pieces.{commands_none, width, commands_next, piece_first, piece_code, step-length, modern-length}

-- ---- a command

-- what is laid at the start of the part from `to` on is laid there in the whole
pub paste_part : (out : List ℕ) (to : ℕ) (bytes : List ℕ) (n : ℕ) → to ≤ length out
    → take to out ++ (paste (take (length out - to) (drop to out)) 0 bytes n ++ drop (length out - to) (drop to out)) ≡ paste out to bytes n
paste_part out to bytes n l =
    let a : take (length out - to) (drop to out) ≡ drop to out = take_all _ (drop to out) (simp length-drop (omega arith)) in
    let b : drop (length out - to) (drop to out) ≡ [] = drop_of_length-le (drop to out) (simp length-drop (omega arith)) in
    rw (a, b) (simp (append-nil, append_assoc, drop-drop, zero-add))

pub span-stored : (book : List ℕ) (at : ℕ) (out : List ℕ) (to : ℕ) → to + 5 ≤ length out
    → set (set (set (set (set out to 6) (to + 1) (get_or book (at + 1) 0)) (to + 2) (get_or book (at + 2) 0)) (to + 3) (get_or book (at + 2) 0))
    (to + 4) (get_or book (at + 3) 0)
    ≡ paste out to (span_of (drop at book)) 5
span-stored book at out to l =
    rw (← (get_or-drop at book 1 0), ← (get_or-drop at book 2 0), ← (get_or-drop at book 3 0), add-one, add-two, add-three, add-four)
    (sets-eq (span_of (drop at book)) out to l)

-- a whole command of `width` bytes stands at `at`
pub record Standing (book : List ℕ) (at width : ℕ) : Type 0 where
  pub within : at + width ≤ length book
  pub whole : Whole (take width (drop at book))

module _ {book : List ℕ} {at width : ℕ} (s : Standing book at width) where
  abbrev piece : List ℕ
  piece = take width (drop at book)

  pub standing_length : length piece ≡ width
  standing_length = omega (arith, length-take width (drop at book), length-drop at book, s.within)

  pub standing_some : 0 < width
  standing_some = omega (arith, standing_length, s.whole.operands)

  standing_code : byte_at piece 0 ≡ byte_at book at
  standing_code = piece_first book at width standing_some

  -- a STEP
  module _ (e : byte_at book at ≡ 5) where
    pub step-width : width ≡ 4
    step-width = sym standing_length ∙ step-length piece s.whole (standing_code ∙ e)

    pub step-modern : modern piece ≡ span_of (drop at book)
    step-modern =
        let w = step-width in
        rw (
          standing_code,
          e,
          get_or-take width (drop at book) 1 0 (omega arith),
          get_or-take width (drop at book) 2 0 (omega arith),
          get_or-take width (drop at book) 3 0 (omega arith),
        )

  -- another command
  pub other_modern : (byte_at book at ≡ 5 → ⊥) → modern piece ≡ piece
  other_modern n = rw (standing_code, ne_eqb (byte_at book at) 5 n)

  pub other_copied : (out : List ℕ) (to : ℕ) → paste out to (drop at book) width ≡ paste out to piece width
  other_copied out to = rw (take-take width width (drop at book) (omega arith))

-- ---- from command to command

-- the commands from `at` on are whole, and `steps` are enough for them
pub record Onward (book : List ℕ) (at steps : ℕ) : Type 0 where
  pub within : at ≤ length book
  pub enough : length book ≤ at + steps
  pub whole : All Whole (commands_in steps (drop at book))

-- their bytes, rewritten
abbrev pub rest : List ℕ → ℕ → ℕ → List ℕ
rest book at steps = flatten (map modern (commands_in steps (drop at book)))

pub onward_start : {book : List ℕ} → Readable book → Onward book 0 (length book)
onward_start r = record { within = omega arith; enough = omega arith; whole = r.whole }

pub onward_end : {book : List ℕ} {at steps : ℕ} → Onward book at steps → length book ≤ at → rest book at steps ≡ []
unfolding flatten
onward_end {book} {at} {steps} o l = rw (drop_of_length-le book l, commands_none steps)

-- one command, and the others
pub record Turn (book : List ℕ) (at steps : ℕ) : Type 0 where
  pub left : ℕ
  pub standing : Standing book at (width book at)
  pub onward : Onward book (at + width book at) left
  pub parts : rest book at steps ≡ modern (take (width book at) (drop at book)) ++ rest book (at + width book at) left

pub turn : {book : List ℕ} {at steps : ℕ} → Onward book at steps → at < length book → Turn book at steps
unfolding flatten
turn {steps = zero} o l = absurd (omega (arith, o.enough))
turn {book} {at} {steps = suc n} o l =
    let q = commands_next n book at l in
    let w : All Whole (take (width book at) (drop at book) ∷ commands_in n (drop (at + width book at) book)) = rw q at o.whole in
    let len : length (take (width book at) (drop at book)) ≡ 1 + operands_of (byte_at book at) =
    rw (piece_code book at) at w.0.operands in
    let fits : at + width book at ≤ length book =
    omega (arith, len, length-take (width book at) (drop at book), length-drop at book) in
    record {
      left = n;
      standing = record { within = fits; whole = w.0 };
      onward = record { within = fits; enough = omega (arith, o.enough); whole = w.1 };
      parts = rw q;
    }

module _ {book : List ℕ} {at steps : ℕ} (t : Turn book at steps) where
  abbrev pub turned : List ℕ
  turned = modern (take (width book at) (drop at book))

  turned-length : length turned ≡ width book at + if (eqb (byte_at book at) 5) 1 0
  turned-length =
      modern-length (take (width book at) (drop at book)) t.standing.whole
      ∙ rw (standing_length t.standing, standing_code t.standing)

-- ---- the first loop: how many bytes

pub record Measuring (book : List ℕ) (total at : ℕ) : Type 0 where
  pub steps : ℕ
  pub onward : Onward book at steps
  pub few : total ≤ length book + at
  pub same : length (rewritten book) + length book ≡ total + at + length (rest book at steps)

pub measuring_start : {book : List ℕ} → Readable book → Measuring book (length book) 0
unfolding rewritten
measuring_start {book} r = record { steps = length book; onward = onward_start r; few = omega arith; same = omega arith }

module _ {book : List ℕ} {total at : ℕ} (m : Measuring book total at) where
  pub measuring_next : at < length book → {grown : ℕ} → grown ≡ if (eqb (byte_at book at) 5) 1 0
      → Measuring book (total + grown) (at + width book at)
  measuring_next l e =
      let t = turn m.onward l in
      let one = if-le (eqb (byte_at book at) 5) {a = 1} {b = 0} {m = 1} (omega arith) (omega arith) in
      let len = ap length t.parts ∙ length-append (turned t) (rest book (at + width book at) t.left) in
      record {
        steps = t.left;
        onward = t.onward;
        few = omega (arith, m.few);
        same = omega (arith, m.same, turned-length t);
      }

  pub measuring_end : length book ≤ at → total ≡ length (rewritten book)
  measuring_end l = omega (arith, m.same, m.onward.within, ap length (onward_end m.onward l))

-- ---- the second loop: the bytes

pub record Writing (book entry out : List ℕ) (at to : ℕ) : Type 0 where
  pub steps : ℕ
  pub onward : Onward book at steps
  pub filling : Filling (rewritten book) (rest book at steps) entry out to

pub writing_start : {book out : List ℕ} → Fitting book out → Writing book out out 0 0
unfolding rewritten
writing_start {book} {out} f =
    record { steps = length book; onward = onward_start f.readable; filling = filling_start (rewritten book) out f.room }

module _ {book entry out : List ℕ} {at to : ℕ} (w : Writing book entry out at to) where
  module _ (l : at < length book) where
    abbrev here : Turn book at w.steps
    here = turn w.onward l

    pub writing-room : to + length (turned here) ≤ length out
    writing-room = filling_room w.filling (turned here) (rest book (at + width book at) here.left) here.parts

    pub writing_next : {n : ℕ} {next : List ℕ} → n ≡ length (turned here) → next ≡ paste out to (turned here) n
        → Writing book entry next (at + width book at) (to + n)
    writing_next q p =
        record {
          steps = here.left;
          onward = here.onward;
          filling =
              filling_next w.filling (turned here) (rest book (at + width book at) here.left) here.parts (turned here) q
              (rw q (take-length (turned here))) p;
        }

  pub writing-end : length book ≤ at → out ≡ rewritten book ++ drop (length (rewritten book)) entry
  writing-end l = filling_end w.filling (onward_end w.onward l)
