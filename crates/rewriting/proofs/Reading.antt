-- The rewritten book is read as the old one, command by command. Assumes nothing.
use Rattle.answer.specs.declared.Reason.TheVariants.{BookTooLong}
use mathlib.Core.Path.{◌≡◌, refl, sym, ap, subst, ◌∙◌}
use mathlib.Core.Bool.{Bool, true, false}
use mathlib.Core.List.{List, [], ◌∷◌, ◌++◌, append_assoc, map, flatten}
use Prim.Native.Nat.{ℕ, zero, suc, ◌+◌, ◌<◌, ◌≤◌}
use native.Mathlib.Nat.{add-zero}
use native.Mathlib.Omega.{arith}
use lib.Dec.{ltb}
use lib.ListN.{length, drop, length-append, drop_of_length-le, get_or-append}
use lib.Seq.{get_or-append-add}
use borrow.Author.Tests.{ltb-false, le-ltb, eqb-true}
use Rattle.automaton.specs.Choice.{if, All, any}
use Rattle.automaton.specs.Rule.{Rule}
use Rattle.automaton.proofs.Tests.{clash, all_map, and_false_right}
use Rattle.big_endian.specs.Numbers.{two_at}
use Rattle.command.specs.declared.Command.{Command}
use Rattle.command.specs.Commands.{byte_at, placed, retired, operands_of, decode}
use Rattle.book.specs.Limits.{max_bytes}
use Rattle.book.specs.Draft.{Draft, between, Verdict, goes, accepts, refuses, apply}
use Rattle.reader.specs.Reading.{accepted, refused, go_on, read_from, read_by, read_book, read_strict}
use Rattle.reader.proofs.Accepted.{by_code, not_placed}
use Rattle.reader.proofs.Walking.{not_accepted, read_command, read_accepted}
use Rattle.rewriting.specs.Rewritten.{commands_in, commands_of, is_step, has_step, modern, rewritten}
use Rattle.rewriting.specs.Layers.{Whole, Readable}
use Rattle.rewriting.proofs.Verdicts.{move_both, apply_both}
use Rattle.rewriting.proofs.Pieces.{commands_none, width, commands_next, piece_code, piece_whole, flatten_commands}
use Rattle.rewriting.proofs.Pieces.{commands_flatten, by_step, step-length, modern-whole, modern_plain, modern-length}
use Rattle.rewriting.proofs.Pieces.{all-modern, grows, no_step-left, no_step_same}

-- ---- the commands of an accepted book are whole, and its reading takes them

pub record Taken (strict : Bool) (command : List ℕ) : Type 0 where
  pub whole : Whole command
  pub taken : retired strict (byte_at command 0) ≡ false

-- a book that is accepted ends behind the command
abbrev Ends : ℕ → ℕ → Verdict → Type 0
Ends at len (goes d) = Unit {0}
Ends at len (accepts rules) = len ≤ at + 1
Ends at len (refuses _ _) = Unit {0}

apply-ends : (d : Draft) (c : Command) (at len : ℕ) → Ends at len (apply d c at len)
apply-ends d c at len =
    apply_both (λ (v w : Verdict). Ends at len v) (λ number place v. tt) (λ e. tt) d at at c {len₁ = len} (λ l. (l, l))

module _ (strict : Bool) (bytes : List ℕ) where
  commands_taken : (n m at : ℕ) (d : Draft) {rules : List Rule} → read_from strict n bytes at d ≡ accepted rules
      → All (Taken strict) (commands_in m (drop at bytes))
  unfolding read_from commands_in
  commands_taken zero m at d z = not_accepted z
  commands_taken (suc n) zero at d z = tt
  commands_taken (suc n) (suc m) at d {rules} z =
      let k = read_accepted strict bytes at d n z in
      let t = k.0 in
      let q : at + 1 + operands_of (byte_at bytes at) ≡ at + width bytes at = omega arith in
      rw (commands_next m bytes at t.more) (
        record { whole = piece_whole bytes at (omega (arith, t.within)); taken = rw (piece_code bytes at) t.taken },
        subst (λ (j : ℕ). All (Taken strict) (commands_in m (drop j bytes))) q
            (go (apply d (decode bytes at (byte_at bytes at)) at (length bytes))
            (apply-ends d (decode bytes at (byte_at bytes at)) at (length bytes))
            (λ e y. commands_taken n m (at + 1 + operands_of (byte_at bytes at)) e y) k.1),
      )
    where
      after : ℕ
      after = at + 1 + operands_of (byte_at bytes at)

      go : (v : Verdict) → Ends at (length bytes) v
          → ((e : Draft) → read_from strict n bytes after e ≡ accepted rules → All (Taken strict) (commands_in m (drop after bytes)))
          → go_on v (read_from strict n bytes after) ≡ accepted rules → All (Taken strict) (commands_in m (drop after bytes))
      go (goes e) l ih y = ih e y
      go (accepts rs) l ih y = rw (drop_of_length-le bytes {i = after} (omega arith), commands_none m) tt
      go (refuses _ _) l ih y = not_accepted y

pub book_taken : (strict : Bool) (book : List ℕ) {rules : List Rule} → read_by strict book ≡ accepted rules
    → (length book ≤ max_bytes) × All (Taken strict) (commands_of book)
unfolding read_by
book_taken strict book {rules} e = go (ltb max_bytes (length book)) refl e
  where
    go : (t : Bool) → ltb max_bytes (length book) ≡ t
        → if t (refused BookTooLong 0) (read_from strict (length book) book 0 (between [])) ≡ accepted rules
        → (length book ≤ max_bytes) × All (Taken strict) (commands_of book)
    go true l z = not_accepted z
    go false l z = (ltb-false max_bytes (length book) l, commands_taken strict book (length book) (length book) 0 (between []) z)

pub book_readable : (book : List ℕ) {rules : List Rule} → read_book book ≡ accepted rules → Readable book
book_readable book e =
    let k = book_taken false book e in
    record { short = k.0; whole = all_map (Taken false) Whole (λ p t. t.whole) (commands_of book) k.1 }

-- ---- a command among others

module _ (pre p after : List ℕ) (w : Whole p) where
  abbrev amid : List ℕ
  amid = pre ++ (p ++ after)

  amid_length : length amid ≡ length pre + (length p + length after)
  amid_length = length-append pre (p ++ after) ∙ ap (λ (n : ℕ). length pre + n) (length-append p after)

  amid_byte : (i : ℕ) → i < length p → byte_at amid (length pre + i) ≡ byte_at p i
  amid_byte i l = get_or-append-add pre (p ++ after) i 0 ∙ get_or-append p after 0 i l

  amid_two : (i : ℕ) → i + 1 < length p → two_at amid (length pre + i) ≡ two_at p i
  amid_two i l = let q : length pre + i + 1 ≡ length pre + (i + 1) = omega arith in rw (q, amid_byte i (omega arith), amid_byte (i + 1) l)

  amid_code : byte_at amid (length pre) ≡ byte_at p 0
  amid_code = ap (byte_at amid) (sym (add-zero (length pre))) ∙ amid_byte 0 (omega (arith, w.operands))

  -- it is decoded as it is by itself
  amid_decoded : (inside : Bool) → placed (byte_at p 0) inside ≡ true
      → decode amid (length pre) (byte_at p 0) ≡ decode p 0 (byte_at p 0)
  unfolding decode operands_of
  amid_decoded inside stands =
      by_code Alike (byte_at p 0)
      (λ e l. rw (amid_two 1 (omega arith), amid_byte 3 (omega arith)))
      (λ e l. rw (amid_byte 1 (omega arith)))
      (λ e l. rw (amid_byte 1 (omega arith)))
      (λ e l. rw (amid_byte 1 (omega arith)))
      (λ e l. rw (amid_byte 1 (omega arith), amid_byte 2 (omega arith), amid_byte 3 (omega arith)))
      (λ e l. rw (amid_byte 1 (omega arith), amid_byte 2 (omega arith), amid_byte 3 (omega arith), amid_byte 4 (omega arith)))
      (λ e l. refl) (λ e l. refl)
      (λ e l. rw (amid_two 1 (omega arith)))
      (λ e l. rw (amid_two 1 (omega arith)))
      (λ e l. rw (amid_two 1 (omega arith)))
      (λ e l. rw (amid_two 1 (omega arith), amid_byte 3 (omega arith), amid_byte 4 (omega arith), amid_two 5 (omega arith)))
      (λ out e l. clash e (not_placed (byte_at p 0) inside out)) stands w.operands
    where
      Alike : ℕ → Type 0
      Alike code = placed code inside ≡ true → length p ≡ 1 + operands_of code → decode amid (length pre) code ≡ decode p 0 code

  module _ (strict : Bool) (d : Draft) where
    -- where the next one stands
    amid_next : length pre + 1 + operands_of (byte_at p 0) ≡ length (pre ++ p)
    amid_next = omega (arith, w.operands, length-append pre p)

    amid_read : (n : ℕ) → placed (byte_at p 0) d.inside ≡ true → retired strict (byte_at p 0) ≡ false
        → read_from strict (suc n) amid (length pre) d
        ≡ go_on (apply d (decode p 0 (byte_at p 0)) (length pre) (length amid)) (read_from strict n amid (length (pre ++ p)))
    amid_read n stands taken =
        read_command strict amid (length pre) d n
        (record {
          more = omega (arith, amid_length, w.operands);
          stands = rw amid_code stands;
          taken = rw amid_code taken;
          within = rw amid_code (omega (arith, amid_length, w.operands));
        })
        ∙ rw (amid_code, amid_decoded d.inside stands, amid_next)

    amid_accepted : (n : ℕ) {rules : List Rule} → read_from strict (suc n) amid (length pre) d ≡ accepted rules
        → (placed (byte_at p 0) d.inside ≡ true) × (retired strict (byte_at p 0) ≡ false)
    amid_accepted n z =
        let t = (read_accepted strict amid (length pre) d n z).0 in
        (rw amid_code at t.stands, rw amid_code at t.taken)

-- ---- the one in its place

-- the second verdict is the first one, if that is no refusal
abbrev Like : Verdict → Verdict → Type 0
Like (goes d) v = v ≡ goes d
Like (accepts rules) v = v ≡ accepts rules
Like (refuses _ _) v = Unit {0}

module _ (p : List ℕ) where
  modern_stands : (inside : Bool) → placed (byte_at p 0) inside ≡ true → placed (byte_at (modern p) 0) inside ≡ true
  unfolding placed
  modern_stands inside s = by_step (λ (q : List ℕ). placed (byte_at q 0) inside ≡ true) p (λ e. rw e at s) (λ e. s)

  modern_taken : (strict : Bool) → retired strict (byte_at (modern p) 0) ≡ false
  unfolding retired
  modern_taken strict = rw (modern_plain p) (and_false_right strict)

  -- a STEP and its SPAN come to the same
  modern_like : (d : Draft) (at len at₁ len₁ : ℕ) → (len ≤ at + 1 → len₁ ≤ at₁ + 1)
      → Like (apply d (decode p 0 (byte_at p 0)) at len) (apply d (decode (modern p) 0 (byte_at (modern p) 0)) at₁ len₁)
  unfolding apply decode
  modern_like d at len at₁ len₁ h =
      by_step (λ (q : List ℕ). Like (apply d (decode p 0 (byte_at p 0)) at len) (apply d (decode q 0 (byte_at q 0)) at₁ len₁)) p
      (λ e. rw e (move_both Like (λ n k v. tt) (λ e. refl) d at at₁ (byte_at p 1) (byte_at p 2) (byte_at p 2) (byte_at p 3)))
      (λ e. apply_both Like (λ n k v. tt) (λ e. refl) d at at₁ (decode p 0 (byte_at p 0)) (λ l. (h l, refl)))

-- the old book ends behind a command where the rewritten one does
both_end : (p : List ℕ) (ps : List (List ℕ)) → Whole p → All Whole ps → length p + length (flatten ps) ≤ 1
    → length (modern p) + length (flatten (map modern ps)) ≤ 1
unfolding flatten
both_end p (q ∷ ps) w (v, h) l = absurd (omega (arith, w.operands, v.operands, length-append q (flatten ps)))
both_end p [] w h l = go (is_step p) refl (modern-length p w)
  where
    go : (t : Bool) → is_step p ≡ t → length (modern p) ≡ length p + if t 1 0 → length (modern p) + 0 ≤ 1
    go true e q = absurd (omega (arith, step-length p w (eqb-true (byte_at p 0) 5 e)))
    go false e q = omega arith

module _ (strict : Bool) where
  same_from : (ps : List (List ℕ)) (n m : ℕ) → n ≤ m → (pre pre₁ : List ℕ) (d : Draft) {rules : List Rule} → All Whole ps
      → read_from false n (pre ++ flatten ps) (length pre) d ≡ accepted rules
      → read_from strict m (pre₁ ++ flatten (map modern ps)) (length pre₁) d ≡ accepted rules
  unfolding read_from flatten
  same_from ps zero m l pre pre₁ d h z = not_accepted z
  same_from ps (suc n) zero l pre pre₁ d h z = absurd (omega arith)
  same_from [] (suc n) (suc m) l pre pre₁ d h z =
      let t = (read_accepted false (pre ++ []) (length pre) d n z).0 in
      absurd (omega (arith, t.more, length-append pre []))
  same_from (p ∷ ps) (suc n) (suc m) l pre pre₁ d {rules} (w, h) z =
      let k = amid_accepted pre p (flatten ps) w false d n z in
      amid_read pre₁ (modern p) (flatten (map modern ps)) (modern-whole p w) strict d m (modern_stands p d.inside k.0)
      (modern_taken p strict)
      ∙ go (apply d (decode p 0 (byte_at p 0)) (length pre) (length old))
      (apply d (decode (modern p) 0 (byte_at (modern p) 0)) (length pre₁) (length new))
      (modern_like p d (length pre) (length old) (length pre₁) (length new) ends)
      (sym (amid_read pre p (flatten ps) w false d n k.0 k.1) ∙ z)
      (λ e y. same_from ps n m (omega arith) (pre ++ p) (pre₁ ++ modern p) e h y)
    where
      old : List ℕ
      old = pre ++ (p ++ flatten ps)

      new : List ℕ
      new = pre₁ ++ (modern p ++ flatten (map modern ps))

      ends : length old ≤ length pre + 1 → length new ≤ length pre₁ + 1
      ends e =
          let b = both_end p ps w h (omega (arith, amid_length pre p (flatten ps) w)) in
          omega (arith, amid_length pre₁ (modern p) (flatten (map modern ps)) (modern-whole p w))

      go : (v v₁ : Verdict) → Like v v₁ → go_on v (read_from false n old (length (pre ++ p))) ≡ accepted rules
          → ((e : Draft) → read_from false n ((pre ++ p) ++ flatten ps) (length (pre ++ p)) e ≡ accepted rules
          → read_from strict m ((pre₁ ++ modern p) ++ flatten (map modern ps)) (length (pre₁ ++ modern p)) e ≡ accepted rules)
          → go_on v₁ (read_from strict m new (length (pre₁ ++ modern p))) ≡ accepted rules
      go (goes e) v₁ s y ih = rw s (rw append_assoc at (ih e (rw append_assoc y)))
      go (accepts rs) v₁ s y ih = rw s y
      go (refuses _ _) v₁ s y ih = not_accepted y

-- ---- the book

-- The rewritten book is accepted by both readings, with the same rules.
pub rewritten_read : (strict : Bool) (book : List ℕ) {rules : List Rule} → read_book book ≡ accepted rules
    → length (rewritten book) ≤ max_bytes → read_by strict (rewritten book) ≡ accepted rules
unfolding read_by rewritten
rewritten_read strict book {rules} e l = rw (le-ltb _ _ l) (go (ltb max_bytes (length book)) e)
  where
    whole : All Whole (commands_of book)
    whole = (book_readable book e).whole

    same : flatten (commands_of book) ≡ book
    same = flatten_commands (length book) book (omega arith)

    longer : length book ≤ length (rewritten book)
    longer = omega (arith, grows (commands_of book) whole, ap length same)

    go : (t : Bool) → if t (refused BookTooLong 0) (read_from false (length book) book 0 (between [])) ≡ accepted rules
        → read_from strict (length (rewritten book)) (rewritten book) 0 (between []) ≡ accepted rules
    go true z = not_accepted z
    go false z =
        same_from strict (commands_of book) (length book) (length (rewritten book)) longer [] [] (between []) whole
        (subst (λ (b : List ℕ). read_from false (length book) b 0 (between []) ≡ accepted rules) (sym same) z)

-- Its commands are those of the old one, each STEP as its SPAN.
pub rewritten_commands : (book : List ℕ) {rules : List Rule} → read_book book ≡ accepted rules
    → commands_of (rewritten book) ≡ map modern (commands_of book)
unfolding rewritten
rewritten_commands book e =
    commands_flatten (length (rewritten book)) (map modern (commands_of book)) (all-modern (commands_of book) (book_readable book e).whole)
    (omega arith)

pub no_step : (book : List ℕ) {rules : List Rule} → read_book book ≡ accepted rules → has_step (rewritten book) ≡ false
no_step book e = rw (rewritten_commands book e) (no_step-left (commands_of book))

-- A book without STEP is rewritten to itself.
pub rewritten_same : (book : List ℕ) → has_step book ≡ false → rewritten book ≡ book
unfolding rewritten
rewritten_same book e = rw (no_step_same (commands_of book) e) (flatten_commands (length book) book (omega arith))

-- The stricter reading accepts the books without STEP that the ordinary one accepts.
pub strict_plain : (book : List ℕ) {rules : List Rule} → read_strict book ≡ accepted rules → has_step book ≡ false
unfolding retired
strict_plain book e = go (commands_of book) (book_taken true book e).1
  where
    go : (ps : List (List ℕ)) → All (Taken true) ps → any is_step ps ≡ false
    go [] h = refl
    go (p ∷ ps) (t, h) = rw t.taken (go ps h)

pub plain_strict : (book : List ℕ) {rules : List Rule} → read_book book ≡ accepted rules → has_step book ≡ false
    → read_strict book ≡ accepted rules
plain_strict book {rules} e n =
    let same = rewritten_same book n in
    subst (λ (b : List ℕ). read_strict b ≡ accepted rules) same
    (rewritten_read true book e (omega (arith, ap length same, (book_readable book e).short)))
