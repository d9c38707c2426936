-- The commands that bytes hold, and what becomes of each. Assumes nothing.
use mathlib.Core.Path.{◌≡◌, refl, ap, ◌∙◌}
use mathlib.Core.Bool.{Bool, true, false}
use mathlib.Core.List.{List, [], ◌∷◌, ◌++◌, map, flatten}
use Prim.Native.Nat.{ℕ, zero, suc, ◌+◌, ◌≤◌, ◌<◌}
use native.Mathlib.Omega.{arith}
use native.Mathlib.Nat.{add-zero}
use lib.ListN.{length, take, drop, length-append, length-drop, length-take, take-append-drop}
use lib.Seq.{drop-cons, drop-drop, take_at, drop_at, get_or-take, get_or-drop}
use borrow.Author.Tests.{eqb-true}
use Rattle.automaton.specs.Choice.{if, All, any}
use Rattle.automaton.proofs.Tests.{or_false}
use Rattle.command.specs.Commands.{byte_at, operands_of}
use Rattle.rewriting.specs.Rewritten.{commands_in, is_step, span_of, modern}
use Rattle.rewriting.specs.Layers.{Whole}

-- ---- bytes and the commands that they hold

pub commands_none : (n : ℕ) → commands_in n [] ≡ []
unfolding commands_in
commands_none zero = refl
commands_none (suc n) = refl

-- the bytes of the command that stands at `at`
abbrev pub width : List ℕ → ℕ → ℕ
width bytes at = suc (operands_of (byte_at bytes at))

pub commands_next : (n : ℕ) (bytes : List ℕ) (at : ℕ) → at < length bytes
    → commands_in (suc n) (drop at bytes) ≡ take (width bytes at) (drop at bytes) ∷ commands_in n (drop (at + width bytes at) bytes)
unfolding commands_in
commands_next n bytes at l =
    let q : suc at + operands_of (byte_at bytes at) ≡ at + width bytes at = omega arith in
    rw (drop-cons bytes at 0 l, drop-drop, q)

-- its code is the byte that stands there
pub piece_first : (bytes : List ℕ) (at n : ℕ) → 0 < n → byte_at (take n (drop at bytes)) 0 ≡ byte_at bytes at
piece_first bytes at n l = get_or-take n (drop at bytes) 0 0 l ∙ get_or-drop at bytes 0 0 ∙ rw add-zero

pub piece_code : (bytes : List ℕ) (at : ℕ) → byte_at (take (width bytes at) (drop at bytes)) 0 ≡ byte_at bytes at
piece_code bytes at = piece_first bytes at (width bytes at) (omega arith)

-- and it is whole where the bytes reach so far
pub piece_whole : (bytes : List ℕ) (at : ℕ) → at + width bytes at ≤ length bytes → Whole (take (width bytes at) (drop at bytes))
piece_whole bytes at l =
    let len = length-take (width bytes at) (drop at bytes) in
    record { operands = rw (piece_code bytes at) (omega (arith, len, length-drop at bytes)) }

-- joined again, the commands are the bytes
pub flatten_commands : (n : ℕ) (bytes : List ℕ) → length bytes ≤ n → flatten (commands_in n bytes) ≡ bytes
unfolding commands_in flatten
flatten_commands zero [] l = refl
flatten_commands zero (code ∷ rest) l = absurd (omega arith)
flatten_commands (suc n) [] l = refl
flatten_commands (suc n) (code ∷ rest) l =
    ap (λ (xs : List ℕ). code ∷ (take (operands_of code) rest ++ xs))
    (flatten_commands n (drop (operands_of code) rest) (simp length-drop (omega arith)))
    ∙ ap (λ (xs : List ℕ). code ∷ xs) (take-append-drop (operands_of code) rest)

-- whole commands, joined, hold themselves
pub commands_flatten : (n : ℕ) (ps : List (List ℕ)) → All Whole ps → length (flatten ps) ≤ n → commands_in n (flatten ps) ≡ ps
unfolding commands_in flatten
commands_flatten n [] h l = commands_none n
commands_flatten n ([] ∷ ps) (w, h) l = absurd (omega (arith, w.operands))
commands_flatten zero ((code ∷ rest) ∷ ps) (w, h) l = absurd (omega arith)
commands_flatten (suc n) ((code ∷ rest) ∷ ps) (w, h) l =
    let q : length rest ≡ operands_of code = omega (arith, w.operands) in
    let m : length (flatten ps) ≤ n = omega (arith, length-append rest (flatten ps)) in
    rw (take_at rest (flatten ps) (operands_of code) q, drop_at rest (flatten ps) (operands_of code) q, commands_flatten n ps h m)

-- ---- a command and the one in its place

-- a STEP, or another command
module _ (P : List ℕ → Type 0) (p : List ℕ) where
  pub by_step : (byte_at p 0 ≡ 5 → P (span_of p)) → (is_step p ≡ false → P p) → P (modern p)
  by_step s o = go (is_step p) refl
    where
      go : (t : Bool) → is_step p ≡ t → P (if t (span_of p) p)
      go true e = s (eqb-true (byte_at p 0) 5 e)
      go false e = o e

pub modern-whole : (p : List ℕ) → Whole p → Whole (modern p)
unfolding operands_of
modern-whole p w = by_step Whole p (λ e. record { operands = refl }) (λ e. w)

pub modern_plain : (p : List ℕ) → is_step (modern p) ≡ false
modern_plain p = by_step (λ (q : List ℕ). is_step q ≡ false) p (λ e. refl) (λ e. e)

pub step-length : (p : List ℕ) → Whole p → byte_at p 0 ≡ 5 → length p ≡ 4
unfolding operands_of
step-length p w e = w.operands ∙ rw e

-- a STEP grows by a byte
pub modern-length : (p : List ℕ) → Whole p → length (modern p) ≡ length p + if (is_step p) 1 0
modern-length p w = go (is_step p) refl
  where
    go : (t : Bool) → is_step p ≡ t → length (if t (span_of p) p) ≡ length p + if t 1 0
    go true e = omega (arith, step-length p w (eqb-true (byte_at p 0) 5 e))
    go false e = omega arith

pub all-modern : (ps : List (List ℕ)) → All Whole ps → All Whole (map modern ps)
all-modern [] h = tt
all-modern (p ∷ ps) (w, h) = (modern-whole p w, all-modern ps h)

pub grows : (ps : List (List ℕ)) → All Whole ps → length (flatten ps) ≤ length (flatten (map modern ps))
unfolding flatten
grows [] h = omega arith
grows (p ∷ ps) (w, h) =
    omega (arith, grows ps h, modern-length p w, length-append p (flatten ps), length-append (modern p) (flatten (map modern ps)))

pub no_step-left : (ps : List (List ℕ)) → any is_step (map modern ps) ≡ false
no_step-left [] = refl
no_step-left (p ∷ ps) = rw (modern_plain p) (no_step-left ps)

pub no_step_same : (ps : List (List ℕ)) → any is_step ps ≡ false → map modern ps ≡ ps
no_step_same [] e = refl
no_step_same (p ∷ ps) e = let q = or_false (is_step p) (any is_step ps) e in rw (q.0, no_step_same ps q.1)
