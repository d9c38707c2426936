-- Reading the command at a place of a book, where the bytes from there on are known. Assumes nothing.
use mathlib.Core.Path.{◌≡◌, refl, sym, ap, ◌∙◌}
use mathlib.Core.Bool.{Bool, true, false}
use mathlib.Core.List.{List, [], ◌∷◌, ◌++◌}
use Prim.Native.Nat.{ℕ, suc, ◌+◌, ◌*◌, ◌<◌}
use native.Mathlib.Nat.{add-zero}
use native.Mathlib.Omega.{arith}
use lib.Dec.{eqb}
use lib.ListN.{length, drop, length-append, length-drop}
use lib.Seq.{get_or-drop, drop-drop, drop-append_seam}
use Rattle.automaton.proofs.Tests.{and_false_right}
use Rattle.command.specs.declared.Command.{Command}
use Rattle.command.specs.declared.Command.TheVariants.{Rule as RULE, Start, Error, Final, Span, Close, End}
use Rattle.command.specs.Commands.{byte_at, placed, retired, operands_of, decode}
use Rattle.book.specs.Draft.{Draft, apply}
use Rattle.reader.specs.Reading.{Reading, go_on, read_from}
use Rattle.reader.proofs.Walking.{read_command}

-- from `at` on the book has just these bytes
pub record From (bytes : List ℕ) (at : ℕ) (tail : List ℕ) : Type 0 where
  pub same : drop at bytes ≡ tail

module _ {bytes : List ℕ} {at : ℕ} {tail : List ℕ} (f : From bytes at tail) where
  pub from_byte : (i : ℕ) → byte_at bytes (at + i) ≡ byte_at tail i
  from_byte i = sym (get_or-drop at bytes i 0) ∙ ap (λ (l : List ℕ). byte_at l i) f.same

  pub from-length : 0 < length tail → length bytes ≡ at + length tail
  from-length l = omega (arith, length-drop at bytes, ap length f.same)

pub from_next : {bytes : List ℕ} {at : ℕ} (front rest : List ℕ) → From bytes at (front ++ rest) → From bytes (at + length front) rest
from_next {bytes} {at} front rest f =
    record { same = sym (drop-drop (length front) at bytes) ∙ ap (drop (length front)) f.same ∙ drop-append_seam front rest }

module _ (strict : Bool) (bytes : List ℕ) (at : ℕ) (d : Draft) (n : ℕ) where
  -- what reading comes to by command c of `width` bytes, with n steps left behind it
  abbrev pub onward : Command → ℕ → Reading
  onward c width = go_on (apply d c at (length bytes)) (read_from strict n bytes (at + width))

  module _ (code : ℕ) (operands rest : List ℕ) (f : From bytes at (code ∷ (operands ++ rest))) where
    code_here : byte_at bytes at ≡ code
    code_here = ap (byte_at bytes) (sym (add-zero at)) ∙ from_byte f 0

    read_code : length operands ≡ operands_of code → placed code d.inside ≡ true → retired strict code ≡ false
        → read_from strict (suc n) bytes at d ≡ onward (decode bytes at code) (1 + length operands)
    read_code l stands taken =
        let size : length bytes ≡ at + length (code ∷ (operands ++ rest)) = from-length f (omega arith) in
        let q : at + 1 + operands_of code ≡ at + (1 + length operands) = omega arith in
        read_command strict bytes at d n
        (record {
          more = omega arith;
          stands = rw code_here stands;
          taken = rw code_here taken;
          within = rw code_here (omega (arith, length-append operands rest));
        })
        ∙ rw (code_here, q)

  untaken : (code : ℕ) → eqb code 5 ≡ false → retired strict code ≡ false
  unfolding retired
  untaken code e = rw e (and_false_right strict)

  module _ {rest : List ℕ} where
    pub read_rule : {high low kind : ℕ} → From bytes at (1 ∷ high ∷ low ∷ kind ∷ rest) → d.inside ≡ false
        → read_from strict (suc n) bytes at d ≡ onward (RULE (high * 256 + low) kind) 4
    unfolding decode operands_of placed
    read_rule {high} {low} {kind} f e =
        let q : at + 1 + 1 ≡ at + 2 = omega arith in
        read_code 1 (high ∷ low ∷ kind ∷ []) rest f refl (rw e) (untaken 1 refl) ∙ rw (q, from_byte f 1, from_byte f 2, from_byte f 3)

    pub read_start : {s : ℕ} → From bytes at (2 ∷ s ∷ rest) → d.inside ≡ true → read_from strict (suc n) bytes at d ≡ onward (Start s) 2
    unfolding decode operands_of placed
    read_start {s} f e = read_code 2 (s ∷ []) rest f refl (rw e) (untaken 2 refl) ∙ rw (from_byte f 1)

    pub read_error : {s : ℕ} → From bytes at (3 ∷ s ∷ rest) → d.inside ≡ true → read_from strict (suc n) bytes at d ≡ onward (Error s) 2
    unfolding decode operands_of placed
    read_error {s} f e = read_code 3 (s ∷ []) rest f refl (rw e) (untaken 3 refl) ∙ rw (from_byte f 1)

    pub read_final : {s : ℕ} → From bytes at (4 ∷ s ∷ rest) → d.inside ≡ true → read_from strict (suc n) bytes at d ≡ onward (Final s) 2
    unfolding decode operands_of placed
    read_final {s} f e = read_code 4 (s ∷ []) rest f refl (rw e) (untaken 4 refl) ∙ rw (from_byte f 1)

    pub read_span : {from low high to : ℕ} → From bytes at (6 ∷ from ∷ low ∷ high ∷ to ∷ rest) → d.inside ≡ true
        → read_from strict (suc n) bytes at d ≡ onward (Span from low high to) 5
    unfolding decode operands_of placed
    read_span {from} {low} {high} {to} f e =
        read_code 6 (from ∷ low ∷ high ∷ to ∷ []) rest f refl (rw e) (untaken 6 refl)
        ∙ rw (from_byte f 1, from_byte f 2, from_byte f 3, from_byte f 4)

    pub read_close : From bytes at (7 ∷ rest) → d.inside ≡ true → read_from strict (suc n) bytes at d ≡ onward Close 1
    unfolding decode operands_of placed
    read_close f e = read_code 7 [] rest f refl (rw e) (untaken 7 refl)

    pub read_end : From bytes at (8 ∷ rest) → d.inside ≡ false → read_from strict (suc n) bytes at d ≡ onward End 1
    unfolding decode operands_of placed
    read_end f e = read_code 8 [] rest f refl (rw e) (untaken 8 refl)
