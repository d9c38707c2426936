-- A whole text, from what is read of it as alternatives.
use mathlib.Core.Path.{◌≡◌, refl, sym, ap, ◌∙◌}
use mathlib.Core.List.{List, [], ◌∷◌}
use Prim.Native.Nat.{ℕ, ◌≤◌, ◌<◌}
use native.Mathlib.Omega.{arith}
use lib.ListN.{length}
use Rattle.expression.specs.Expression.{Expression}
use Rattle.expression.specs.Spelling.{alternatives}
use Rattle.expression.specs.Reading.{Parsed, parsed, faulty, read_as, right, wrong, read_expression, whole}
use Rattle.position_reader.specs.declared.Part.{Part}
use Rattle.std.specs.Prelude.{Result, Ok, Err}
use Rattle.position_reader.specs.Layers.{part_of, read_of, Ready}
use Rattle.expression_reader.specs.Layers.{ReadsAt, ReadsWhole, whole_read}
use Rattle.expression_reader.proofs.Levels.{Got, got}

pub ready_start : (text : List ℕ) → Ready text 0 0
ready_start text = record { inside = omega arith; counted = omega arith }

right-one : {x y : Expression} → right x ≡ right y → x ≡ y
right-one e = cc

clash : {A : Type 0} {x : Expression} {q : ℕ} → wrong q ≡ right x → A
clash c = let z : ◌≡◌ {A = ℕ} 0 1 = cc in absurd (omega arith)

module _ {text : List ℕ} {left : Part} {takers takers' follow follow' : List ℕ}
    (h : ReadsAt alternatives text 0 0 (Ok left) takers takers' follow follow') where
  all : Got text 0 0 (read_as alternatives text) left
  all = got (ready_start text) h

  -- it is all of the text
  pub whole_right : length text ≤ left.at → ReadsWhole text (Ok left) takers takers' follow follow'
  unfolding read_expression whole whole_read
  whole_right l = go all.rest refl
    where
      go : (u : List ℕ) → all.rest ≡ u → ReadsWhole text (Ok left) takers takers' follow follow'
      go [] d =
          let p : read_as alternatives text ≡ parsed all.expression [] = all.reading ∙ ap (parsed all.expression) d in
          let a : left ≡ part_of text 0 all.expression [] = all.part ∙ ap (part_of text 0 all.expression) d in
          record {
            answer = ap Ok a ∙ sym (ap (λ (o : Parsed). whole_read text (whole (length text) o)) p);
            noted = λ x c. h.reads.noted x [] (p ∙ ap (λ (y : Expression). parsed y []) (right-one (sym (ap (whole (length text)) p) ∙ c)));
          }
      go (b ∷ u) d = absurd (omega (arith, ap (λ (p : Part). p.at) all.part, ap length d, all.tail.short))

  -- something is left of it
  pub whole_rest : left.at < length text → ReadsWhole text (Err left.at) takers takers' follow follow'
  unfolding read_expression whole whole_read
  whole_rest l = go all.rest refl
    where
      go : (u : List ℕ) → all.rest ≡ u → ReadsWhole text (Err left.at) takers takers' follow follow'
      go [] d = absurd (omega (arith, ap (λ (p : Part). p.at) all.part, ap length d))
      go (b ∷ u) d =
          let p : read_as alternatives text ≡ parsed all.expression (b ∷ u) = all.reading ∙ ap (parsed all.expression) d in
          let a : left ≡ part_of text 0 all.expression (b ∷ u) = all.part ∙ ap (part_of text 0 all.expression) d in
          record {
            answer = ap (λ (x : Part). Err x.at) a ∙ sym (ap (λ (o : Parsed). whole_read text (whole (length text) o)) p);
            noted = λ x c. clash (sym (ap (whole (length text)) p) ∙ c);
          }

pub whole_wrong : {text : List ℕ} {place : ℕ} {takers takers' follow follow' : List ℕ}
    → ReadsAt alternatives text 0 0 (Err place) takers takers' follow follow' → ReadsWhole text (Err place) takers takers' follow follow'
unfolding read_expression whole whole_read read_of
whole_wrong {text} {place} {takers} {takers'} {follow} {follow'} h = go (read_as alternatives text) refl
  where
    go : (out : Parsed) → read_as alternatives text ≡ out → ReadsWhole text (Err place) takers takers' follow follow'
    go (parsed x u) d = other (h.reads.answer ∙ ap (read_of text 0) d)
      where
        other : {A : Type 0} {p : Part} → ◌≡◌ {A = Result Part ℕ} (Err place) (Ok p) → A
        other c = let z : ◌≡◌ {A = ℕ} 0 1 = cc in absurd (omega arith)
    go (faulty u) d =
        record {
          answer = h.reads.answer ∙ ap (read_of text 0) d ∙ sym (ap (λ (o : Parsed). whole_read text (whole (length text) o)) d);
          noted = λ x c. clash (sym (ap (whole (length text)) d) ∙ c);
        }
