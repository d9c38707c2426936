-- What a call answers, case by case in the order of its refusals, and what an accepted call has written. Assumes nothing.
use Rattle.answer.specs.declared.Reason.{Reason}
use Rattle.std.specs.Prelude.{Result, Ok, Err}
use Rattle.answer.specs.declared.Reason.TheVariants.{LargeExpression, NoExpression, OutOfRange, OutputTooShort, TooManySets}
use Rattle.answer.specs.declared.Refusal.{Refusal}
use mathlib.Core.Path.{◌≡◌, refl, sym, ap, ◌∙◌}
use mathlib.Core.Bool.{Bool, true, false, ◌||◌}
use mathlib.Core.List.{List}
use Prim.Native.Nat.{ℕ}
use native.Mathlib.Omega.{arith}
use lib.Dec.{eqb, ltb}
use lib.ListN.{length}
use Rattle.output.specs.Outcome.{PrintOutcome, print_refused, print_accepted, refused_if, written}
use Rattle.expression.specs.Expression.{Expression}
use Rattle.expression.specs.Reading.{Reading, right, wrong, read_expression}
use Rattle.expression_rule.specs.Outcome.{max_expression, many_sets, compiled, is_too_large, compile_reading, compile_outcome}

-- ---- each case

module _ (tag kind : ℕ) (text out : List ℕ) where
  abbrev outcome : PrintOutcome
  outcome = compile_outcome tag kind text out

  abbrev wrong_rule : Bool
  wrong_rule = eqb tag 0 || ltb 1 kind

  abbrev long : Bool
  long = ltb max_expression (length text)

  pub wrong_rule_lem : wrong_rule ≡ true → outcome ≡ print_refused OutOfRange 0 out
  unfolding compile_outcome refused_if
  wrong_rule_lem h = rw h

  module _ (r : wrong_rule ≡ false) where
    pub text_long : long ≡ true → outcome ≡ print_refused LargeExpression 0 out
    unfolding compile_outcome refused_if
    text_long h = rw (r, h)

    module _ (s : long ≡ false) where
      pub text_read : outcome ≡ compile_reading tag kind (read_expression text) out
      unfolding compile_outcome refused_if
      text_read = rw (r, s)

      pub text_wrong : {place : ℕ} → read_expression text ≡ wrong place → outcome ≡ print_refused NoExpression place out
      text_wrong h = text_read ∙ rw h

      module _ {e : Expression} (reads : read_expression text ≡ right e) where
        pub expression_large : is_too_large e ≡ true → outcome ≡ print_refused LargeExpression 0 out
        unfolding refused_if
        expression_large h = text_read ∙ rw (reads, h)

        module _ (small : is_too_large e ≡ false) where
          pub sets_many : many_sets e ≡ true → outcome ≡ print_refused TooManySets 0 out
          unfolding refused_if
          sets_many h = text_read ∙ rw (reads, small, h)

          pub sets_few : many_sets e ≡ false → outcome ≡ written (compiled tag kind e) out
          unfolding refused_if
          sets_few h = text_read ∙ ap (λ (x : Reading). compile_reading tag kind x out) reads ∙ pass small h
            where
              pass : {a b : Bool} {next : PrintOutcome} → a ≡ false → b ≡ false → refused_if a LargeExpression 0 out (refused_if b TooManySets 0 out next) ≡ next
              pass p q = rw (p, q)

-- ---- an accepted call

pub record Makes (tag kind : ℕ) (text out : List ℕ) (n : ℕ) : Type 0 where
  pub expression : Expression
  pub reads : read_expression text ≡ right expression
  pub rule : eqb tag 0 || ltb 1 kind ≡ false
  pub short : ltb max_expression (length text) ≡ false
  pub small : is_too_large expression ≡ false
  pub few : many_sets expression ≡ false
  pub count : n ≡ length (compiled tag kind expression)
  pub outcome : compile_outcome tag kind text out ≡ print_accepted (compiled tag kind expression) out

record Passes (t : Bool) (o next : PrintOutcome) : Type 0 where
  not_refused : t ≡ false
  same : o ≡ next

passes : (t : Bool) (reason : Reason) (place : ℕ) (out : List ℕ) (next : PrintOutcome) (n : ℕ)
    → (refused_if t reason place out next).answer ≡ Ok n → Passes t (refused_if t reason place out next) next
unfolding refused_if
passes true number place out next n e = let y : ◌≡◌ {A = ℕ} 0 1 = cc in absurd (omega arith)
passes false number place out next n e = record { not_refused = refl; same = refl }

pub makes : (tag kind : ℕ) (text out : List ℕ) (n : ℕ) → (compile_outcome tag kind text out).answer ≡ Ok n
    → Makes tag kind text out n
unfolding compile_outcome
makes tag kind text out n e = by_reading (read_expression text) refl
  where
    first : Passes (eqb tag 0 || ltb 1 kind) (compile_outcome tag kind text out)
        (refused_if (ltb max_expression (length text)) LargeExpression 0 out (compile_reading tag kind (read_expression text) out))
    first = passes _ OutOfRange 0 out _ n e

    second : Passes (ltb max_expression (length text))
        (refused_if (ltb max_expression (length text)) LargeExpression 0 out (compile_reading tag kind (read_expression text) out))
        (compile_reading tag kind (read_expression text) out)
    second = passes _ LargeExpression 0 out _ n (sym (ap (λ (o : PrintOutcome). o.answer) first.same) ∙ e)

    whole : compile_outcome tag kind text out ≡ compile_reading tag kind (read_expression text) out
    whole = first.same ∙ second.same

    by_reading : (r : Reading) → read_expression text ≡ r → Makes tag kind text out n
    by_reading (wrong place) h =
        let q : ◌≡◌ {A = Result ℕ Refusal} (Err (record { reason = NoExpression; place = place })) (Ok n) =
        sym (ap (λ (o : PrintOutcome). o.answer) (whole ∙ ap (λ (x : Reading). compile_reading tag kind x out) h)) ∙ e in
        let y : ◌≡◌ {A = ℕ} 0 1 = cc in absurd (omega arith)
    by_reading (right x) h =
        let o : compile_outcome tag kind text out ≡ compile_reading tag kind (right x) out =
        whole ∙ ap (λ (y : Reading). compile_reading tag kind y out) h in
        let a = passes (is_too_large x) LargeExpression 0 out (refused_if (many_sets x) TooManySets 0 out (written (compiled tag kind x) out)) n
        (sym (ap (λ (y : PrintOutcome). y.answer) o) ∙ e) in
        let b = passes (many_sets x) TooManySets 0 out (written (compiled tag kind x) out) n
        (sym (ap (λ (y : PrintOutcome). y.answer) (o ∙ a.same)) ∙ e) in
        let c = passes (ltb (length out) (length (compiled tag kind x))) OutputTooShort (length (compiled tag kind x)) out
        (print_accepted (compiled tag kind x) out) n (sym (ap (λ (y : PrintOutcome). y.answer) (o ∙ a.same ∙ b.same)) ∙ e) in
        let all : compile_outcome tag kind text out ≡ print_accepted (compiled tag kind x) out = o ∙ a.same ∙ b.same ∙ c.same in
        let q : Ok (length (compiled tag kind x)) ≡ Ok n = sym (ap (λ (y : PrintOutcome). y.answer) all) ∙ e in
        record {
          expression = x;
          reads = h;
          rule = first.not_refused;
          short = second.not_refused;
          small = a.not_refused;
          few = b.not_refused;
          count = cc;
          outcome = all;
        }
