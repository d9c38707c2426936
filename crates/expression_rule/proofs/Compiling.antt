-- What the layers below have read, noted and found is what the outcome says. Assumes nothing.
use Rattle.answer.specs.declared.Reason.{Reason}
use Rattle.answer.specs.declared.Refusal.{Refusal}
use Rattle.std.specs.Prelude.{Result, Ok, Err}
use Rattle.answer.specs.declared.Reason.TheVariants.{LargeExpression, TooManySets}
use mathlib.Core.Path.{◌≡◌, refl, sym, ap, subst, ◌∙◌}
use mathlib.Core.Bool.{Bool, true, false, ◌||◌}
use mathlib.Core.List.{List, [], ◌∷◌}
use Prim.Native.Nat.{ℕ, zero, suc, ◌+◌, ◌-◌, ◌≤◌, ◌<◌}
use native.Mathlib.Nat.{sub-zero, zero-add}
use native.Mathlib.Omega.{arith}
use borrow.Author.Tests.{lt-ltb, le-ltb, ltb-false, le-leb}
use lib.Bits.{or_zero_l}
use lib.Dec.{ltb, eqb}
use lib.ListN.{length, get_or, take, replicate}
use lib.Seq.{ext_get_or}
use Rattle.automaton.specs.Choice.{if, All}
use Rattle.output.specs.Outcome.{PrintOutcome, print_refused, refused_if, written}
use Rattle.output.specs.Layers.{PrintAnswered}
use Rattle.expression.specs.Expression.{Expression}
use Rattle.expression.specs.Reading.{Reading, right, wrong, read_expression}
use Rattle.positions.specs.Positions.{size, depth, takes_at, first, last, follows}
use Rattle.positions.specs.Numbers.{set_of}
use Rattle.positions.proofs.Numbers.{set_same, set_none}
use Rattle.positions.proofs.Bounds.{follows_below}
use Rattle.position_reader.specs.declared.Part.{Part}
use Rattle.position_reader.specs.Layers.{from, within, part_of, Noted}
use Rattle.expression_reader.specs.Layers.{whole_read}
use Rattle.subsets.specs.States.{are_too_many, rows_of, finals_of}
use Rattle.subsets.specs.Layers.{Found}
use Rattle.rule_commands.specs.Bytes.{table_bytes}
use Rattle.rule_commands.specs.Fit.{FitRow}
use Rattle.rule_commands.specs.Layers.{rows_of as rowsIn}
use Rattle.rule_commands.proofs.Tabled.{tabled_rows}
use Rattle.expression_rule.specs.Outcome.{follow_of, takers_of, many_sets, compiled, is_too_large, compile_right}
use Rattle.expression_rule.specs.Outcome.{max_expression, compile_reading, compile_outcome}
use Rattle.expression_rule.specs.Layers.{Holds, Stood}
use Rattle.expression_rule.proofs.Compiled.{tabled-length, tabled_at}
use Rattle.expression_rule.proofs.Answers.{text_read}
use Rattle.expression_rule.proofs.Closed.{states_few}
use Rattle.expression_rule.proofs.Fitting.{table-length, table_rows}

-- ---- an answer

pub answered : {o : PrintOutcome} {reason : Reason} {place : ℕ} {r : Result ℕ Refusal} {out : List ℕ} → o ≡ print_refused reason place out
    → r ≡ Err (record { reason = reason; place = place }) → PrintAnswered o r out
answered e h = rw e (record { answer = h; out = refl })

-- a right expression's outcome is the call's
pub passed : (tag kind : ℕ) (text out : List ℕ) {e : Expression} {r : Result ℕ Refusal} {exit : List ℕ} → eqb tag 0 || ltb 1 kind ≡ false
    → ltb max_expression (length text) ≡ false → read_expression text ≡ right e → PrintAnswered (compile_right tag kind e out) r exit
    → PrintAnswered (compile_outcome tag kind text out) r exit
passed tag kind text out {e} {r} {exit} fine short reads h =
    subst (λ (o : PrintOutcome). PrintAnswered o r exit)
    (sym (text_read tag kind text out fine short ∙ ap (λ (x : Reading). compile_reading tag kind x out) reads)) h

-- ---- what was read

-- numbered from 0 on, positions keep their numbers
from_start : (test : ℕ → Bool) → set_of (from 0 test) ≡ set_of test
from_start test = set_same 64 (from 0 test) test (λ p h. rw (le-leb 0 p (omega arith), sub-zero p))

zeros : (n i : ℕ) → ◌≡◌ {A = ℕ} (get_or (replicate n 0) i 0) 0
zeros zero i = refl
zeros (suc n) zero = refl
zeros (suc n) (suc i) = zeros n i

module _ {e : Expression} {takers follow : List ℕ} (n : Noted 0 e (replicate 256 0) takers (replicate 64 0) follow) where
  takers_are : length takers ≡ 256 → takers ≡ takers_of e
  takers_are l =
      ext_get_or 0 takers (takers_of e) (l ∙ sym (tabled-length 256 (λ b. set_of (takes_at e b))))
      (λ b h. let k : b < 256 = omega arith in
      n.taken.taken b k
      ∙ rw (zeros 256 b) (or_zero_l _ ∙ from_start (takes_at e b) ∙ sym (tabled_at 256 (λ c. set_of (takes_at e c)) b k)))

  follow_are : length follow ≡ 64 → follow ≡ follow_of e
  follow_are l =
      ext_get_or 0 follow (follow_of e) (l ∙ sym (tabled-length 64 (λ p. set_of (follows e p))))
      (λ p h. let k : p < 64 = omega arith in
      n.followed.followed p k ∙ go p (ltb p (size e)) refl ∙ sym (tabled_at 64 (λ q. set_of (follows e q)) p k))
    where
      none : (p q : ℕ) → size e ≤ p → follows e p q ≡ false
      none p q h = test (follows e p q) refl
        where
          test : (t : Bool) → follows e p q ≡ t → follows e p q ≡ false
          test true d = absurd (omega (arith, (follows_below e p q d).0))
          test false d = d

      go : (p : ℕ) (t : Bool) → ltb p (size e) ≡ t
          → if (within 0 (size e) p) (set_of (from 0 (follows e (p - 0)))) (get_or (replicate 64 0) p 0) ≡ set_of (follows e p)
      go p true d = rw (le-leb 0 p (omega arith), zero-add (size e), d, sub-zero p) (from_start (follows e p))
      go p false d =
          rw (le-leb 0 p (omega arith), zero-add (size e), d, zeros 64 p)
          (sym (set_none 64 (follows e p) (λ q h. none p q (ltb-false p (size e) d))))

  pub holds : (text : List ℕ) {part : Part} → part ≡ part_of text 0 e [] → Holds e part takers follow
  holds text d =
      rw d
      (record {
        end = zero-add (size e);
        deep = refl;
        empty = refl;
        firsts = from_start (first e);
        lasts = from_start (last e);
        takers_all = takers_are;
        follow_all = follow_are;
      })

-- where there is no fault, and where there is one
pub record Understood (text : List ℕ) (part : Part) : Type 0 where
  pub expression : Expression
  pub reads : read_expression text ≡ right expression
  pub is : part ≡ part_of text 0 expression []

right-one : {p q : Part} → ◌≡◌ {A = Result Part ℕ} (Ok p) (Ok q) → p ≡ q
right-one e = cc

wrong_one : {p q : ℕ} → ◌≡◌ {A = Result Part ℕ} (Err p) (Err q) → p ≡ q
wrong_one e = cc

clash : {A : Type 0} {p : Part} {q : ℕ} → ◌≡◌ {A = Result Part ℕ} (Ok p) (Err q) → A
clash e = let z : ◌≡◌ {A = ℕ} 0 1 = cc in absurd (omega arith)

pub understood : (text : List ℕ) {part : Part} → Ok part ≡ whole_read text (read_expression text) → Understood text part
unfolding whole_read
understood text {part} d = go (read_expression text) refl
  where
    go : (x : Reading) → read_expression text ≡ x → Understood text part
    go (right e) c = record { expression = e; reads = c; is = right-one (d ∙ ap (whole_read text) c) }
    go (wrong p) c = clash (d ∙ ap (whole_read text) c)

pub mistaken : (text : List ℕ) {place : ℕ} → Err place ≡ whole_read text (read_expression text) → read_expression text ≡ wrong place
unfolding whole_read
mistaken text {place} d = go (read_expression text) refl
  where
    go : (x : Reading) → read_expression text ≡ x → read_expression text ≡ wrong place
    go (right e) c = clash (sym (d ∙ ap (whole_read text) c))
    go (wrong p) c = c ∙ ap wrong (sym (wrong_one (d ∙ ap (whole_read text) c)))

-- ---- what was found

module _ (tag kind : ℕ) {e : Expression} {part : Part} {takers follow : List ℕ} (h : Holds e part takers follow) (out : List ℕ) where
  pub many_positions : 64 < part.end → compile_right tag kind e out ≡ print_refused LargeExpression 0 out
  unfolding refused_if
  many_positions l = rw (lt-ltb 64 (size e) (omega (arith, h.end)))

  pub too_deep : part.end ≤ 64 → 16 < part.depth → compile_right tag kind e out ≡ print_refused LargeExpression 0 out
  unfolding refused_if
  too_deep k l = rw (le-ltb 64 (size e) (omega (arith, h.end)), lt-ltb 16 (depth e) (omega (arith, h.deep)))

  module _ (k : part.end ≤ 64) (l : part.depth ≤ 16) (wide : length takers ≡ 256) (long : length follow ≡ 64) where
    small : is_too_large e ≡ false
    small = rw (le-ltb 64 (size e) (omega (arith, h.end)), le-ltb 16 (depth e) (omega (arith, h.deep)))

    pub many_sets_lem : are_too_many part.first follow takers ≡ true → compile_right tag kind e out ≡ print_refused TooManySets 0 out
    unfolding refused_if
    many_sets_lem m =
        let t : many_sets e ≡ true = rw (sym h.firsts, sym (h.follow_all long), sym (h.takers_all wide)) m in
        rw (small, t)

    pub found_all : {n : ℕ} {sets targets : List ℕ} → Found part.first follow takers n sets targets
        → compile_right tag kind e out
        ≡ written (table_bytes tag kind (finals_of part.last part.empty (take n sets)) (rows_of part.first follow takers)) out
    unfolding refused_if compiled
    found_all f =
        let t : many_sets e ≡ false = rw (sym h.firsts, sym (h.follow_all long), sym (h.takers_all wide)) f.enough in
        rw (small, t, f.known, h.lasts, h.empty, h.firsts, h.follow_all long, h.takers_all wide)

-- the rows stand in the targets
pub found_stood : {firsts : ℕ} {follow takers : List ℕ} {n : ℕ} {sets targets : List ℕ} → length takers ≡ 256
    → Found firsts follow takers n sets targets → Stood (rows_of firsts follow takers) targets n
found_stood {firsts} {follow} {takers} size f =
    record {
      number = table-length firsts follow takers ∙ ap suc (sym f.count);
      wide = widths (rows_of firsts follow takers) (table_rows firsts follow takers f.enough size).each;
      laid = f.rows;
    }
  where
    widths : (rows : List (List ℕ)) → All FitRow rows → All (λ (row : List ℕ). length row ≡ 256) rows
    widths [] h = tt
    widths (row ∷ rows) (p, h) = (p.size, widths rows h)

pub found_few : {firsts : ℕ} {follow takers : List ℕ} {n : ℕ} {sets targets : List ℕ} → Found firsts follow takers n sets targets → n ≤ 254
found_few {firsts} {follow} {takers} f = omega (arith, f.count, states_few firsts follow takers f.enough)

pub stood_rows : {rows : List (List ℕ)} {targets : List ℕ} {count : ℕ} → Stood rows targets count → rows ≡ rowsIn targets (count + 1)
stood_rows {rows} {targets} {count} s = tabled_rows (record { count = s.number ∙ omega arith; wide = s.wide; laid = sym s.laid })
