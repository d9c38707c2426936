-- What a turn cuts and pays. Assumes nothing.
use mathlib.Core.Path.{◌≡◌, refl, sym, ◌∙◌}
use mathlib.Core.Bool.{Bool, true, false}
use mathlib.Core.Option.{Option, none, some}
use mathlib.Core.List.{List, [], ◌∷◌, ◌++◌, append_assoc}
use Prim.Native.Nat.{ℕ, zero, suc, ◌+◌, ◌-◌, ◌<◌, ◌≤◌}
use native.Mathlib.Omega.{arith}
use lib.Dec.{ltb}
use lib.ListN.{length}
use borrow.Author.Tests.{lt-ltb, le-ltb, ltb-true, ltb-false}
use Rattle.automaton.specs.Choice.{if, All}
use Rattle.automaton.specs.Rule.{Rule, Sound}
use Rattle.automaton.proofs.Tests.{clash}
use Rattle.longest_match.specs.Lexer.{Token, Found, choose_within, choose, lex, join}
use Rattle.longest_match.proofs.Choosing.{chosen_splits, chosen_shorter, choose_some}
use Rattle.longest_match.proofs.Lexing.{lex_unfolds}
use Rattle.turns.specs.Reach.{reach}
use Rattle.turns.specs.Turn.{Turn, spent, proceed, turn_for, turn}
use Rattle.turns.proofs.Reaching.{reach-end, reach-covers}

-- ---- its ways beside `spent`

-- the reach is paid and no token begins
abbrev pub done : List ℕ → ℕ → Turn
done text paid = record { tokens = []; rest = text; examined = paid; finished = true }

-- the reach is paid for a token, and the turn goes on as t
abbrev pub moved : ℕ → Found → Turn → Turn
moved paid f t = record { tokens = f.token ∷ t.tokens; rest = t.rest; examined = paid + t.examined; finished = t.finished }

-- ---- a turn unfolds: nobody opens its definition again

proceed_same : (rules : List Rule) (text : List ℕ) (paid : ℕ) (o : Option Found) → choose rules text ≡ o → (go ho : List ℕ → Turn)
    → ((x : List ℕ) → length x < length text → go x ≡ ho x) → proceed o text paid go ≡ proceed o text paid ho
proceed_same rules text paid none e go ho h = refl
proceed_same rules text paid (some f) e go ho h = rw (h f.rest (chosen_shorter rules text f e))

same : (rules : List Rule) (text : List ℕ) (left : ℕ) (go ho : List ℕ → Turn) → ((x : List ℕ) → length x < length text → go x ≡ ho x)
    → if (ltb left (reach rules text)) (spent text) (proceed (choose rules text) text (reach rules text) go)
    ≡ if (ltb left (reach rules text)) (spent text) (proceed (choose rules text) text (reach rules text) ho)
same rules text left go ho h = rw (proceed_same rules text (reach rules text) (choose rules text) refl go ho h)

-- nothing is left of the text
finished_nil : (rules : List Rule) (left : ℕ) (go : List ℕ → Turn)
    → if (ltb left (reach rules [])) (spent []) (proceed (choose rules []) [] (reach rules []) go)
    ≡ done [] 0
unfolding choose choose_within
finished_nil rules left go = rw (reach-end rules, le-ltb left 0 (omega arith))

fuel : (rules : List Rule) (n k : ℕ) (text : List ℕ) (left : ℕ) → length text ≤ n → length text ≤ k
    → turn_for n rules text left ≡ turn_for k rules text left
unfolding turn_for
fuel rules zero zero text left h j = refl
fuel rules zero (suc k) [] left h j = sym (finished_nil rules left _)
fuel rules zero (suc k) (b ∷ text) left h j = absurd (omega arith)
fuel rules (suc n) zero [] left h j = finished_nil rules left _
fuel rules (suc n) zero (b ∷ text) left h j = absurd (omega arith)
fuel rules (suc n) (suc k) text left h j = same rules text left _ _ (λ x l. fuel rules n k x _ (omega arith) (omega arith))

abbrev pub unfolded : List Rule → List ℕ → ℕ → Turn
unfolded rules text left =
    if (ltb left (reach rules text)) (spent text)
    (proceed (choose rules text) text (reach rules text) (λ (rest : List ℕ). turn rules rest (left - reach rules text)))

pub turn_unfolds : (rules : List Rule) (text : List ℕ) (left : ℕ) → turn rules text left ≡ unfolded rules text left
unfolding turn turn_for
turn_unfolds rules [] left = sym (finished_nil rules left _)
turn_unfolds rules (b ∷ text) left =
    same rules (b ∷ text) left _ _ (λ x l. fuel rules (length text) (length x) x _ (omega arith) (omega arith))

-- ---- its three ways

module _ (rules : List Rule) (text : List ℕ) (left : ℕ) where
  pub turn-spent : left < reach rules text → turn rules text left ≡ spent text
  turn-spent l = rw (turn_unfolds rules text left, lt-ltb _ _ l)

  module _ (l : reach rules text ≤ left) where
    pub turn-done : choose rules text ≡ none
        → turn rules text left ≡ done text (reach rules text)
    turn-done e = rw (turn_unfolds rules text left, le-ltb _ _ l, e)

    pub turn_more : (f : Found) → choose rules text ≡ some f
        → turn rules text left ≡ moved (reach rules text) f (turn rules f.rest (left - reach rules text))
    turn_more f e = rw (turn_unfolds rules text left, le-ltb _ _ l, e)

-- at the end of the text it is finished, whatever is left
pub turn_end : (rules : List Rule) (left : ℕ) → turn rules [] left ≡ done [] 0
turn_end rules left = turn_unfolds rules [] left ∙ finished_nil rules left _

-- ---- by its ways: what holds of a turn that ends, and of one that goes on if it holds of what follows, holds of every turn

module _ (rules : List Rule) (P : List ℕ → ℕ → Turn → Type 0)
    (when-spent : (text : List ℕ) (left : ℕ) → left < reach rules text → P text left (spent text))
    (when-done : (text : List ℕ) (left : ℕ) → reach rules text ≤ left → choose rules text ≡ none
    → P text left (done text (reach rules text)))
    (when-moved : (text : List ℕ) (left : ℕ) (f : Found) → reach rules text ≤ left → choose rules text ≡ some f → (t : Turn)
    → P f.rest (left - reach rules text) t → P text left (moved (reach rules text) f t)) where
  by_step : (text : List ℕ) (left : ℕ) → ((x : List ℕ) (k : ℕ) → length x < length text → P x k (turn rules x k))
      → P text left (turn rules text left)
  by_step text left later = go (ltb left (reach rules text)) refl (choose rules text) refl
    where
      go : (b : Bool) → ltb left (reach rules text) ≡ b → (o : Option Found) → choose rules text ≡ o → P text left (turn rules text left)
      go true e o q = let l = ltb-true _ _ e in rw (turn-spent rules text left l) (when-spent text left l)
      go false e none q = let l = ltb-false _ _ e in rw (turn-done rules text left l q) (when-done text left l q)
      go false e (some f) q =
          let l = ltb-false _ _ e in
          rw (turn_more rules text left l f q) (when-moved text left f l q _ (later f.rest _ (chosen_shorter rules text f q)))

  by_fuel : (n : ℕ) (text : List ℕ) (left : ℕ) → length text ≤ n → P text left (turn rules text left)
  by_fuel zero text left h = by_step text left (λ x k l. absurd (omega arith))
  by_fuel (suc n) text left h = by_step text left (λ x k l. by_fuel n x k (omega arith))

  pub by_ways : (text : List ℕ) (left : ℕ) → P text left (turn rules text left)
  by_ways text left = by_fuel (length text) text left (omega arith)

-- ---- how much there is

-- every token has a byte
pub turn_short : (rules : List Rule) (text : List ℕ) (left : ℕ) → length (turn rules text left).tokens ≤ length text
turn_short rules = by_ways rules (λ text left t. length t.tokens ≤ length text) (λ text left l. omega arith) (λ text left l e. omega arith)
    (λ text left f l e t few. omega (arith, chosen_shorter rules text f e))

-- and its bytes are paid
pub turn_paid : (n : ℕ) (rules : List Rule) → All (Sound n) rules → (text : List ℕ) (left : ℕ)
    → length (turn rules text left).tokens ≤ left
turn_paid n rules sound = by_ways rules (λ text left t. length t.tokens ≤ left) (λ text left l. omega arith) (λ text left l e. omega arith)
    (λ text left f l e t few. omega (arith, reach-covers n rules sound text f e, (choose_some rules text f e).moves))

-- ---- what it pays, and where it ends

pub record Ends (rules : List Rule) (left : ℕ) (t : Turn) : Type 0 where
  pub affords : t.examined ≤ left
  pub finishes : t.finished ≡ true → choose rules t.rest ≡ none
  pub spends : t.finished ≡ false → left - t.examined < reach rules t.rest

pub turn-ends : (rules : List Rule) (text : List ℕ) (left : ℕ) → Ends rules left (turn rules text left)
turn-ends rules = by_ways rules (λ text left t. Ends rules left t)
    (λ text left l. record { affords = omega arith; finishes = λ e. clash e refl; spends = λ e. omega arith })
    (λ text left l e. record { affords = l; finishes = λ q. e; spends = λ q. clash refl q })
    (λ text left f l e t ends. record {
      affords = omega (arith, ends.affords);
      finishes = ends.finishes;
      spends = λ q. omega (arith, ends.spends q, ends.affords);
    })

-- ---- it is the beginning of the cut

-- its tokens are the first of the cut, which goes on with that of the rest
pub record Begins (rules : List Rule) (text : List ℕ) (t : Turn) : Type 0 where
  pub tokens-first : (lex rules text).tokens ≡ t.tokens ++ (lex rules t.rest).tokens
  pub same_rest : (lex rules text).rest ≡ (lex rules t.rest).rest
  pub joined : join t.tokens ++ t.rest ≡ text

pub turn_begins : (rules : List Rule) (text : List ℕ) (left : ℕ) → Begins rules text (turn rules text left)
turn_begins rules = by_ways rules (λ text left t. Begins rules text t)
    (λ text left l. record { tokens-first = refl; same_rest = refl; joined = refl })
    (λ text left l e. record { tokens-first = refl; same_rest = refl; joined = refl })
    (λ text left f l e t begins.
    let more : lex rules text ≡ record { tokens = f.token ∷ (lex rules f.rest).tokens; rest = (lex rules f.rest).rest } =
    rw (lex_unfolds rules text, e) in
    record {
      tokens-first = rw (more, begins.tokens-first);
      same_rest = rw (more, begins.same_rest);
      joined = rw (append_assoc, begins.joined, chosen_splits rules text f e);
    })

-- ---- a larger budget

-- the tokens of the smaller turn are the first of the larger one's, and a finished turn is the same
pub record Larger (small large : Turn) : Type 0 where
  pub more : List Token
  pub extends : large.tokens ≡ small.tokens ++ more
  pub settled : small.finished ≡ true → large ≡ small

pub turn-larger : (rules : List Rule) (text : List ℕ) (left : ℕ)
    → (large : ℕ) → left ≤ large → Larger (turn rules text left) (turn rules text large)
turn-larger rules = by_ways rules (λ text left t. (large : ℕ) → left ≤ large → Larger t (turn rules text large))
    (λ text left l large m. record { more = _; extends = refl; settled = λ e. clash e refl })
    (λ text left l e large m.
    let same = turn-done rules text large (omega arith) e in
    record { more = []; extends = rw same; settled = λ q. same })
    (λ text left f l e t larger large m.
    let same = turn_more rules text large (omega arith) f e in
    let rest = larger (large - reach rules text) (omega arith) in
    record {
      more = rest.more;
      extends = rw (same, rest.extends);
      settled = λ q. rw (same, rest.settled q);
    })
