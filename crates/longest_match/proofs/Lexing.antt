-- What `lex` does, and how it and `join` are inverse. Assumes nothing.
use mathlib.Core.Path.{◌≡◌, refl, sym, ap, ◌∙◌, subst}
use mathlib.Core.Bool.{false}
use mathlib.Core.Option.{Option, none, some}
use mathlib.Core.List.{List, [], ◌∷◌, ◌++◌, append_assoc}
use Prim.Native.Nat.{ℕ, zero, suc, ◌+◌, ◌-◌, ◌≤◌, ◌<◌}
use native.Mathlib.Omega.{arith}
use lib.ListN.{length, drop, length-append}
use lib.Seq.{drop_at}
use Rattle.automaton.specs.Choice.{All}
use Rattle.automaton.specs.Rule.{Rule}
use Rattle.automaton.proofs.Tests.{all_middle}
use Rattle.longest_match.specs.Lexer.{Token, Found, Lexed, first_match, choose_within, choose, proceed, lex_for, lex, join}
use Rattle.longest_match.specs.Lexer.{extends, Alone, Printable}
use Rattle.longest_match.proofs.First.{earliest}
use Rattle.longest_match.proofs.Choosing.{choose_at, chosen_splits, chosen_shorter, choose_some, extends-front}

-- ---- the lexer unfolds: nobody opens its definition again

proceed_same : (rules : List Rule) (text : List ℕ) (o : Option Found) → choose rules text ≡ o → (go ho : List ℕ → Lexed)
    → ((x : List ℕ) → length x < length text → go x ≡ ho x) → proceed o text go ≡ proceed o text ho
proceed_same rules text none e go ho h = refl
proceed_same rules text (some f) e go ho h = rw (h f.rest (chosen_shorter rules text f e))

fuel : (rules : List Rule) (n k : ℕ) (text : List ℕ) → length text ≤ n → length text ≤ k → lex_for n rules text ≡ lex_for k rules text
unfolding lex_for choose choose_within
fuel rules zero zero text h j = refl
fuel rules zero (suc k) [] h j = refl
fuel rules zero (suc k) (b ∷ text) h j = absurd (omega arith)
fuel rules (suc n) zero [] h j = refl
fuel rules (suc n) zero (b ∷ text) h j = absurd (omega arith)
fuel rules (suc n) (suc k) text h j =
    proceed_same rules text _ refl _ _ (λ x l. fuel rules n k x (omega arith) (omega arith))

pub lex_unfolds : (rules : List Rule) (text : List ℕ) → lex rules text ≡ proceed (choose rules text) text (lex rules)
unfolding lex lex_for choose choose_within
lex_unfolds rules [] = refl
lex_unfolds rules (b ∷ text) = proceed_same rules (b ∷ text) _ refl _ _
    (λ x l. fuel rules (length text) (length x) x (omega arith) (omega arith))

-- ---- tokens and rest, joined, are the text

pub join-append : (ts us : List Token) → join (ts ++ us) ≡ join ts ++ join us
join-append [] us = refl
join-append (t ∷ ts) us = rw (join-append ts us, append_assoc)

joins_proceed : (rules : List Rule) (text : List ℕ) (o : Option Found) → choose rules text ≡ o → (go : List ℕ → Lexed)
    → ((x : List ℕ) → join (go x).tokens ++ (go x).rest ≡ x) → join (proceed o text go).tokens ++ (proceed o text go).rest ≡ text
joins_proceed rules text none e go h = refl
joins_proceed rules text (some f) e go h = rw (append_assoc, h f.rest, chosen_splits rules text f e)

joins_for : (rules : List Rule) (n : ℕ) (text : List ℕ) → join (lex_for n rules text).tokens ++ (lex_for n rules text).rest ≡ text
unfolding lex_for
joins_for rules zero text = refl
joins_for rules (suc n) text = joins_proceed rules text _ refl _ (joins_for rules n)

pub joins : (rules : List Rule) (text : List ℕ) → join (lex rules text).tokens ++ (lex rules text).rest ≡ text
unfolding lex
joins rules text = joins_for rules (length text) text

-- ---- how much there is

few_proceed : (rules : List Rule) (text : List ℕ) (o : Option Found) → choose rules text ≡ o → (go : List ℕ → Lexed)
    → ((x : List ℕ) → length (go x).tokens ≤ length x) → length (proceed o text go).tokens ≤ length text
few_proceed rules text none e go h = omega arith
few_proceed rules text (some f) e go h = omega (arith, h f.rest, chosen_shorter rules text f e)

few_for : (rules : List Rule) (n : ℕ) (text : List ℕ) → length (lex_for n rules text).tokens ≤ length text
unfolding lex_for
few_for rules zero text = omega arith
few_for rules (suc n) text = few_proceed rules text _ refl _ (few_for rules n)

-- no more tokens than bytes
pub lex_few : (rules : List Rule) (text : List ℕ) → length (lex rules text).tokens ≤ length text
unfolding lex
lex_few rules text = few_for rules (length text) text

pub lex_lengths : (rules : List Rule) (text : List ℕ) → length (join (lex rules text).tokens) + length (lex rules text).rest
    ≡ length text
lex_lengths rules text = simp length-append at (ap length (joins rules text))

-- the rest is the part of the text from the rest's place on
pub rest-drop : (rules : List Rule) (text : List ℕ) → (lex rules text).rest ≡ drop (length text - length (lex rules text).rest) text
rest-drop rules text =
    let l = lex_lengths rules text in
    let q : length (join (lex rules text).tokens) ≡ length text - length (lex rules text).rest = omega arith in
    sym (ap (λ (t : List ℕ). drop (length text - length (lex rules text).rest) t) (sym (joins rules text))
    ∙ drop_at (join (lex rules text).tokens) (lex rules text).rest _ q)

-- ---- what can be printed is read back

pub printed_lexes : (rules : List Rule) (ts : List Token) → first_match rules [] ≡ none → Printable rules ts
    → lex rules (join ts) ≡ record { tokens = ts; rest = [] }
unfolding lex lex_for
printed_lexes rules [] e h = refl
printed_lexes rules (t ∷ ts) e (a, x, h) =
    rw (lex_unfolds rules (t.bytes ++ join ts), choose_at rules t.bytes (join ts) t.tag e a x, printed_lexes rules ts e h)

-- ---- what is cut can be printed, with a rest or without

-- every token is cut as itself, and none is read on into those after it and the rest
abbrev pub Cuts : List Rule → List Token → List ℕ → Type 0
Cuts rules [] rest = Unit {0}
Cuts rules (t ∷ ts) rest = Alone rules t × (extends rules t.bytes (join ts ++ rest) ≡ false) × Cuts rules ts rest

cuts_proceed : (rules : List Rule) (text : List ℕ) (o : Option Found) → choose rules text ≡ o → (go : List ℕ → Lexed)
    → ((x : List ℕ) → join (go x).tokens ++ (go x).rest ≡ x) → ((x : List ℕ) → Cuts rules (go x).tokens (go x).rest)
    → Cuts rules (proceed o text go).tokens (proceed o text go).rest
cuts_proceed rules text none e go j h = tt
cuts_proceed rules text (some f) e go j h =
    let g = choose_some rules text f e in
    (g.alone, rw (j f.rest) g.stops, h f.rest)

cuts_for : (rules : List Rule) (n : ℕ) (text : List ℕ) → Cuts rules (lex_for n rules text).tokens (lex_for n rules text).rest
unfolding lex_for
cuts_for rules zero text = tt
cuts_for rules (suc n) text = cuts_proceed rules text _ refl _ (joins_for rules n) (cuts_for rules n)

pub lexed_cuts : (rules : List Rule) (text : List ℕ) → Cuts rules (lex rules text).tokens (lex rules text).rest
unfolding lex
lexed_cuts rules text = cuts_for rules (length text) text

-- what holds of the tags of all rules holds of those of a cut
cuts_tags : (P : ℕ → Type 0) (rules : List Rule) → All (λ (r : Rule). P r.tag) rules → (ts : List Token) (rest : List ℕ)
    → Cuts rules ts rest → All (λ (t : Token). P t.tag) ts
cuts_tags P rules h [] rest c = tt
cuts_tags P rules h (t ∷ ts) rest (a, stops, c) =
    let f = earliest rules t.bytes t.tag a in
    let p = all_middle (λ (r : Rule). P r.tag) f.before f.rule f.behind (subst (All (λ (r : Rule). P r.tag)) f.splits h) in
    (subst P f.tagged p, cuts_tags P rules h ts rest c)

pub lex_tags : (P : ℕ → Type 0) (rules : List Rule) → All (λ (r : Rule). P r.tag) rules → (text : List ℕ)
    → All (λ (t : Token). P t.tag) (lex rules text).tokens
lex_tags P rules h text = cuts_tags P rules h (lex rules text).tokens (lex rules text).rest (lexed_cuts rules text)

cuts_printable : (rules : List Rule) (ts : List Token) (rest : List ℕ) → Cuts rules ts rest → Printable rules ts
cuts_printable rules [] rest c = tt
cuts_printable rules (t ∷ ts) rest (a, stops, c) =
    (a, extends-front rules t.bytes (join ts) rest stops, cuts_printable rules ts rest c)

pub lexed_printable : (rules : List Rule) (text : List ℕ) → Printable rules (lex rules text).tokens
lexed_printable rules text = cuts_printable rules (lex rules text).tokens (lex rules text).rest (lexed_cuts rules text)

-- the beginning of a list that can be printed can be printed
pub printable_first : (rules : List Rule) (ts us : List Token) → Printable rules (ts ++ us) → Printable rules ts
printable_first rules [] us p = tt
printable_first rules (t ∷ ts) us (a, stops, p) =
    (a, extends-front rules t.bytes (join ts) (join us) (rw (join-append ts us) at stops), printable_first rules ts us p)

-- ---- different lists are printed differently

pub join_injective : (rules : List Rule) (ts us : List Token) → first_match rules [] ≡ none → Printable rules ts → Printable rules us
    → join ts ≡ join us → ts ≡ us
join_injective rules ts us e p q j =
    let a = printed_lexes rules ts e p in let b = printed_lexes rules us e q in
    ap (λ (l : Lexed). l.tokens) (sym a ∙ ap (lex rules) j ∙ b)
