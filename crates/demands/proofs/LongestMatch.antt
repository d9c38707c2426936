-- `lex` is the one cut that the longest-match rule allows. Assumes nothing.
use mathlib.Core.Path.{◌≡◌, refl, sym, ap, ◌∙◌, subst}
use mathlib.Core.Option.{Option, none, some}
use mathlib.Core.List.{List, [], ◌∷◌}
use Prim.Native.Nat.{ℕ, zero, suc, ◌<◌, ◌≤◌}
use native.Mathlib.Omega.{arith}
use lib.ListN.{length, take, drop, length-take}
use Rattle.automaton.specs.Rule.{Rule}
use Rattle.book.specs.Valid.{Distinct}
use Rattle.longest_match.specs.Lexer.{Token, Found, Lexed, first_match, choose, proceed, lex}
use Rattle.longest_match.proofs.Choosing.{chosen_shorter, chosen_take, chosen_drop, choose_some, choose_none}
use Rattle.longest_match.proofs.Lexing.{lex_unfolds}
use Rattle.longest_match.proofs.Picking.{within_none, within_at}
use Rattle.longest_match.proofs.Cutting.{lex_stop}
use Rattle.token_list.proofs.Alone.{alone_first, first_alone}
use Rattle.demands.specs.Words.{Unmatched, Longest, LongestMatch}

pub unmatched_none : (rules : List Rule) (w : List ℕ) → Unmatched rules w → first_match rules w ≡ none
unfolding first_match
unmatched_none [] w h = refl
unmatched_none (r ∷ rs) w (m, h) = rw (m, unmatched_none rs w h)

-- ---- what `lex` gives is by longest match

module _ (rules : List Rule) (distinct : Distinct rules) where
  chosen_longest : (text : List ℕ) (f : Found) → choose rules text ≡ some f → Longest rules text f.token
  chosen_longest text f e =
      let c = choose_some rules text f e in
      record {
        here = sym (chosen_take rules text f e);
        some_byte = c.moves;
        earliest = first_alone rules f.token.tag f.token.bytes distinct c.alone;
        longest = c.longest;
      }

  abbrev By : List ℕ → Lexed → Type 0
  By text cut = LongestMatch rules text cut.tokens cut.rest

  turn : (text : List ℕ) → ((x : List ℕ) → length x < length text → By x (lex rules x)) → (o : Option Found) → choose rules text ≡ o
      → By text (proceed o text (lex rules))
  turn text ih none e = (refl, choose_none rules text e)
  turn text ih (some f) e = (
    chosen_longest text f e,
    subst (λ (x : List ℕ). LongestMatch rules x (lex rules f.rest).tokens (lex rules f.rest).rest) (chosen_drop rules text f e)
        (ih f.rest (chosen_shorter rules text f e)),
  )

  within : (n : ℕ) (text : List ℕ) → length text ≤ n → By text (lex rules text)
  within zero text l = subst (By text) (sym (lex_unfolds rules text)) (turn text (λ x m. absurd (omega arith)) _ refl)
  within (suc n) text l = subst (By text) (sym (lex_unfolds rules text)) (turn text (λ x m. within n x (omega arith)) _ refl)

  pub lex-longest : (text : List ℕ) → LongestMatch rules text (lex rules text).tokens (lex rules text).rest
  lex-longest text = within (length text) text (omega arith)

-- ---- and nothing else is

longest_chosen : (rules : List Rule) (text : List ℕ) (t : Token) → Longest rules text t
    → choose rules text ≡ some (record { token = t; rest = drop (length t.bytes) text })
unfolding choose
longest_chosen rules text t h =
    let m : first_match rules (take (length t.bytes) text) ≡ some t.tag = rw h.here (alone_first rules t.tag t.bytes h.earliest) in
    within_at rules text (length text) (length t.bytes) t.tag h.some_byte (fits text t.bytes h.here) m
    (λ n p l. unmatched_none rules (take n text) (h.longest n p l))
    ∙ rw h.here
  where
    fits : (text w : List ℕ) → take (length w) text ≡ w → length w ≤ length text
    fits text w e = omega (arith, simp length-take at (ap length e))

none_chosen : (rules : List Rule) (text : List ℕ) → ((n : ℕ) → 0 < n → n ≤ length text → Unmatched rules (take n text))
    → choose rules text ≡ none
unfolding choose
none_chosen rules text h = within_none rules text (length text) (λ n p l. unmatched_none rules (take n text) (h n p l))

pub longest-lex : (rules : List Rule) (text : List ℕ) (ts : List Token) (rest : List ℕ) → LongestMatch rules text ts rest
    → lex rules text ≡ record { tokens = ts; rest = rest }
longest-lex rules text [] rest (e, h) = lex_stop rules text (none_chosen rules text h) ∙ rw e
longest-lex rules text (t ∷ ts) rest (h, k) =
    let q = longest-lex rules (drop (length t.bytes) text) ts rest k in
    lex_unfolds rules text ∙ rw (longest_chosen rules text t h, q)
