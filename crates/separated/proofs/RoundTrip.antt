-- Tokens printed with separators are read back. Assumes nothing.
use mathlib.Core.Path.{◌≡◌, refl, sym, ap, ◌∙◌}
use mathlib.Core.Logic.{◌↔◌}
use mathlib.Core.Bool.{Bool, true, false, ◌||◌}
use mathlib.Core.Option.{some}
use mathlib.Core.List.{List, [], ◌∷◌, ◌++◌}
use Prim.Native.Nat.{ℕ}
use lib.Dec.{eqb}
use Rattle.automaton.specs.Choice.{All}
use Rattle.automaton.specs.Rule.{Rule}
use Rattle.automaton.proofs.Tests.{clash, or_false}
use Rattle.book.specs.Valid.{ValidRules}
use Rattle.longest_match.specs.Lexer.{Token, first_match, extends, lex, join, Alone, Printable}
use Rattle.longest_match.proofs.First.{nothing}
use Rattle.longest_match.proofs.Choosing.{extends_true}
use Rattle.longest_match.proofs.Lexing.{printed_lexes}
use Rattle.record.specs.declared.TokenRecord.{TokenRecord}
use Rattle.record.specs.Tokens.{records_of, token_in, tokens_in, tokens_of}
use Rattle.token_list.proofs.Alone.{alone_first}
use Rattle.printer.proofs.RoundTrip.{valid_empty}
use Rattle.shared_bytes.specs.Kinds.{separates}
use Rattle.spacing.specs.Separators.{drop_separators, meaning, follows, put, separated, spelled}
use Rattle.separated.proofs.Sides.{Side, Disjoint, side_unique, token_side, read_on_side}
use Rattle.separated.proofs.Unrefused.{Taken, CallPasses}

-- a token that is cut as itself, of separator kind or not
pub record OfKind (rules : List Rule) (separator : Bool) (t : Token) : Type 0 where
  pub alone : Alone rules t
  pub kind : separates rules t.tag ≡ separator

false_of : (x : Bool) → (x ≡ true → ⊥) → x ≡ false
false_of true h = absurd (h refl)
false_of false h = refl

module _ {rules : List Rule} (v : ValidRules rules) (d : Disjoint rules) where
  -- a text on one side is not read on into bytes on the other
  parted : (s q : Bool) (w x rest : List ℕ) (k l : ℕ) → (s ≡ q → ⊥) → first_match rules w ≡ some k → first_match rules x ≡ some l
      → All (Side rules s) w → All (Side rules q) x → extends rules w (x ++ rest) ≡ false
  parted s q w [] rest k l n f g hw hx = nothing (valid_empty v) g
  parted s q w (c ∷ x) rest k l n f g hw hx = false_of _ (λ e.
      let y = extends_true rules w (c ∷ x ++ rest) e in
      let m = read_on_side v d s w (y.first ∷ y.more) f hw y.matched in
      let z : y.first ≡ c = cc in
      n (side_unique d (rw z at m.0) hx.0))

  tokens-apart : (t u : Token) (rest : List ℕ) → Alone rules t → Alone rules u → (separates rules t.tag ≡ separates rules u.tag → ⊥)
      → extends rules t.bytes (u.bytes ++ rest) ≡ false
  tokens-apart t u rest a b n = parted _ _ t.bytes u.bytes rest _ _ n a b (token_side v t a) (token_side v u b)

  module _ {sep : Token} (mode : ℕ) (hs : OfKind rules true sep) where
    put_printable : (t u : Token) (us : List Token) (c : Bool) → eqb (meaning mode) 1 || extends rules t.bytes (join (u ∷ us)) ≡ c
        → OfKind rules false t → OfKind rules false u → Printable rules (u ∷ us) → Printable rules (t ∷ put c sep (u ∷ us))
    put_printable t u us true c p q h = (
      p.alone,
      tokens-apart t sep _ p.alone hs.alone (λ e. clash hs.kind (sym e ∙ p.kind)),
      (hs.alone, tokens-apart sep u _ hs.alone q.alone (λ e. clash hs.kind (e ∙ q.kind)), h),
    )
    put_printable t u us false c p q h = (p.alone, (or_false (eqb (meaning mode) 1) _ c).1, h)

    separated_printable : (ts : List Token) → All (OfKind rules false) ts → Printable rules (separated rules sep mode ts)
    unfolding separated follows extends
    separated_printable [] h = tt
    separated_printable (t ∷ []) h = (h.0.alone, refl, tt)
    separated_printable (t ∷ u ∷ us) (p, h) =
        let rest = separated rules sep mode us in
        put_printable t u (put (follows rules mode u rest) sep rest) _ refl p h.0 (separated_printable (u ∷ us) h)

    drop-put : (c : Bool) (t : Token) (us ts : List Token) → separates rules t.tag ≡ false → drop_separators rules us ≡ ts
        → drop_separators rules (t ∷ put c sep us) ≡ t ∷ ts
    unfolding drop_separators
    drop-put true t us ts e h = rw (e, hs.kind, h)
    drop-put false t us ts e h = rw (e, h)

    drop-separated : (ts : List Token) → All (OfKind rules false) ts → drop_separators rules (separated rules sep mode ts) ≡ ts
    unfolding separated drop_separators
    drop-separated [] h = refl
    drop-separated (t ∷ ts) (p, h) = drop-put (follows rules mode t (separated rules sep mode ts)) t _ ts p.kind (drop-separated ts h)

    -- what is printed is cut into the tokens and their separators, and no rest
    separated_lexes : (ts : List Token) → All (OfKind rules false) ts
        → lex rules (join (separated rules sep mode ts)) ≡ record { tokens = separated rules sep mode ts; rest = [] }
    separated_lexes ts h = printed_lexes rules (separated rules sep mode ts) (valid_empty v) (separated_printable ts h)

    separated_back : (ts : List Token) → All (OfKind rules false) ts
        → drop_separators rules (lex rules (join (separated rules sep mode ts))).tokens ≡ ts
    separated_back ts h = rw (separated_lexes ts h) (drop-separated ts h)

-- ---- a call that passes the checks

taken_kind : {rules : List Rule} {pool : List ℕ} {separator : Bool} {r : TokenRecord} → Taken rules pool separator r
    → OfKind rules separator (token_in pool r)
taken_kind {rules} t = record { alone = alone_first rules _ _ t.faultless.alone; kind = t.kind }

taken_kinds : (rules : List Rule) (pool : List ℕ) (rs : List TokenRecord) → All (Taken rules pool false) rs
    → All (OfKind rules false) (tokens_in pool rs)
unfolding tokens_in
taken_kinds rules pool [] h = tt
taken_kinds rules pool (r ∷ rs) (t, h) = (taken_kind t, taken_kinds rules pool rs h)

module _ {rules : List Rule} (v : ValidRules rules) {sep : TokenRecord} {mode : ℕ} {records pool : List ℕ}
    (p : CallPasses rules sep mode records pool) where
  pub disjoint : Disjoint rules
  disjoint = record { apart = p.unshared }

  pub spacer : OfKind rules true (token_in pool sep)
  spacer = taken_kind p.separator

  pub plain : All (OfKind rules false) (tokens_of records pool)
  plain = taken_kinds rules pool (records_of records) p.tokens

  -- what is put together is cut without a rest, and gives the list back
  pub spelled_cut : lex rules (spelled rules sep mode records pool)
      ≡ record { tokens = separated rules (token_in pool sep) mode (tokens_of records pool); rest = [] }
  spelled_cut = separated_lexes v disjoint mode spacer (tokens_of records pool) plain

  pub spelled_back : drop_separators rules (lex rules (spelled rules sep mode records pool)).tokens ≡ tokens_of records pool
  spelled_back = separated_back v disjoint mode spacer (tokens_of records pool) plain

-- and is put together of one list only
pub spelled_injective : {rules : List Rule} → ValidRules rules → {mode : ℕ}
    → {sep : TokenRecord} {records pool : List ℕ} → CallPasses rules sep mode records pool
    → {sep₁ : TokenRecord} {records₁ pool₁ : List ℕ} → CallPasses rules sep₁ mode records₁ pool₁ → token_in pool sep ≡ token_in pool₁ sep₁
    → (tokens_of records pool ≡ tokens_of records₁ pool₁) ↔ (spelled rules sep mode records pool ≡ spelled rules sep₁ mode records₁ pool₁)
spelled_injective {rules} v p p₁ same = (
  λ e. rw (same, e),
  λ e. sym (spelled_back v p) ∙ ap (λ (x : List ℕ). drop_separators rules (lex rules x).tokens) e ∙ spelled_back v p₁,
)
