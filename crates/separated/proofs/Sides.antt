-- Where no byte is used by both kinds of rules, each byte of a token is on the side of the token's kind. Assumes nothing.
use mathlib.Core.Path.{◌≡◌, refl, sym, subst}
use mathlib.Core.Bool.{Bool, true, false, ◌&&◌}
use mathlib.Core.Option.{some}
use mathlib.Core.List.{List, [], ◌∷◌, ◌++◌}
use Prim.Native.Nat.{ℕ, ◌≤◌, ◌<◌}
use native.Mathlib.Omega.{arith}
use lib.Dec.{eqb}
use borrow.Author.Tests.{eqb-true, eqb-false, eq-eqb, ne_eqb}
use Rattle.automaton.specs.Choice.{All, any}
use Rattle.automaton.specs.Rule.{Rule, used}
use Rattle.automaton.proofs.Tests.{clash, or_none, or_true, all_map, all_right, all_middle}
use Rattle.automaton.proofs.Used.{uses_all, used-byte}
use Rattle.book.specs.Valid.{ValidRule, Distinct, ValidRules}
use Rattle.longest_match.specs.Lexer.{Token, is_some, first_match, Alone}
use Rattle.longest_match.proofs.First.{nothing, some_of, Earliest, earliest}
use Rattle.printer.proofs.RoundTrip.{valid_empty}
use Rattle.shared_bytes.specs.Kinds.{plain_kind, separator_kind, separates}
use Rattle.shared_bytes.specs.Bytes.{used_by_kind, shared}

-- ---- lists

any_middle : {A : Type 0} (f : A → Bool) (xs : List A) (x : A) (ys : List A) → f x ≡ true → any f (xs ++ x ∷ ys) ≡ true
any_middle f [] x ys e = rw e
any_middle f (y ∷ xs) x ys e = rw (any_middle f xs x ys e, or_true)

-- ---- sides

abbrev pub kind_on : Bool → ℕ
kind_on true = separator_kind
kind_on false = plain_kind

-- a byte that some rule of the kind uses
pub record Side (rules : List Rule) (s : Bool) (b : ℕ) : Type 0 where
  pub byte : b < 256
  pub uses : used_by_kind (kind_on s) rules b ≡ true

-- refusal 23 does not apply
pub record Disjoint (rules : List Rule) : Type 0 where
  pub apart : (b : ℕ) → b < 256 → shared rules b ≡ false

module _ {rules : List Rule} {b : ℕ} (d : Disjoint rules) where
  parted : Side rules true b → Side rules false b → ⊥
  unfolding shared
  parted x y = clash (rw y.uses x.uses) (d.apart b x.byte)

  one_side : (s q : Bool) → Side rules s b → Side rules q b → s ≡ q
  one_side true true x y = refl
  one_side true false x y = absurd (parted x y)
  one_side false true x y = absurd (parted y x)
  one_side false false x y = refl

  pub side_unique : {s q : Bool} → Side rules s b → Side rules q b → s ≡ q
  side_unique x y = one_side _ _ x y

kind_on_lem : (k : ℕ) → k ≤ 1 → (c : Bool) → eqb k separator_kind ≡ c → k ≡ kind_on c
kind_on_lem k l true e = eqb-true k 1 e
kind_on_lem k l false e = let n = eqb-false k 1 e in omega arith

-- the kind of a rule's tag is the rule's
untagged : (rs : List Rule) (tag : ℕ) → All (λ (q : Rule). eqb q.tag tag ≡ false) rs → separates rs tag ≡ false
unfolding separates
untagged [] tag h = refl
untagged (r ∷ rs) tag (e, h) = rw (e, untagged rs tag h)

side_of_tag : (before : List Rule) (r : Rule) (behind : List Rule) → Distinct (before ++ r ∷ behind)
    → separates (before ++ r ∷ behind) r.tag ≡ eqb r.kind separator_kind
unfolding separates
side_of_tag [] r behind (h, d) = rw (eq-eqb r.tag r.tag refl, untagged behind r.tag h, or_none)
side_of_tag (q ∷ before) r behind (h, d) =
    let z : eqb r.tag q.tag ≡ false = all_middle (λ (x : Rule). eqb x.tag q.tag ≡ false) before r behind h in
    rw (ne_eqb q.tag r.tag (λ p. eqb-false r.tag q.tag z (sym p)), side_of_tag before r behind d)

module _ {rules : List Rule} (v : ValidRules rules) where
  -- a rule of the book that matches w
  module _ {w : List ℕ} {tag : ℕ} (f : Earliest rules w tag) where
    valid : ValidRule f.rule
    valid = all_middle ValidRule f.before f.rule f.behind (subst (All ValidRule) f.splits v.each)

    -- all the bytes that it matches are on its side
    rule_side : All (Side rules (eqb f.rule.kind separator_kind)) w
    unfolding used_by_kind
    rule_side =
        all_map (λ (b : ℕ). used f.rule b ≡ true) (Side rules (eqb f.rule.kind separator_kind))
        (λ b u. record { byte = used-byte f.rule valid.sound b u; uses = uses b u }) w (uses_all f.rule valid.sound w f.matched)
      where
        uses : (b : ℕ) → used f.rule b ≡ true → used_by_kind (kind_on (eqb f.rule.kind separator_kind)) rules b ≡ true
        uses b u =
            rw (← kind_on_lem f.rule.kind valid.kind _ refl, f.splits)
            (any_middle (λ (r : Rule). eqb r.kind f.rule.kind && used r b) f.before f.rule f.behind
            (rw (eq-eqb f.rule.kind f.rule.kind refl, u)))

    tag_side : separates rules tag ≡ eqb f.rule.kind separator_kind
    tag_side = rw (← f.tagged, f.splits) (side_of_tag f.before f.rule f.behind (subst Distinct f.splits v.distinct))

  -- a token that is cut as itself has its bytes on its tag's side
  pub token_side : (t : Token) → Alone rules t → All (Side rules (separates rules t.tag)) t.bytes
  token_side t a = let f = earliest rules t.bytes t.tag a in rw (tag_side f) (rule_side f)

  -- what some rule matches is on one side
  match_side : (s : Bool) (b : ℕ) (w : List ℕ) → Disjoint rules → is_some (first_match rules (b ∷ w)) ≡ true → Side rules s b
      → All (Side rules s) (b ∷ w)
  match_side s b w d e h =
      let m = some_of _ e in
      let x = rule_side (earliest rules (b ∷ w) m.0 m.1) in
      subst (λ (k : Bool). All (Side rules k) (b ∷ w)) (side_unique d x.0 h) x

  -- what some rule reads a text on into is on the text's side
  pub read_on_side : Disjoint rules → (s : Bool) (w x : List ℕ) {tag : ℕ} → first_match rules w ≡ some tag → All (Side rules s) w
      → is_some (first_match rules (w ++ x)) ≡ true → All (Side rules s) x
  read_on_side d s [] x f h m = nothing (valid_empty v) f
  read_on_side d s (b ∷ w) x f h m = all_right (Side rules s) (b ∷ w) x (match_side s b (w ++ x) d m h.0)
