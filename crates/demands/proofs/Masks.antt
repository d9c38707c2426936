-- Every rule that agreed: a cut with masks is the cut without them, and its masks say what they are to say. Assumes nothing.
use Rattle.answer.specs.Answers.{lexed}
use mathlib.Core.Path.{◌≡◌, refl, sym, ap, ◌∙◌, subst}
use mathlib.Core.Logic.{◌⊎◌, inl, inr}
use mathlib.Core.Bool.{false}
use mathlib.Core.List.{List, [], ◌∷◌, ◌++◌}
use Prim.Native.Nat.{ℕ, ◌*◌, ◌^◌, ◌<◌, ◌≤◌}
use native.Mathlib.Nat.{pow-le-pow_right}
use native.Mathlib.Omega.{arith}
use lib.ListN.{length, drop, length-append, length-map, get_or-append}
use lib.Seq.{drop_at, get_or-append_seam}
use Rattle.big_endian.specs.Numbers.{four_at}
use Rattle.automaton.specs.Rule.{Rule, matches}
use Rattle.automaton.specs.Layers.{blank, rule_at}
use Rattle.automaton.proofs.Tests.{all_at}
use Rattle.longest_match.specs.Lexer.{Token, lex, Alone}
use Rattle.longest_match.specs.Masks.{bit, agreeing, masks_of}
use Rattle.longest_match.proofs.First.{earliest}
use Rattle.longest_match.proofs.Lexing.{Cuts, lexed_cuts}
use Rattle.longest_match.proofs.Agreeing.{agreeing-bit, agreeing-past, agreeing_below}
use Rattle.record.specs.Masks.{mask_bytes, mask_count, FitsMask}
use Rattle.record.proofs.Masks.{length_mask_bytes, mask_at}
use Rattle.lexer.specs.Outcome.{lex_outcome}
use Rattle.lexer.specs.Masked.{masked_outcome}
use Rattle.lexer.proofs.ByRules.{room_in, answered_few}
use Rattle.lexer.proofs.Masking.{Refuses, masked_same, masked_refused_lem, masked_lexed}
use Rattle.printer.proofs.RoundTrip.{same_rules, lexed_cut}
use Rattle.zagvulem.proofs.Refused.{LexWithin, masked_within}
use Rattle.demands.specs.Calls.{records_in, count_in, mask_bytes_in, mask_count_in, mask_in}
use Rattle.demands.specs.Masks.{MaskedIsCut, AcceptedIsCut, TooFew, RefusedMasked, PastTheMasks}
use Rattle.demands.specs.Masks.{Agreement, Lowest, Hidden, MasksAgree}
use Rattle.demands.proofs.Forms.{count_in_lem, same_in, mask_count_in_lem, mask_number_in, past_masks_in, typed_past_masks, same_masks}
use Rattle.demands.proofs.Untouched.{cut_leaves}
use Rattle.demands.proofs.Demands.{valid, tokens_are}

-- ---- the cut beside its masks

pub masked_is_cut : MaskedIsCut
masked_is_cut f book text entry exit masks after r c enough =
    let s = masked_same book text (records_in f entry) (mask_bytes_in f masks) fits in
    record {
      entry_typed = c.entry_typed;
      exit_typed = c.exit_typed;
      answers = c.answers ∙ s.answers;
      leaves = c.leaves ∙ s.stores;
    }
  where
    fits : (n place : ℕ) → (lex_outcome book text (records_in f entry)).answer ≡ lexed n place → n ≤ mask_count (mask_bytes_in f masks)
    fits n place e =
        let k = lexed_cut book text (records_in f entry) n place e in
        omega (arith, k.count, enough k.rules k.reads, mask_count_in_lem f masks)

pub accepted_is_cut : AcceptedIsCut
accepted_is_cut f book text entry exit masks after n place c =
    let a = (masked_lexed book text (records_in f entry) (mask_bytes_in f masks) n place (sym c.answers)).1.1 in
    record {
      entry_typed = c.entry_typed;
      exit_typed = c.exit_typed;
      answers = sym a.cut;
      leaves = c.leaves ∙ a.same.stores;
    }

pub too_few : TooFew
unfolding masked_outcome
too_few f book rules text entry exit masks after r c reads short few =
    let a = answered_few rules text (records_in f entry) (mask_bytes_in f masks) {tokens = length (lex rules text).tokens} short
    (record { tokens_are = refl; rest_is = refl }) (room few) in
    c.answers ∙ rw reads (sym a.answer)
  where
    room : (count_in f entry < length (lex rules text).tokens) ⊎ (mask_count_in f masks < length (lex rules text).tokens)
        → room_in (records_in f entry) (mask_bytes_in f masks) < length (lex rules text).tokens
    room (inl l) = omega (arith, count_in_lem f entry)
    room (inr l) = omega (arith, mask_count_in_lem f masks)

-- ---- demand 1 of the masks

pub refused_masked : RefusedMasked
refused_masked f book text entry exit masks after r c = (
  (subst LexWithin (sym c.answers) (masked_within book text (records_in f entry) (mask_bytes_in f masks))).number_among,
  same_in f exit entry c.exit_typed c.entry_typed (c.leaves ∙ kept),
  same_masks f after masks c.after_typed c.masks_typed (c.leaves_masks ∙ why.keeps),
)
  where
    why : Refuses (lex_outcome book text (records_in f entry)) (masked_outcome book text (records_in f entry) (mask_bytes_in f masks))
        (records_in f entry) (mask_bytes_in f masks) r
    why = masked_refused_lem book text (records_in f entry) (mask_bytes_in f masks) r (sym c.answers)

    kept : (masked_outcome book text (records_in f entry) (mask_bytes_in f masks)).records ≡ records_in f entry
    kept = elim why.why [
      | inl w ↦ w.1 ∙ cut_leaves text (records_in f entry) book r w.0
      | inr w ↦ w.5
    ]

pub past_the_masks : PastTheMasks
past_the_masks f book text entry exit masks after n place c =
    let m = masked_lexed book text (records_in f entry) (mask_bytes_in f masks) n place (sym c.answers) in
    let k = lexed_cut book text (records_in f entry) n place m.1.1.cut in
    let q : k.rules ≡ m.0 = same_rules book k.reads m.1.0 in
    let l : length (mask_bytes (masks_of m.0 (lex m.0 text).tokens)) ≡ 4 * n =
    length_mask_bytes (masks_of m.0 (lex m.0 text).tokens)
    ∙ ap (λ (x : ℕ). 4 * x) (length-map (lex m.0 text).tokens _ ∙ rw (← q) (sym k.count)) in
    same_masks f _ _ (typed_past_masks f n after c.after_typed) (typed_past_masks f n masks c.masks_typed)
    (sym (past_masks_in f n after) ∙ ap (drop (4 * n)) (c.leaves_masks ∙ m.1.1.leaves)
    ∙ drop_at (mask_bytes (masks_of m.0 (lex m.0 text).tokens)) _ (4 * n) l ∙ past_masks_in f n masks)

-- ---- the masks

masks_middle : (rules : List Rule) (ts : List Token) (t : Token) (us : List Token)
    → masks_of rules (ts ++ t ∷ us) ≡ masks_of rules ts ++ agreeing rules t.bytes ∷ masks_of rules us
masks_middle rules [] t us = refl
masks_middle rules (x ∷ ts) t us = rw (masks_middle rules ts t us)

alone_middle : (rules : List Rule) (ts : List Token) (t : Token) (us : List Token) (rest : List ℕ) → Cuts rules (ts ++ t ∷ us) rest
    → Alone rules t
alone_middle rules [] t us rest c = c.0
alone_middle rules (x ∷ ts) t us rest c = alone_middle rules ts t us rest c.2

-- rule number k of a list in two parts
module _ (before : List Rule) (r : Rule) (behind : List Rule) where
  rule_here : rule_at (before ++ r ∷ behind) (length before) ≡ r
  rule_here = get_or-append_seam before r behind blank

  rule_before : (k : ℕ) → k < length before → rule_at (before ++ r ∷ behind) k ≡ rule_at before k
  rule_before k l = get_or-append before (r ∷ behind) blank k l

bits : (rules : List Rule) (w : List ℕ) → Agreement rules w (agreeing rules w)
bits rules w = record {
  agrees = λ before r behind e.
      let l : length before < length rules = omega (arith, ap length e, length-append before (r ∷ behind)) in
      agreeing-bit rules w (length before) l
      ∙ ap (λ (q : Rule). bit (matches q w)) (ap (λ (rs : List Rule). rule_at rs (length before)) e ∙ rule_here before r behind);
  no_other = agreeing-past rules w;
}

took : (rules : List Rule) (t : Token) → Alone rules t → Lowest rules t.tag (agreeing rules t.bytes)
took rules t a =
    let f = earliest rules t.bytes t.tag a in
    let below : (k : ℕ) → k < length f.before → k < length rules = λ k l.
    omega (arith, ap length f.splits, length-append f.before (f.rule ∷ f.behind)) in
    record {
      before = f.before;
      rule = f.rule;
      behind = f.behind;
      splits = f.splits;
      tagged = f.tagged;
      set = (bits rules t.bytes).agrees f.before f.rule f.behind f.splits ∙ ap bit f.matched;
      lowest = λ k l.
          agreeing-bit rules t.bytes k (below k l)
          ∙ ap (λ (q : Rule). bit (matches q t.bytes))
          (ap (λ (rs : List Rule). rule_at rs k) f.splits ∙ rule_before f.before f.rule f.behind k l)
          ∙ ap bit (all_at (λ (q : Rule). matches q t.bytes ≡ false) f.before blank f.earlier k l);
    }

pub masks_agree : MasksAgree
masks_agree book rules b f text entry exit masks after n place c ts t us e =
    subst (Hidden rules t) (sym number) (record { agreement = bits rules t.bytes; took = took rules t alone })
  where
    tokens : (lex rules text).tokens ≡ ts ++ t ∷ us
    tokens = sym (tokens_are book rules b (accepted_is_cut f book text entry exit masks after n place c)) ∙ e

    alone : Alone rules t
    alone = alone_middle rules ts t us (lex rules text).rest
        (subst (λ (x : List Token). Cuts rules x (lex rules text).rest) tokens (lexed_cuts rules text))

    rest : List ℕ
    rest = drop (4 * n) (mask_bytes_in f masks)

    -- the bytes of the masks
    stored : mask_bytes_in f after ≡ mask_bytes (masks_of rules ts ++ agreeing rules t.bytes ∷ masks_of rules us) ++ rest
    stored =
        let m = masked_lexed book text (records_in f entry) (mask_bytes_in f masks) n place (sym c.answers) in
        let q : m.0 ≡ rules = same_rules book m.1.0 b.reads in
        c.leaves_masks ∙ m.1.1.leaves
        ∙ ap (λ (rs : List Rule). mask_bytes (masks_of rs (lex rs text).tokens) ++ rest) q
        ∙ ap (λ (x : List Token). mask_bytes (masks_of rules x) ++ rest) tokens
        ∙ ap (λ (x : List ℕ). mask_bytes x ++ rest) (masks_middle rules ts t us)

    fits : FitsMask (agreeing rules t.bytes)
    fits =
        let few = (valid book rules b).rules_valid.few in
        let less : 2 ^ length rules ≤ 2 ^ 32 = pow-le-pow_right (omega arith) few in
        omega (arith, less, agreeing_below rules t.bytes)

    many : length (masks_of rules ts) ≡ length ts
    many = length-map ts _

    inside : length ts < mask_count_in f after
    inside =
        let l = ap length stored ∙ length-append (mask_bytes (masks_of rules ts ++ agreeing rules t.bytes ∷ masks_of rules us)) rest in
        let k = length_mask_bytes (masks_of rules ts ++ agreeing rules t.bytes ∷ masks_of rules us) in
        let j = length-append (masks_of rules ts) (agreeing rules t.bytes ∷ masks_of rules us) in
        omega (arith, many, mask_count_in_lem f after)

    number : mask_in f after (length ts) ≡ agreeing rules t.bytes
    number =
        sym (mask_number_in f after (length ts) inside c.after_typed) ∙ ap (λ (x : List ℕ). four_at x (4 * length ts)) stored
        ∙ ap (λ (i : ℕ). four_at (mask_bytes (masks_of rules ts ++ agreeing rules t.bytes ∷ masks_of rules us) ++ rest) (4 * i)) (sym many)
        ∙ mask_at (masks_of rules ts) (agreeing rules t.bytes) (masks_of rules us) rest fits
