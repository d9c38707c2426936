-- The states of an expression's rule are the sets that strings reach, numbered by the first strings that reach them. Assumes nothing.
use mathlib.Core.Path.{◌≡◌, refl, sym, ap, ◌∙◌}
use mathlib.Core.Bool.{Bool, true, false, ◌&&◌}
use mathlib.Core.List.{List, [], ◌∷◌}
use Prim.Native.Nat.{ℕ, zero, suc, ◌≤◌, ◌<◌}
use native.Mathlib.Omega.{arith}
use lib.Dec.{eqb, ltb}
use lib.ListN.{length}
use borrow.Author.Tests.{ne_eqb, ltb-true, ltb-false}
use Rattle.automaton.specs.Choice.{if}
use Rattle.automaton.specs.Rule.{Rule, walk}
use Rattle.automaton.proofs.Tests.{clash}
use Rattle.expression.specs.Expression.{Expression}
use Rattle.positions.specs.Positions.{size, first, follows}
use Rattle.positions.specs.Sets.{ahead, taking}
use Rattle.positions.specs.Numbers.{set_of, member}
use Rattle.positions.proofs.Numbers.{member-set, set_same, set_none}
use Rattle.subsets.specs.States.{after, ahead_of, states, are_too_many, number_of, rows_of}
use Rattle.subsets.specs.Numbering.{set_from, Bytes, NumberedByStrings, ManySets}
use Rattle.subsets.proofs.Numbering.{numbered_by_strings, many_sets_lem}
use Rattle.subsets.proofs.Reaching.{number_none}
use Rattle.subsets.proofs.Walking.{Stands, stands}
use Rattle.rule_commands.specs.Spans.{spans_of}
use Rattle.rule_commands.specs.Fit.{error_state, rule_by}
use Rattle.rule_commands.specs.Table.{walk_table}
use Rattle.rule_commands.proofs.Tables.{error_stays, table-walk}
use Rattle.expression_rule.specs.Layers.{Sets}
use Rattle.expression_rule.specs.Reached.{reached_from, reached, Empty, Same, StatesOf, ManyReached}
use Rattle.expression_rule.proofs.Closed.{states_few}
use Rattle.expression_rule.proofs.Fitting.{table_rows}
use Rattle.expression_rule.proofs.Members.{any_none, Within, taking-within, taking-set, empty_set, after-set}
use Rattle.expression_rule.proofs.Walks.{number_next, next_known}

-- ---- sets of positions

reached-within : (e : Expression) (A : ℕ → Bool) (w : List ℕ) → Within e (reached_from e A w)
unfolding reached_from
reached-within e A [] = record { below = λ p h. clash h refl }
reached-within e A (b ∷ []) = taking-within e b A
reached-within e A (b ∷ c ∷ w) = reached-within e (ahead e (taking e b A)) (c ∷ w)

-- none reach none
reached_none : (e : Expression) (A : ℕ → Bool) (w : List ℕ) → Empty A → Empty (reached_from e A w)
unfolding reached_from
reached_none e A [] h = λ p. refl
reached_none e A (b ∷ []) h = λ p. rw (h p)
reached_none e A (b ∷ c ∷ w) h =
    reached_none e (ahead e (taking e b A)) (c ∷ w) (λ q. any_none (size e) _ (λ p _. rw (h p)))

module _ {e : Expression} {firsts lasts : ℕ} {empty : Bool} {follow takers : List ℕ} (s : Sets e firsts lasts empty follow takers) where
  -- a set is its number
  same_number : (S T : ℕ → Bool) → Same S T → set_of S ≡ set_of T
  same_number S T h = set_same 64 S T (λ p _. h p)

  number_same : (S T : ℕ → Bool) → Within e S → Within e T → set_of S ≡ set_of T → Same S T
  number_same S T v w q p = go (ltb p 64) refl
    where
      outside : (U : ℕ → Bool) → Within e U → 64 ≤ p → U p ≡ false
      outside U u l = out (U p) refl
        where
          out : (t : Bool) → U p ≡ t → t ≡ false
          out true h = absurd (omega (arith, u.below p h, s.small))
          out false h = refl

      go : (t : Bool) → ltb p 64 ≡ t → S p ≡ T p
      go true h =
          let l : p < 64 = ltb-true p 64 h in
          sym (member-set 64 S p l) ∙ ap (member p) q ∙ member-set 64 T p l
      go false h = let l : 64 ≤ p = ltb-false p 64 h in outside S v l ∙ sym (outside T w l)

  set-from : (A : ℕ → Bool) (w : List ℕ) → Bytes w → set_from (set_of A) follow takers w ≡ set_of (reached_from e A w)
  unfolding set_from reached_from
  set-from A [] h = sym (set_none 64 (λ p. false) (λ p _. refl))
  set-from A (b ∷ []) (l, h) = taking-set s b l A
  set-from A (b ∷ c ∷ w) (l, h) =
      ap (λ (x : ℕ). set_from (after follow x) follow takers (c ∷ w)) (taking-set s b l A)
      ∙ ap (λ (x : ℕ). set_from x follow takers (c ∷ w)) (after-set s (taking e b A) (taking-within e b A))
      ∙ set-from (ahead e (taking e b A)) (c ∷ w) h

  -- the set that a string leads to is the set that it reaches
  set-reached : (w : List ℕ) → Bytes w → set_from firsts follow takers w ≡ set_of (reached e w)
  set-reached w h = ap (λ (x : ℕ). set_from x follow takers w) s.first-set ∙ set-from (first e) w h

  reached_same : (v w : List ℕ) → Bytes v → Bytes w → Same (reached e v) (reached e w)
      → set_from firsts follow takers v ≡ set_from firsts follow takers w
  reached_same v w a b h = set-reached v a ∙ same_number (reached e v) (reached e w) h ∙ sym (set-reached w b)

  same_reached : (v w : List ℕ) → Bytes v → Bytes w → set_from firsts follow takers v ≡ set_from firsts follow takers w
      → Same (reached e v) (reached e w)
  same_reached v w a b h =
      number_same (reached e v) (reached e w) (reached-within e (first e) v) (reached-within e (first e) w)
      (sym (set-reached v a) ∙ h ∙ set-reached w b)

  none_reached : (w : List ℕ) → Bytes w → Empty (reached e w) → set_from firsts follow takers w ≡ 0
  none_reached w a h = set-reached w a ∙ set_none 64 (reached e w) (λ p _. h p)

  reached_zero : (w : List ℕ) → Bytes w → set_from firsts follow takers w ≡ 0 → Empty (reached e w)
  reached_zero w a h = empty_set s (reached e w) (reached-within e (first e) w) (sym (set-reached w a) ∙ h)

  module _ (few : are_too_many firsts follow takers ≡ false) where
    abbrev known : List ℕ
    known = states firsts follow takers

    abbrev rows : List (List ℕ)
    rows = rows_of firsts follow takers

    -- the state of a number, or the error state
    abbrev state_of : ℕ → ℕ
    state_of n = if (eqb n 0) error_state n

    -- ---- the state that a string leads to

    walk_from : (w : List ℕ) (b : ℕ) → Bytes (b ∷ w) → (k : ℕ) → k ≤ length known → (A : ℕ → Bool)
        → ahead_of firsts follow known k ≡ set_of A → walk_table rows k (b ∷ w) ≡ state_of (number_of known (set_of (reached_from e A (b ∷ w))))
    unfolding walk_table reached_from
    walk_from [] b (byte, a) k l A here = ap state_of (number_next s few k l A here b byte)
    walk_from (c ∷ w) b (byte, a) k l A here =
        ap (λ (n : ℕ). walk_table rows (state_of n) (c ∷ w)) (number_next s few k l A here b byte)
        ∙ go (number_of known (set_of (taking e b A))) refl (λ n below q. walk_from w c a (suc n) below (ahead e (taking e b A)) q)
      where
        B : ℕ → Bool
        B = ahead e (taking e b A)

        go : (n : ℕ) → number_of known (set_of (taking e b A)) ≡ n
            → ((m : ℕ) → suc m ≤ length known → ahead_of firsts follow known (suc m) ≡ set_of B
            → walk_table rows (suc m) (c ∷ w) ≡ state_of (number_of known (set_of (reached_from e B (c ∷ w)))))
            → walk_table rows (state_of n) (c ∷ w) ≡ state_of (number_of known (set_of (reached_from e B (c ∷ w))))
        go zero q ih =
            let none : Empty (taking e b A) =
            empty_set s (taking e b A) (taking-within e b A) ((next_known s few k l A here b byte).none q) in
            error_stays rows (c ∷ w) (table_rows firsts follow takers few s.takers_size).few
            ∙ sym (ap (λ (x : ℕ). state_of (number_of known x))
            (set_none 64 (reached_from e B (c ∷ w))
            (λ p _. reached_none e B (c ∷ w) (λ r. any_none (size e) (λ p. taking e b A p && follows e p r) (λ p _. rw (none p))) p))
            ∙ ap state_of (number_none known))
        go (suc n) q ih =
            let h = next_known s few k l A here b byte in
            rw (ne_eqb (suc n) 0 (λ z. omega arith))
            (ih n (omega (arith, h.within)) (ap (after follow) (h.stands n q) ∙ after-set s (taking e b A) (taking-within e b A)))

    walk-reached : (b : ℕ) (w : List ℕ) → Bytes (b ∷ w)
        → walk_table rows 0 (b ∷ w) ≡ state_of (number_of known (set_from firsts follow takers (b ∷ w)))
    walk-reached b w a =
        walk_from w b a 0 (omega arith) (first e) s.first-set
        ∙ ap (λ (x : ℕ). state_of (number_of known x)) (sym (set-reached (b ∷ w) a))

    -- ---- their numbers

    abbrev numbered : NumberedByStrings firsts follow takers
    numbered = numbered_by_strings firsts follow takers s.takers_size few

    module _ (tag kind : ℕ) (finals : List ℕ) where
      abbrev rule : Rule
      rule = rule_by tag kind finals (spans_of 0 rows)

      walks : (v : List ℕ) → Bytes v → walk rule 0 v ≡ walk_table rows 0 v
      walks v a = table-walk tag kind finals rows (table_rows firsts follow takers few s.takers_size).each 0 v a

      leads_to : (k : ℕ) → k < length known → (v : List ℕ) → Bytes v → Same (reached e v) (reached e (numbered.word k))
          → walk rule 0 v ≡ suc k
      unfolding set_from
      leads_to k l [] a h =
          absurd (numbered.led.filled k l
          (sym (numbered.led.leads k l) ∙ sym (reached_same [] (numbered.word k) a (numbered.led.bytes k l) h)))
      leads_to k l (b ∷ v) a h =
          walks (b ∷ v) a ∙ walk-reached b v a
          ∙ ap (λ (x : ℕ). state_of (number_of known x)) (reached_same (b ∷ v) (numbered.word k) a (numbered.led.bytes k l) h)
          ∙ rw (numbered.number k l, ne_eqb (suc k) 0 (λ z. omega arith))

      fails_at : (b : ℕ) (v : List ℕ) → Bytes (b ∷ v) → Empty (reached e (b ∷ v)) → walk rule 0 (b ∷ v) ≡ error_state
      fails_at b v a h =
          walks (b ∷ v) a ∙ walk-reached b v a ∙ ap (λ (x : ℕ). state_of (number_of known x)) (none_reached (b ∷ v) a h)
          ∙ ap state_of (number_none known)

      reached-all : (v : List ℕ) → Bytes v → (Empty (reached e v) → ⊥)
          → (k : ℕ) × (k < length known) × Same (reached e v) (reached e (numbered.word k))
      reached-all v a n =
          let m : Stands (set_from firsts follow takers v) known =
          stands (set_from firsts follow takers v) known (numbered.all v a (λ z. n (reached_zero v a z))) in (
            m.at,
            m.within,
            same_reached v (numbered.word m.at) a (numbered.led.bytes m.at m.within)
                (sym m.here ∙ sym (numbered.led.leads m.at m.within)),
          )

      pub states_of_lem : StatesOf e rule
      states_of_lem = record {
        count = length known;
        few = states_few firsts follow takers few;
        word = numbered.word;
        sets = record {
          bytes = numbered.led.bytes;
          filled = λ k l h. numbered.led.filled k l
              (sym (numbered.led.leads k l) ∙ none_reached (numbered.word k) (numbered.led.bytes k l) h);
          different = λ i j l m h. numbered.led.different i j l m
              (sym (numbered.led.leads i (omega arith))
              ∙ reached_same (numbered.word i) (numbered.word j) (numbered.led.bytes i (omega arith)) (numbered.led.bytes j m) h
              ∙ numbered.led.leads j m);
        };
        rising = numbered.led.rising;
        least = λ k l v a h b. numbered.least k l v a (reached_same v (numbered.word k) a (numbered.led.bytes k l) h) b;
        all = reached-all;
        leads = leads_to;
        fails = fails_at;
      }

  -- ---- too many

  pub many_reached : are_too_many firsts follow takers ≡ true → ManyReached e
  many_reached h = record {
    word = many.word;
    sets = record {
      bytes = λ k l. many.led.bytes k (inside l);
      filled = λ k l z. many.led.filled k (inside l)
          (sym (many.led.leads k (inside l)) ∙ none_reached (many.word k) (many.led.bytes k (inside l)) z);
      different = λ i j l m z.
          let n : j < length (states firsts follow takers) = inside m in
          let o : i < length (states firsts follow takers) = omega arith in
          many.led.different i j l n
          (sym (many.led.leads i o) ∙ reached_same (many.word i) (many.word j) (many.led.bytes i o) (many.led.bytes j n) z
          ∙ many.led.leads j n);
    };
  }
    where
      many : ManySets firsts follow takers
      many = many_sets_lem firsts follow takers s.takers_size h

      inside : {k : ℕ} → k < 255 → k < length (states firsts follow takers)
      inside l = omega (arith, many.many)
