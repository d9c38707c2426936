-- The table of an expression's sets accepts what sets of positions match. Assumes nothing.
use mathlib.Core.Path.{◌≡◌, refl, sym, ap, ◌∙◌}
use mathlib.Core.Bool.{Bool, false, not}
use mathlib.Core.List.{List, [], ◌∷◌, map}
use Prim.Native.Nat.{ℕ, zero, suc, ◌≤◌, ◌<◌}
use native.Mathlib.Omega.{arith}
use lib.Bits.{bit_and}
use lib.Dec.{eqb}
use lib.ListN.{length, get_or, length-map, get_or-map}
use borrow.Author.Tests.{ne_eqb}
use Rattle.automaton.specs.Choice.{if, All, among}
use Rattle.automaton.proofs.Tests.{all_at}
use Rattle.expression.specs.Expression.{Expression}
use Rattle.positions.specs.Positions.{first}
use Rattle.positions.specs.Sets.{ahead, taking, ends_from, matches_by_sets}
use Rattle.positions.specs.Numbers.{set_of}
use Rattle.subsets.specs.States.{after, sets_ahead, ahead_of, states, are_too_many, number_of, row_of, rows_of, finals_of}
use Rattle.subsets.proofs.Reaching.{number_none}
use Rattle.subsets.proofs.Rows.{row_at_lem}
use Rattle.rule_commands.specs.Fit.{error_state}
use Rattle.rule_commands.specs.Table.{number_at, step_table, walk_table}
use Rattle.rule_commands.proofs.Tables.{error_stays}
use Rattle.rule_commands.proofs.Reversed.{none_of}
use Rattle.expression_rule.specs.Layers.{Sets}
use Rattle.expression_rule.proofs.Closed.{Standing, closed}
use Rattle.expression_rule.proofs.Fitting.{rows_at, table_rows, table_finals, start-final, state_final}
use Rattle.expression_rule.proofs.Members.{Within, taking-within, ends_nothing, taking-set, empty_set, last_set, after-set}

module _ {e : Expression} {firsts lasts : ℕ} {empty : Bool} {follow takers : List ℕ} (s : Sets e firsts lasts empty follow takers)
    (few : are_too_many firsts follow takers ≡ false) where
  abbrev known : List ℕ
  known = states firsts follow takers

  abbrev rows : List (List ℕ)
  rows = rows_of firsts follow takers

  abbrev finals : List ℕ
  finals = finals_of lasts empty known

  -- ---- a byte more

  module _ (k : ℕ) (l : k ≤ length known) (A : ℕ → Bool) (here : ahead_of firsts follow known k ≡ set_of A) (b : ℕ) (byte : b < 256) where
    abbrev pub next : ℕ → Bool
    next = taking e b A

    set_next : get_or (sets_ahead takers (ahead_of firsts follow known k)) b 0 ≡ set_of next
    set_next =
        row_at_lem takers (ahead_of firsts follow known k) b ∙ ap (λ (a : ℕ). bit_and a (get_or takers b 0)) here ∙ taking-set s b byte A

    pub number_next : number_at rows k b ≡ number_of known (set_of next)
    unfolding row_of
    number_next =
        ap (λ (row : List ℕ). get_or row b 0) (rows_at firsts follow takers (suc (length known)) k (omega arith))
        ∙ ap (get_or (map (number_of known) (sets_ahead takers (ahead_of firsts follow known k))) b) (sym (number_none known))
        ∙ get_or-map (number_of known) (sets_ahead takers (ahead_of firsts follow known k)) b 0 ∙ ap (number_of known) set_next

    pub next_known : Standing known (set_of next)
    next_known =
        let at : Standing known (get_or (sets_ahead takers (ahead_of firsts follow known k)) b 0) =
        all_at (Standing known) (sets_ahead takers (ahead_of firsts follow known k)) 0 (closed firsts follow takers few k l) b
        (omega (arith, length-map takers (bit_and (ahead_of firsts follow known k)), s.takers_size)) in
        rw set_next at at

    step-ends : (w : List ℕ)
        → ((n : ℕ) → n < length known → get_or known n 0 ≡ set_of next → among (walk_table rows (suc n) w) finals ≡ ends_from e next w)
        → among (walk_table rows (step_table rows k b) w) finals ≡ ends_from e next w
    step-ends w ih = rw number_next (go (number_of known (set_of next)) refl)
      where
        stays : among (walk_table rows error_state w) finals ≡ false
        stays =
            rw (error_stays rows w (table_rows firsts follow takers few s.takers_size).few)
            (none_of (λ (x : ℕ). x < error_state) (eqb error_state) (λ x h. ne_eqb error_state x (λ q. omega arith)) finals
            (table_finals firsts follow takers lasts empty few))

        go : (n : ℕ) → number_of known (set_of next) ≡ n → among (walk_table rows (if (eqb n 0) error_state n) w) finals ≡ ends_from e next w
        go zero q =
            stays ∙ sym (ends_nothing e w next (empty_set s next (taking-within e b A) (next_known.none q)))
        go (suc n) q =
            rw (ne_eqb (suc n) 0 (λ z. omega arith)) (ih n (omega (arith, next_known.within)) (next_known.stands n q))

  -- ---- from a state, from the start

  from_state : (w : List ℕ) → All (λ (b : ℕ). b < 256) w → (n : ℕ) → n < length known → (S : ℕ → Bool) → Within e S
      → get_or known n 0 ≡ set_of S → among (walk_table rows (suc n) w) finals ≡ ends_from e S w
  unfolding walk_table ends_from
  from_state [] a n l S i h =
      state_final lasts known empty n l ∙ ap (λ (x : ℕ). not (eqb (bit_and x lasts) 0)) h ∙ last_set s S i
  from_state (b ∷ w) (byte, a) n l S i h =
      step-ends (suc n) (omega arith) (ahead e S) (ap (after follow) h ∙ after-set s S i) b byte w
      (λ m below q. from_state w a m below (taking e b (ahead e S)) (taking-within e b (ahead e S)) q)

  pub table-matches_sets : (w : List ℕ) → All (λ (b : ℕ). b < 256) w → among (walk_table rows 0 w) finals ≡ matches_by_sets e w
  unfolding walk_table matches_by_sets
  table-matches_sets [] a = start-final lasts known empty ∙ s.empty_matched
  table-matches_sets (b ∷ w) (byte, a) =
      step-ends 0 (omega arith) (first e) s.first-set b byte w
      (λ m below q. from_state w a m below (taking e b (first e)) (taking-within e b (first e)) q)
