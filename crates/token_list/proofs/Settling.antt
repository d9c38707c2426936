-- The loops of `measure` and `read_back`: what holds at their heads, how a turn keeps it, and how they end. Assumes nothing.
use Rattle.answer.specs.declared.Reason.TheVariants.{ReadOn}
use Rattle.std.specs.Prelude.{Option as Maybe, Some, None, MatchOption}
use mathlib.Core.Path.{◌≡◌, refl, sym, ap, ◌∙◌, subst}
use mathlib.Core.Bool.{Bool, true, false, not}
use mathlib.Core.Option.{none, some}
use mathlib.Core.List.{List, [], ◌∷◌, ◌++◌}
use Prim.Native.Nat.{ℕ, ◌+◌, ◌<◌, ◌≤◌}
use native.Mathlib.Omega.{arith}
use native.Mathlib.Numerals.{add-one}
use lib.Dec.{eqb}
use borrow.Author.Tests.{eqb-true, eq-eqb}
use Rattle.std.specs.Option.{option_eq}
use lib.ListN.{length, drop, length-append, length-drop}
use lib.Seq.{drop-drop, drop_at}
use Rattle.automaton.specs.Choice.{All}
use Rattle.automaton.specs.Rule.{Rule}
use Rattle.automaton.specs.Layers.{Ranks}
use Rattle.automaton.proofs.Tests.{clash}
use Rattle.book.specs.Limits.{max_text}
use Rattle.book.proofs.Ranking.{ranks_none, ranks_some}
use Rattle.longest_match.specs.Lexer.{first_match, join}
use Rattle.longest_match.specs.Layers.{Chooses}
use Rattle.record.specs.Records.{record_count}
use Rattle.record.specs.declared.TokenRecord.{TokenRecord}
use Rattle.record.specs.Tokens.{record_at, records_of, bytes_in, token_in, tokens_in, tokens_of, InPool}
use Rattle.token_list.specs.Faults.{alone_in, fault_of}
use Rattle.token_list.proofs.Alone.{alone_first}
use Rattle.token_list.proofs.Faulting.{Fine, fine, bytes_length, fault_none, front_other, front_same}
use Rattle.token_list.specs.Checks.{refuse_by, first_fault, first_extended}
use Rattle.token_list.proofs.Extended.{matched_long, read_no_more, read_on, extended_later, extended_here}
use Rattle.token_list.proofs.Passes.{left, left-start, left_next, left_end, record_at_lem, faultless_front}
use Rattle.token_list.specs.Layers.{Spanned, Spans, Spread, Faultless, ReadsBack}

-- ---- how many bytes

-- the first k tokens lie in the pool and have `total` bytes
pub record Spanning (records pool : List ℕ) (total k : ℕ) : Type 0 where
  pub within : k ≤ record_count records
  pub short : total ≤ max_text
  pub inside : All (InPool pool) (left records k) → All (InPool pool) (records_of records)
  pub sum : length (join (tokens_of records pool)) ≡ total + length (join (tokens_in pool (left records k)))

pub spanning_start : (records pool : List ℕ) → Spanning records pool 0 0
spanning_start records pool =
    record {
      within = omega arith;
      short = omega arith;
      inside = λ h. subst (All (InPool pool)) (sym (left-start records)) h;
      sum = rw left-start (omega arith);
    }

module _ {records pool : List ℕ} {total k : ℕ} (w : Spanning records pool total k) where
  module _ (more : k < record_count records) {r : TokenRecord} (e : r ≡ record_at records k) where
    pub spanning_outside : length pool < r.place + r.len → Spans records pool None
    spanning_outside l =
        record {
          fits = λ n q. cc;
          beyond = λ _ h. let i = subst (InPool pool) (sym e) (record_at_lem (InPool pool) records h k more) in absurd
              (omega (arith, i.in_pool));
        }

    module _ (in_pool : r.place + r.len ≤ length pool) where
      longer : length (join (tokens_of records pool)) ≡ total + r.len + length (join (tokens_in pool (left records (k + 1))))
      unfolding tokens_in
      longer =
          let l : length (bytes_in pool (record_at records k)) ≡ r.len = ap (λ (q : TokenRecord). length (bytes_in pool q)) (sym e)
          ∙ bytes_length pool r in_pool in
          let s = rw (left_next records k more) at w.sum in
          omega (arith, length-append (bytes_in pool (record_at records k)) (join (tokens_in pool (left records (k + 1)))))

      pub spanning_next : total + r.len ≤ max_text → Spanning records pool (total + r.len) (k + 1)
      spanning_next s =
          record {
            within = omega arith;
            short = s;
            inside = λ h. w.inside (rw (left_next records k more) (subst (InPool pool) e (record { in_pool = in_pool }), h));
            sum = longer;
          }

      pub spanning_long : max_text < total + r.len → Spans records pool None
      spanning_long l = record { fits = λ n q. cc; beyond = λ _ h. omega (arith, longer) }

  spanned : record_count records ≤ k → Spanned records pool total
  unfolding tokens_in
  spanned l =
      let s = rw (left_end records k l) at w.sum in
      record { each = w.inside (rw (left_end records k l) tt); bytes = omega arith; short = w.short }

  pub spanning_end : record_count records ≤ k → Spans records pool (Some total)
  spanning_end l =
      record {
        fits = λ n q. let e : total ≡ n = cc in subst (Spanned records pool) e (spanned l);
        beyond = λ q. cc;
      }

-- ---- reading back

-- the number that is found is the one that is asked for
pub found : {rules : List Rule} {tag rule : ℕ} (o : Maybe ℕ)
    → MatchOption o (Ranks rules tag (length rules)) (λ (i : ℕ). (i < length rules) × Ranks rules tag i)
    → not (option_eq eqb o (Some rule)) ≡ false → (rule < length rules) × Ranks rules tag rule
found None ranks e = cc
found {rules} {tag} {rule} (Some rank) ranks e = go (eqb rank rule) refl e
  where
    go : (t : Bool) → eqb rank rule ≡ t → not t ≡ false → (rule < length rules) × Ranks rules tag rule
    go true q z = subst (λ (i : ℕ). (i < length rules) × Ranks rules tag i) (eqb-true rank rule q) ranks
    go false q z = cc

-- the first k tokens, `at` bytes, are alone and not read on
pub record Retracing (rules : List Rule) (records pool text : List ℕ) (at k : ℕ) : Type 0 where
  pub within : at ≤ length text
  pub few : k ≤ record_count records
  pub behind : drop at text ≡ join (tokens_in pool (left records k))
  pub each : All (InPool pool) (left records k)
  pub faults : first_fault (fault_of rules pool) (records_of records) 0 ≡ first_fault (fault_of rules pool) (left records k) k
  pub first : first_extended rules (tokens_of records pool) 0 ≡ first_extended rules (tokens_in pool (left records k)) k

pub retracing_start : {rules : List Rule} {records pool text : List ℕ} → Spread records pool text → Retracing rules records pool text 0 0
retracing_start {records = records} s =
    record {
      within = omega arith;
      few = omega arith;
      behind = rw left-start at s.written;
      each = rw left-start at s.each;
      faults = rw left-start;
      first = rw left-start;
    }

module _ {rules : List Rule} {records pool text : List ℕ} {at k : ℕ} (w : Retracing rules records pool text at k) where
  module _ (empty : first_match rules [] ≡ none) (more : k < record_count records) {r : TokenRecord} (e : r ≡ record_at records k) where
    front_is : left records k ≡ r ∷ left records (k + 1)
    front_is = left_next records k more ∙ ap (λ (q : TokenRecord). q ∷ left records (k + 1)) (sym e)

    each_here : All (InPool pool) (r ∷ left records (k + 1))
    each_here = subst (All (InPool pool)) front_is w.each

    in_pool : r.place + r.len ≤ length pool
    in_pool = each_here.0.in_pool

    split : drop at text ≡ bytes_in pool r ++ join (tokens_in pool (left records (k + 1)))
    unfolding tokens_in
    split = rw front_is at w.behind

    long : length (bytes_in pool r) ≡ r.len
    long = bytes_length pool r in_pool

    pub retracing_within : at + r.len ≤ length text
    retracing_within =
        let l = simp (length-drop, length-append) at (ap length split) in
        omega (arith, w.within, long)

    here_first : (Faultless rules records pool → first_extended rules (tokens_of records pool) 0 ≡ some (record { reason = ReadOn; place = k }))
        → ReadsBack rules records pool k
    here_first f = record { settled = λ l. absurd (omega arith); first = λ _. f }

    module _ {rule len : ℕ} (c : Chooses rules (drop at text) rule len) where
      chosen_here : Chooses rules (bytes_in pool r ++ join (tokens_in pool (left records (k + 1)))) rule len
      chosen_here = subst (λ (x : List ℕ). Chooses rules x rule len) split c

      -- if no token is at fault, this one is chosen, or read on
      module _ (none-at-fault : Faultless rules records pool) where
        token_fine : Fine rules pool r
        token_fine =
            fine rules pool r
            (faultless_front (fault_of rules pool) r (left records (k + 1)) k (rw front_is at (sym w.faults ∙ none-at-fault))).0

        matched : first_match rules (bytes_in pool r) ≡ some r.tag
        matched = alone_first rules r.tag (bytes_in pool r) token_fine.alone

        reading_on : (len ≡ r.len → ⊥) → first_extended rules (tokens_of records pool) 0 ≡ some (record { reason = ReadOn; place = k })
        unfolding tokens_in
        reading_on ne =
            w.first ∙ rw front_is
            (extended_here rules (token_in pool r) (tokens_in pool (left records (k + 1))) k
            (read_on rules (bytes_in pool r) (join (tokens_in pool (left records (k + 1)))) r.tag empty matched chosen_here
            (λ q. ne (q ∙ long))))

        none_chosen : len ≡ 0 → len ≡ r.len → ⊥
        none_chosen z q = let l = matched_long rules (bytes_in pool r) r.tag empty matched in omega (arith, long)

        unranked : Ranks rules r.tag (length rules) → ⊥
        unranked ranks = clash token_fine.known (ranks_none ranks refl)

        another_rule : {rank : ℕ} → Ranks rules r.tag rank → 0 < len → len ≡ r.len → (rule ≡ rank → ⊥) → ⊥
        another_rule ranks some_byte all ne =
            clash token_fine.alone
            (front_other ranks (λ z. clash token_fine.known (ranks_none ranks z)) (bytes_in pool r)
            (join (tokens_in pool (left records (k + 1)))) chosen_here (λ z. omega arith) (all ∙ sym long) ne)

      -- the token is not what is chosen
      pub retracing_none : len ≡ 0 → ReadsBack rules records pool k
      retracing_none z = here_first (λ f. reading_on f (none_chosen f z))

      pub retracing_longer : (len ≡ r.len → ⊥) → ReadsBack rules records pool k
      retracing_longer ne = here_first (λ f. reading_on f ne)

      module _ (some_byte : 0 < len) (all : len ≡ r.len) where
        pub retracing_other : (o : Maybe ℕ)
            → MatchOption o (Ranks rules r.tag (length rules)) (λ (i : ℕ). (i < length rules) × Ranks rules r.tag i)
            → not (option_eq eqb o (Some rule)) ≡ true → ReadsBack rules records pool k
        retracing_other None ranks ne = here_first (λ f. absurd (unranked f ranks))
        retracing_other (Some rank) ranks ne =
            here_first (λ f. absurd (another_rule f ranks.1 some_byte all (λ e. clash ne (ap not (eq-eqb rank rule (sym e))))))

        -- the token itself is chosen
        module _ (ranks : (rule < length rules) × Ranks rules r.tag rule) where
          known : rule ≡ length rules → ⊥
          known z = let l = ranks.0 in omega arith

          alone : alone_in rules r.tag (bytes_in pool r) ≡ true
          alone = front_same ranks.1 known (bytes_in pool r) (join (tokens_in pool (left records (k + 1)))) chosen_here (λ z. omega arith)
              (all ∙ sym long) refl

          no_fault : fault_of rules pool r ≡ none
          no_fault = fault_none rules pool r in_pool (ranks_some ranks.1 known) alone

          pub retracing_next : Retracing rules records pool text (at + r.len) (k + 1)
          unfolding first_fault tokens_in refuse_by
          retracing_next =
              record {
                within = retracing_within;
                few = omega arith;
                behind = sym (drop-drop r.len at text) ∙ rw split
                    (drop_at (bytes_in pool r) (join (tokens_in pool (left records (k + 1)))) r.len long);
                each = each_here.1;
                faults = w.faults ∙ rw (front_is, no_fault, add-one);
                first = w.first ∙ rw front_is
                    (extended_later rules (token_in pool r) (tokens_in pool (left records (k + 1))) k
                    (read_no_more rules (bytes_in pool r) (join (tokens_in pool (left records (k + 1)))) r.tag empty
                    (alone_first rules r.tag (bytes_in pool r) alone) chosen_here (all ∙ sym long))
                    ∙ ap (first_extended rules (tokens_in pool (left records (k + 1)))) (sym (add-one k)));
              }

  pub retracing_end : record_count records ≤ k → ReadsBack rules records pool k
  unfolding first_fault first_extended tokens_in
  retracing_end l =
      record {
        settled = λ _. record { faultless = w.faults ∙ rw (left_end records k l); apart = w.first ∙ rw (left_end records k l) };
        first = λ m. absurd (omega arith);
      }
