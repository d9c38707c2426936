-- The loop of `run`: what is next, what holds at its head, and how a token keeps it. Assumes nothing.
use mathlib.Core.Path.{◌≡◌, refl, sym, ◌∙◌, ap, subst}
use mathlib.Core.Bool.{Bool, true, false}
use Rattle.std.specs.Prelude.{Option as Maybe, None, Some, IfSome}
use mathlib.Core.Option.{Option, none, some}
use mathlib.Core.List.{List, [], ◌∷◌, ◌++◌}
use Prim.Native.Nat.{ℕ, ◌+◌, ◌-◌, ◌*◌, ◌<◌, ◌≤◌, min}
use native.Mathlib.Omega.{arith}
use lib.Dec.{ltb}
use lib.ListN.{length, take, drop, length-drop, length-map, drop_of_length-le}
use lib.Seq.{take_all, length-take-le, drop-drop}
use borrow.Author.Tests.{ltb-true, ltb-false}
use Rattle.big_endian.specs.Numbers.{four}
use Rattle.automaton.specs.Choice.{All}
use Rattle.automaton.specs.Rule.{Rule, Sound}
use Rattle.automaton.specs.Layers.{rule_at}
use Rattle.longest_match.specs.Lexer.{Token, Found, choose}
use Rattle.longest_match.specs.Steps.{prefixes}
use Rattle.longest_match.specs.Masks.{masks_of}
use Rattle.longest_match.specs.Layers.{chosen_rule, chosen_len, chosen_mask, Chooses, Agrees, Picks, Walks}
use Rattle.longest_match.specs.declared.Choice.{Choice}
use Rattle.longest_match.proofs.Choosing.{choose_some}
use Rattle.longest_match.proofs.Far.{prefixes_window}
use Rattle.longest_match.proofs.Agreeing.{steps_chosen, steps-agreed}
use Rattle.record.specs.Records.{record_of, records_at}
use Rattle.record.specs.Masks.{mask_bytes}
use Rattle.record.proofs.Records.{length_records}
use Rattle.record.proofs.Masks.{length_mask_bytes}
use Rattle.turns.specs.Reach.{all_fail, reach}
use Rattle.turns.specs.Turn.{Turn, turn}
use Rattle.turns.specs.declared.running.NextToken.{NextToken}
use Rattle.turns.specs.Layers.{Next, KeepRoom, Keeps, turn_at, Room, Turned, Stores}
use Rattle.turns.proofs.Reaching.{reach-idle, reach-covers, reach_some, reach-past, reach-all, reach-fits}
use Rattle.turns.proofs.Turning.{turn-done, turn_more, turn_end}
use Rattle.output.proofs.Filling as output

-- ---- what is next

-- nothing is left
pub next_none : (rules : List Rule) → all_fail rules [] ≡ false → (text : List ℕ) (left : ℕ) → 0 < length text → left ≡ 0
    → left < reach rules text
next_none rules stirs text left l z = rw z (reach_some rules stirs text l)

-- the rules walk on behind what is left
pub next_past : (rules : List Rule) → all_fail rules [] ≡ false → (text : List ℕ) (left : ℕ) {ns : List ℕ} {m far : ℕ} → m ≡ left
    → m < length text → Walks rules (take m text) ns far → m < far → left < reach rules text
next_past rules stirs text left {ns} {m} {far} e l w f = rw (← e) (reach-past rules stirs text m far (omega arith) w.far f l)

-- they have come to their error states within the first m bytes, or these are all
pub next_fits : (n : ℕ) {rules : List Rule} → All (Sound n) rules → all_fail rules [] ≡ false → {text : List ℕ} {left m far : ℕ}
    → m ≤ length text → m ≤ left → {ns : List ℕ} → Walks rules (take m text) ns far → (m < far → m ≡ length text)
    → {chosen : Maybe Choice} → Picks (take (length rules) ns) (chosen_rule chosen) (chosen_len chosen) (chosen_mask chosen)
    → IfSome chosen (λ c. 0 < c.len)
    → {paid : ℕ} → paid ≡ min far m
    → Next rules text left (record { chosen = chosen; paid = paid })
next_fits n {rules} sound stirs {text} {left} {m} {far} inside l {ns} w all {chosen} p byte {paid} e = record {
  paid_is = e ∙ settled.0;
  within = omega arith;
  chooses = steps_chosen (w.front_is ∙ settled.1) p;
  agrees = steps-agreed (w.front_is ∙ settled.1) p;
  some_byte = byte;
}
  where
    settled : (min far m ≡ reach rules text) × (prefixes rules (take m text) ≡ prefixes rules text)
    settled = go (ltb m far) refl
      where
        go : (b : Bool) → ltb m far ≡ b → (min far m ≡ reach rules text) × (prefixes rules (take m text) ≡ prefixes rules text)
        go true e =
            let f : m < far = ltb-true m far e in
            let q : m ≡ length text = all f in
            (omega (arith, reach-all rules stirs text m far inside w.far f q), ap (prefixes rules) (take_all m text (omega arith)))
        go false e =
            let f : far ≤ m = ltb-false m far e in
            (omega (arith, reach-fits rules stirs text m far inside w.far f), prefixes_window n rules sound text m far inside w.far f)

-- the same by its parts, with 0 for what is not chosen
pub record Takes (rules : List Rule) (text : List ℕ) (left rule len mask paid : ℕ) : Type 0 where
  pub paid_is : paid ≡ reach rules text
  pub within : paid ≤ left
  pub chooses : Chooses rules text rule len
  pub agrees : Agrees rules text len mask

module _ {rules : List Rule} {text : List ℕ} {left : ℕ} {n : NextToken} (x : Next rules text left n) where
  next_parts : (chosen : Maybe Choice) → n.chosen ≡ chosen
      → Takes rules text left (chosen_rule chosen) (chosen_len chosen) (chosen_mask chosen) n.paid
  next_parts chosen e = record {
    paid_is = x.paid_is;
    within = x.within;
    chooses = rw e at x.chooses;
    agrees = rw e at x.agrees;
  }

  pub next_nothing : n.chosen ≡ None → Takes rules text left 0 0 0 n.paid
  next_nothing e = next_parts None e

  pub next_taken : {c : Choice} → n.chosen ≡ Some c → Takes rules text left c.rule c.len c.mask n.paid
  next_taken {c} e = next_parts (Some c) e

  pub next_byte : {c : Choice} → n.chosen ≡ Some c → 0 < c.len
  next_byte {c} e = rw e at x.some_byte

-- ---- one token more, or none

module _ {rules : List Rule} (text : List ℕ) (at : ℕ) {left rule len mask paid : ℕ}
    (x : Takes rules (drop at text) left rule len mask paid) where
  next_paid : paid ≡ reach rules (drop at text)
  next_paid = x.paid_is

  fits : reach rules (drop at text) ≤ left
  fits = omega (arith, next_paid, x.within)

  -- no token begins here
  pub turn_stops : len ≡ 0 → turn_at rules text at left ≡ record { tokens = []; rest = drop at text; examined = paid; finished = true }
  turn_stops z = turn-done rules (drop at text) left fits (x.chooses.nothing z) ∙ rw next_paid

  module _ (p : 0 < len) where
    -- the token that is chosen at `at`, and the turn behind it
    abbrev token_here_lem : Token
    token_here_lem = record { tag = (rule_at rules rule).tag; bytes = take len (drop at text) }

    abbrev behind : Turn
    behind = turn_at rules text (at + len) (left - paid)

    turn_next : turn_at rules text at left ≡ record {
      tokens = token_here_lem ∷ behind.tokens;
      rest = behind.rest;
      examined = paid + behind.examined;
      finished = behind.finished;
    }
    turn_next = turn_more rules (drop at text) left fits _ (x.chooses.chosen p) ∙ rw (drop-drop, ← next_paid)

-- all rules start in their error states
pub turn-idle : (n : ℕ) (rules : List Rule) → All (Sound n) rules → all_fail rules [] ≡ true → (text : List ℕ) (left : ℕ)
    → turn rules text left ≡ record { tokens = []; rest = text; examined = 0; finished = true }
turn-idle n rules sound e text left =
    let z = reach-idle rules text e in
    turn-done rules text left (omega arith) (go (choose rules text) refl) ∙ rw z
  where
    go : (o : Option Found) → choose rules text ≡ o → o ≡ none
    go none q = refl
    go (some f) q =
        absurd (omega (arith, reach-covers n rules sound text f q, (choose_some rules text f q).moves, reach-idle rules text e))

-- ---- the loop

-- the bytes of the records, and of the masks, of the tokens of a turn
abbrev records_from : List Rule → List ℕ → ℕ → ℕ → List ℕ
records_from rules text at left = records_at at (turn_at rules text at left).tokens

abbrev masks_from : List Rule → List ℕ → ℕ → ℕ → List ℕ
masks_from rules text at left = mask_bytes (masks_of rules (turn_at rules text at left).tokens)

-- n tokens are cut and lie from `place` to before `at`, so much is left of the budget, and the turn goes on from there
pub record Paying (rules : List Rule) (text : List ℕ) (place budget at left n : ℕ) : Type 0 where
  pub within : at ≤ length text
  pub few : place + n ≤ at
  pub affords : left ≤ budget
  pub count : length (turn_at rules text place budget).tokens ≡ n + length (turn_at rules text at left).tokens
  pub rest : (turn_at rules text place budget).rest ≡ (turn_at rules text at left).rest
  pub examined : (turn_at rules text place budget).examined ≡ budget - left + (turn_at rules text at left).examined
  pub finished : (turn_at rules text place budget).finished ≡ (turn_at rules text at left).finished

-- and their records and masks stand at the fronts, or nothing is written
pub record Running (writing : Bool) (rules : List Rule) (text : List ℕ) (place budget : ℕ) (entry records masks-entry masks : List ℕ)
    (at left n : ℕ) : Type 0 where
  pub pays : Paying rules text place budget at left n
  pub stored : writing ≡ true → output.Filling (records_from rules text place budget) (records_from rules text at left) entry records (10 * n)
  pub masked : writing ≡ true → output.Filling (masks_from rules text place budget) (masks_from rules text at left) masks-entry masks (4 * n)
  pub kept : writing ≡ false → records ≡ entry
  pub masks_kept : writing ≡ false → masks ≡ masks-entry

module _ (writing : Bool) (rules : List Rule) (text : List ℕ) (place budget : ℕ) where
  records_length : length (records_from rules text place budget) ≡ 10 * length (turn_at rules text place budget).tokens
  records_length = length_records (turn_at rules text place budget).tokens place

  masks_length : length (masks_from rules text place budget) ≡ 4 * length (turn_at rules text place budget).tokens
  masks_length =
      length_mask_bytes (masks_of rules (turn_at rules text place budget).tokens)
      ∙ ap (λ (n : ℕ). 4 * n) (length-map (turn_at rules text place budget).tokens _)

  pub running_start : (entry masks-entry : List ℕ) → place ≤ length text
      → (writing ≡ true → Room rules text place budget entry masks-entry)
      → Running writing rules text place budget entry entry masks-entry masks-entry place budget 0
  running_start entry masks-entry l room = record {
    pays = record {
      within = l;
      few = omega arith;
      affords = omega arith;
      count = omega arith;
      rest = refl;
      examined = omega arith;
      finished = refl;
    };
    stored = λ e. output.filling_start _ entry (omega (arith, records_length, (room e).in_records));
    masked = λ e. output.filling_start _ masks-entry (omega (arith, masks_length, (room e).in_masks));
    kept = λ e. refl;
    masks_kept = λ e. refl;
  }

module _ {writing : Bool} {rules : List Rule} {text : List ℕ} {place budget : ℕ} {entry records masks-entry masks : List ℕ} {at left n : ℕ}
    (w : Running writing rules text place budget entry records masks-entry masks at left n) where
  module _ {rule len mask paid : ℕ} (x : Takes rules (drop at text) left rule len mask paid) (p : 0 < len) where
    pub running_within : at + len ≤ length text
    running_within = omega (arith, w.pays.within, simp length-drop at x.chooses.within)

    -- the bytes of one token, and those of the tokens behind it
    recorded : (tag : ℕ) → tag ≡ (rule_at rules rule).tag
        → records_from rules text at left ≡ record_of tag at len ++ records_from rules text (at + len) (left - paid)
    unfolding records_at
    recorded tag tagged = rw (turn_next text at x p, length-take-le len (drop at text) x.chooses.within, tagged)

    agreed : masks_from rules text at left ≡ four mask ++ masks_from rules text (at + len) (left - paid)
    unfolding mask_bytes
    agreed = rw (turn_next text at x p, x.agrees.agreed p)

    -- there is room for one more, if it is written
    pub running_room : KeepRoom writing n records masks
    running_room = record {
      in_records = λ e. output.filling_room (w.stored e) (record_of _ at len) _ (recorded _ refl);
      in_masks = λ e. output.filling_room (w.masked e) (four mask) _ agreed;
    }

    pub running_next : {tag : ℕ} {records-after masks-after : List ℕ} → tag ≡ (rule_at rules rule).tag
        → Keeps writing n tag at len mask records records-after masks masks-after
        → Running writing rules text place budget entry records-after masks-entry masks-after (at + len) (left - paid) (n + 1)
    running_next {tag} tagged k =
        let e = turn_next text at x p in
        let pays = w.pays in
        let count = rw e at pays.count in
        let examined = rw e at pays.examined in
        let ten : 10 * n + 10 ≡ 10 * (n + 1) = omega arith in
        let four_more : 4 * n + 4 ≡ 4 * (n + 1) = omega arith in
        record {
          pays = record {
            within = running_within;
            few = omega (arith, pays.few);
            affords = omega (arith, pays.affords);
            count = omega arith;
            rest = rw e at pays.rest;
            examined = omega (arith, x.within, pays.affords);
            finished = rw e at pays.finished;
          };
          stored = λ b. subst
              (output.Filling (records_from rules text place budget) (records_from rules text (at + len) (left - paid)) entry _) ten
              (output.filling_next (w.stored b) (record_of tag at len) _ (recorded tag tagged) (record_of tag at len) refl refl
              (k.stored b));
          masked = λ b. subst
              (output.Filling (masks_from rules text place budget) (masks_from rules text (at + len) (left - paid)) masks-entry _) four_more
              (output.filling_next (w.masked b) (four mask) _ agreed (four mask) refl refl (k.masked b));
          kept = λ b. k.left b ∙ w.kept b;
          masks_kept = λ b. k.masks_left b ∙ w.masks_kept b;
        }

  -- the turn ends here, and pays so much more
  module _ {more : ℕ} {finished : Bool}
      (e : turn_at rules text at left ≡ record { tokens = []; rest = drop at text; examined = more; finished = finished }) where
    pub running_stop : {examined : ℕ} → examined ≡ budget - left + more → Turned rules text place budget n at examined finished
    running_stop q =
        let count = rw e at w.pays.count in
        let r : (turn_at rules text place budget).rest ≡ drop at text = rw e at w.pays.rest in
        record {
          tokens_are = omega arith;
          next_is = rw r (simp length-drop (omega (arith, w.pays.within)));
          examined_is = q ∙ sym (rw e at w.pays.examined);
          finished_is = sym (rw e at w.pays.finished);
        }

    pub running_stores : Stores writing rules text place budget entry records masks-entry masks
    unfolding records_at mask_bytes
    running_stores = record {
      written = λ b. rw (records_length writing rules text place budget) at (output.filling_end (w.stored b) (rw e));
      agreed = λ b. rw (masks_length writing rules text place budget) at (output.filling_end (w.masked b) (rw e));
      left = w.kept;
      masks_left = w.masks_kept;
    }

-- at the end of the text
pub turn-past : (rules : List Rule) (text : List ℕ) (at left : ℕ) → length text ≤ at
    → turn_at rules text at left ≡ record { tokens = []; rest = drop at text; examined = 0; finished = true }
turn-past rules text at left l = rw (drop_of_length-le text l) (turn_end rules left)
