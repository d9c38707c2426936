-- Cutting in turns: what the calls say, and that turns repeated to the finish are the single cut. Assumes nothing.
use Rattle.std.specs.Prelude.{Err}
use Rattle.answer.specs.declared.Reason.TheVariants.{PastTheText, TextTooLong, TooFewRecords}
use Rattle.answer.specs.Answers.{lexed, turned}
use mathlib.Core.Path.{◌≡◌, refl, sym, ap, ◌∙◌, subst}
use mathlib.Core.Logic.{◌⊎◌, inl, inr}
use mathlib.Core.Bool.{Bool, true, false}
use mathlib.Core.Option.{none}
use mathlib.Core.List.{List, [], ◌∷◌, ◌++◌, append_assoc, append-nil}
use Prim.Native.Nat.{ℕ, ◌+◌, ◌-◌, ◌*◌, ◌<◌, ◌≤◌}
use native.Mathlib.Omega.{arith}
use lib.Dec.{ltb}
use lib.ListN.{length, take, drop, length-append, length-drop, length-map}
use lib.Seq.{take_at, drop_at, drop-drop, take-take}
use borrow.Author.Tests.{lt-ltb, le-ltb, ltb-false, eq-eqb}
use Rattle.answer.specs.declared.Refusal.{Refusal}
use Rattle.answer.specs.declared.Turn.{Turn as Said}
use Rattle.automaton.specs.Choice.{if, All}
use Rattle.automaton.specs.Rule.{Rule, Sound, state_count}
use Rattle.automaton.proofs.Tests.{clash, all_map, all_left}
use Rattle.book.specs.Limits.{max_text}
use Rattle.book.specs.Valid.{ValidRule}
use Rattle.reader.specs.Reading.{Reading, accepted, refused, read_book}
use Rattle.longest_match.specs.Lexer.{Token, Lexed, choose, lex, join}
use Rattle.longest_match.specs.Masks.{masks_of}
use Rattle.longest_match.proofs.Choosing.{choose_none, chosen_drop}
use Rattle.longest_match.proofs.Lexing.{join-append, lex_tags}
use Rattle.longest_match.proofs.Parts.{part-front, part_bytes}
use Rattle.longest_match.proofs.Cutting.{lex_stop}
use Rattle.record.specs.Records.{records_at, record_count}
use Rattle.record.specs.Tokens.{tokens_of}
use Rattle.record.specs.Masks.{mask_bytes, mask_count}
use Rattle.record.proofs.Records.{length_records, records_append}
use Rattle.record.proofs.Masks.{length_mask_bytes}
use Rattle.lexer.proofs.Masking.{masked_lexed}
use Rattle.turns.specs.Reach.{all_fail, reach}
use Rattle.turns.specs.Turn.{Turn, turn}
use Rattle.turns.specs.Outcome.{TurnOutcome, turn_refused, turn_accepted, room_in, turn_rules, turn_reading, turn_outcome}
use Rattle.turns.proofs.Reaching.{each_fails, reach-fewest}
use Rattle.turns.proofs.Turning.{by_ways, turn-ends, turn_begins, turn-larger, Begins, Larger}
use Rattle.turns.proofs.Alike.{Agree, Same, turn-alike}
use Rattle.printer.proofs.ReadBack.{Storable, records_say}
use Rattle.printer.proofs.RoundTrip.{same_rules, lexed_cut}
use Rattle.zagvulem.proofs.Refused.{turn_refused_lem}
use Rattle.demands.specs.Calls.{records_in, mask_bytes_in, Cut, Turning}
use Rattle.demands.specs.Words.{Book, LongestMatch}
use Rattle.demands.specs.Turns.{AllStopped, ReachIsFewest, RefusedTurn, PastTheTurn, TurnTooLong, PlacePastText, TurnTooFew}
use Rattle.demands.specs.Turns.{TurnIsAccepted, reaches, Says, list_of, TurnSays, LargerExtends, LooksNoFurther, Taken, FromTo, Finish}
use Rattle.demands.specs.Turns.{given, agreed, TurnsBegin, TurnsAreLongestMatch, TurnsAreCut, EveryTurn}
use Rattle.demands.proofs.LongestMatch.{lex-longest}
use Rattle.demands.proofs.Demands.{valid, tokens_are}
use Rattle.demands.proofs.Masks.{accepted_is_cut}
use Rattle.printer.proofs.RoundTrip as trip

-- ---- the reach

all_stopped : (rules : List Rule) (w : List ℕ) → AllStopped rules w → all_fail rules w ≡ true
unfolding all_fail
all_stopped [] w h = refl
all_stopped (r ∷ rs) w (e, h) = rw (eq-eqb _ _ e, all_stopped rs w h)

pub reach_is_fewest : ReachIsFewest
reach_is_fewest rules text =
    let f = reach-fewest rules text in
    record {
      within = f.within;
      not_before = λ k l h. clash (all_stopped rules (take k text) h) (f.before k l);
      stopped = λ l. each_fails rules (take (reach rules text) text) (f.here l);
    }

-- ---- a call, refused or not

-- equal answers have equal parts
equal_parts : {n next examined m place bytes : ℕ} {finished done : Bool} → turned n next examined finished ≡ turned m place bytes done
    → (n ≡ m) × (next ≡ place) × (examined ≡ bytes) × (finished ≡ done)
equal_parts {n} {next} {examined} {m} {place} {bytes} {finished} {done} e =
    let q : ◌≡◌ {A = Said} (record { tokens = n; next = next; examined = examined; finished = finished })
    (record { tokens = m; next = place; examined = bytes; finished = done }) = cc in (
      ap (λ (t : Said). t.tokens) q,
      ap (λ (t : Said). t.next) q,
      ap (λ (t : Said). t.examined) q,
      ap (λ (t : Said). t.finished) q,
    )

module _ (book text : List ℕ) (place budget : ℕ) (entry masks : List ℕ) where
  abbrev outcome : TurnOutcome
  outcome = turn_outcome book text place budget entry masks

  -- refused, it leaves what it was lent
  leaves : (r : Refusal) → outcome.answer ≡ Err r → (outcome.records ≡ entry) × (outcome.masks ≡ masks)
  unfolding turn_outcome turn_rules
  leaves r e = go (read_book book) e
    where
      by_rules : (rules : List Rule) (long past few : Bool)
          → (if long (turn_refused TextTooLong 0 entry masks) (if past (turn_refused PastTheText 0 entry masks)
          (if few (turn_refused TooFewRecords (length (turn rules (drop place text) budget).tokens) entry masks)
          (turn_accepted rules (turn rules (drop place text) budget) text place entry masks)))).answer ≡ Err r
          → ((if long (turn_refused TextTooLong 0 entry masks) (if past (turn_refused PastTheText 0 entry masks)
          (if few (turn_refused TooFewRecords (length (turn rules (drop place text) budget).tokens) entry masks)
          (turn_accepted rules (turn rules (drop place text) budget) text place entry masks)))).records ≡ entry)
          × ((if long (turn_refused TextTooLong 0 entry masks) (if past (turn_refused PastTheText 0 entry masks)
          (if few (turn_refused TooFewRecords (length (turn rules (drop place text) budget).tokens) entry masks)
          (turn_accepted rules (turn rules (drop place text) budget) text place entry masks)))).masks ≡ masks)
      by_rules rules true past few q = (refl, refl)
      by_rules rules false true few q = (refl, refl)
      by_rules rules false false true q = (refl, refl)
      by_rules rules false false false q = let y : ◌≡◌ {A = ℕ} 0 1 = cc in absurd (omega arith)

      go : (o : Reading) → (turn_reading o text place budget entry masks).answer ≡ Err r
          → ((turn_reading o text place budget entry masks).records ≡ entry)
          × ((turn_reading o text place budget entry masks).masks ≡ masks)
      go (refused _ at) q = (refl, refl)
      go (accepted rules) q = by_rules rules (ltb max_text (length text)) (ltb (length text) place)
          (ltb (room_in entry masks) (length (turn rules (drop place text) budget).tokens)) q

  -- accepted, it is the turn by the book's rules
  pub record Accepted (n next examined : ℕ) (finished : Bool) : Type 0 where
    pub rules : List Rule
    pub reads : read_book book ≡ accepted rules
    pub short : length text ≤ max_text
    pub inside : place ≤ length text
    pub count : n ≡ length (turn rules (drop place text) budget).tokens
    pub next_is : next ≡ length text - length (turn rules (drop place text) budget).rest
    pub examined_is : examined ≡ (turn rules (drop place text) budget).examined
    pub finished_is : finished ≡ (turn rules (drop place text) budget).finished
    pub leaves_records : outcome.records
        ≡ records_at place (turn rules (drop place text) budget).tokens
        ++ drop (10 * length (turn rules (drop place text) budget).tokens) entry
    pub leaves_masks : outcome.masks
        ≡ mask_bytes (masks_of rules (turn rules (drop place text) budget).tokens)
        ++ drop (4 * length (turn rules (drop place text) budget).tokens) masks
    pub enough : length (turn rules (drop place text) budget).tokens ≤ room_in entry masks

  accepts : (rules : List Rule) → read_book book ≡ accepted rules → length text ≤ max_text → place ≤ length text
      → length (turn rules (drop place text) budget).tokens ≤ room_in entry masks
      → outcome ≡ turn_accepted rules (turn rules (drop place text) budget) text place entry masks
  unfolding turn_outcome turn_rules
  accepts rules e l p m = rw (e, le-ltb _ _ l, le-ltb _ _ p, le-ltb _ _ m)

  taken : (n next examined : ℕ) (finished : Bool) → outcome.answer ≡ turned n next examined finished
      → Accepted n next examined finished
  unfolding turn_outcome turn_rules
  taken n next examined finished e = go (read_book book) refl e
    where
      passed : (rules : List Rule) (long : Bool) → ltb max_text (length text) ≡ long → (past : Bool) → ltb (length text) place ≡ past
          → (few : Bool) → ltb (room_in entry masks) (length (turn rules (drop place text) budget).tokens) ≡ few
          → (if long (turn_refused TextTooLong 0 entry masks) (if past (turn_refused PastTheText 0 entry masks)
          (if few (turn_refused TooFewRecords (length (turn rules (drop place text) budget).tokens) entry masks)
          (turn_accepted rules (turn rules (drop place text) budget) text place entry masks)))).answer
          ≡ turned n next examined finished
          → (long ≡ false) × (past ≡ false) × (few ≡ false)
      passed rules true a past b few d q = let y : ◌≡◌ {A = ℕ} 0 1 = cc in absurd (omega arith)
      passed rules false a true b few d q = let y : ◌≡◌ {A = ℕ} 0 1 = cc in absurd (omega arith)
      passed rules false a false b true d q = let y : ◌≡◌ {A = ℕ} 0 1 = cc in absurd (omega arith)
      passed rules false a false b false d q = (refl, refl, refl)

      go : (o : Reading) → read_book book ≡ o
          → (turn_reading o text place budget entry masks).answer ≡ turned n next examined finished
          → Accepted n next examined finished
      go (refused _ at) r q = let y : ◌≡◌ {A = ℕ} 0 1 = cc in absurd (omega arith)
      go (accepted rules) r q =
          let p = passed rules (ltb max_text (length text)) refl (ltb (length text) place) refl
          (ltb (room_in entry masks) (length (turn rules (drop place text) budget).tokens)) refl q in
          let l : length text ≤ max_text = ltb-false _ _ p.0 in
          let i : place ≤ length text = ltb-false _ _ p.1 in
          let m : length (turn rules (drop place text) budget).tokens ≤ room_in entry masks = ltb-false _ _ p.2 in
          let o = accepts rules r l i m in
          let a : turned n next examined finished
          ≡ (turn_accepted rules (turn rules (drop place text) budget) text place entry masks).answer =
          sym e ∙ ap (λ (x : TurnOutcome). x.answer) o in
          record {
            rules = rules;
            reads = r;
            short = l;
            inside = i;
            count = (equal_parts a).0;
            next_is = (equal_parts a).1;
            examined_is = (equal_parts a).2;
            finished_is = (equal_parts a).3;
            leaves_records = ap (λ (x : TurnOutcome). x.records) o;
            leaves_masks = ap (λ (x : TurnOutcome). x.masks) o;
            enough = m;
          }

pub refused_turn : RefusedTurn
refused_turn book text place budget entry exit masks after r c =
    let kept = leaves book text place budget entry masks r (sym c.answers) in (
      (turn_refused_lem book text place budget entry masks r (sym c.answers)).number_among,
      c.leaves ∙ kept.0,
      c.leaves_masks ∙ kept.1,
    )

pub past_the_turn : PastTheTurn
past_the_turn book text place budget entry exit masks after n next examined finished c =
    let a = taken book text place budget entry masks n next examined finished (sym c.answers) in
    let ts = (turn a.rules (drop place text) budget).tokens in
    let l : length (records_at place ts) ≡ 10 * n = length_records ts place ∙ ap (λ (x : ℕ). 10 * x) (sym a.count) in
    let m : length (mask_bytes (masks_of a.rules ts)) ≡ 4 * n =
    length_mask_bytes (masks_of a.rules ts) ∙ ap (λ (x : ℕ). 4 * x) (length-map ts _ ∙ sym a.count) in (
      ap (drop (10 * n)) (c.leaves ∙ a.leaves_records) ∙ drop_at (records_at place ts) _ (10 * n) l
          ∙ ap (λ (x : ℕ). drop (10 * x) entry) (sym a.count),
      ap (drop (4 * n)) (c.leaves_masks ∙ a.leaves_masks) ∙ drop_at (mask_bytes (masks_of a.rules ts)) _ (4 * n) m
          ∙ ap (λ (x : ℕ). drop (4 * x) masks) (sym a.count),
    )

-- ---- the refusals behind those of the book

module _ (book : List ℕ) (rules : List Rule) (reads : read_book book ≡ accepted rules) where
  pub turn_too_long : TurnTooLong book rules reads
  unfolding turn_outcome turn_rules
  turn_too_long text place budget entry exit masks after r c l = c.answers ∙ rw (reads, lt-ltb _ _ l)

  pub place-past_text : PlacePastText book rules reads
  unfolding turn_outcome turn_rules
  place-past_text text place budget entry exit masks after r c l p = c.answers ∙ rw (reads, le-ltb _ _ l, lt-ltb _ _ p)

  pub turn_too_few : TurnTooFew book rules reads
  unfolding turn_outcome turn_rules
  turn_too_few text place budget entry exit masks after r c l p few =
      c.answers ∙ rw (reads, le-ltb _ _ l, le-ltb _ _ p, lt-ltb _ _ (room few))
    where
      room : (record_count entry < length (turn rules (drop place text) budget).tokens)
          ⊎ (mask_count masks < length (turn rules (drop place text) budget).tokens)
          → room_in entry masks < length (turn rules (drop place text) budget).tokens
      room (inl q) = omega arith
      room (inr q) = omega arith

  pub turn_is_accepted : TurnIsAccepted book rules reads
  turn_is_accepted text place budget entry exit masks after r c l p m n = (
    _,
    _,
    _,
    c.answers
        ∙ ap (λ (x : TurnOutcome). x.answer) (accepts book text place budget entry masks rules reads l p (omega arith)),
  )

-- ---- what an accepted turn says

-- the reaches paid for are those at the places of the tokens, and that of the place where it finished
turn-sum : (rules : List Rule) (text : List ℕ) (left : ℕ)
    → (turn rules text left).examined
    ≡ reaches rules text (turn rules text left).tokens
    + if (turn rules text left).finished (reach rules (turn rules text left).rest) 0
turn-sum rules = by_ways rules (λ text left t. t.examined ≡ reaches rules text t.tokens + if t.finished (reach rules t.rest) 0)
    (λ text left l. refl)
    (λ text left l e. omega arith)
    (λ text left f l e t sum. rw (← (chosen_drop rules text f e)) (omega (arith, sum)))

-- masks one behind the other
masks_append : (rules : List Rule) (ts us : List Token)
    → mask_bytes (masks_of rules (ts ++ us)) ≡ mask_bytes (masks_of rules ts) ++ mask_bytes (masks_of rules us)
unfolding mask_bytes
masks_append rules [] us = refl
masks_append rules (t ∷ ts) us = rw (masks_append rules ts us, append_assoc)

-- tokens and rest, joined, are what follows the place
module _ (text : List ℕ) (place : ℕ) (inside : place ≤ length text) (ts : List Token) (rest : List ℕ)
    (joined : join ts ++ rest ≡ drop place text) where
  lengths : place + length (join ts) + length rest ≡ length text
  lengths = omega (arith, ap length joined, length-append (join ts) rest, length-drop place text)

  next_drop : drop (length text - length rest) text ≡ rest
  next_drop =
      let e : length text - length rest ≡ place + length (join ts) = omega (arith, lengths) in
      rw (e, ← (drop-drop (length (join ts)) place text), ← joined) (drop_at (join ts) rest (length (join ts)) refl)

module _ (book : List ℕ) (rules : List Rule) (b : Book book rules) where
  -- the tags of the first tokens of a cut can be stored
  pub first_tags : (text : List ℕ) (ts us : List Token) → (lex rules text).tokens ≡ ts ++ us → All (λ (t : Token). t.tag < 65536) ts
  first_tags text ts us e =
      all_left (λ (t : Token). t.tag < 65536) ts us
      (subst (All (λ (t : Token). t.tag < 65536)) e
      (lex_tags (λ (x : ℕ). x < 65536) rules
      (all_map ValidRule _ (λ r h. h.tag_below) rules (valid book rules b).rules_valid.each) text))

  module _ {text : List ℕ} {place budget : ℕ} {entry exit masks after : List ℕ} {n next examined : ℕ} {finished : Bool}
      (c : Turning book text place budget entry exit masks after (turned n next examined finished)) where
    pub acc : Accepted book text place budget entry masks n next examined finished
    acc = taken book text place budget entry masks n next examined finished (sym c.answers)

    abbrev pub here : Turn
    here = turn rules (drop place text) budget

    same : acc.rules ≡ rules
    same = same_rules book acc.reads b.reads

    pub count : n ≡ length here.tokens
    count = acc.count ∙ ap (λ (rs : List Rule). length (turn rs (drop place text) budget).tokens) same

    begins : Begins rules (drop place text) here
    begins = turn_begins rules (drop place text) budget

    next_is : next ≡ length text - length here.rest
    next_is = acc.next_is ∙ ap (λ (rs : List Rule). length text - length (turn rs (drop place text) budget).rest) same

    rest_is : drop next text ≡ here.rest
    rest_is = rw next_is (next_drop text place acc.inside here.tokens here.rest begins.joined)

    examined_is : examined ≡ here.examined
    examined_is = acc.examined_is ∙ ap (λ (rs : List Rule). (turn rs (drop place text) budget).examined) same

    finished_is : finished ≡ here.finished
    finished_is = acc.finished_is ∙ ap (λ (rs : List Rule). (turn rs (drop place text) budget).finished) same

    -- what is stored
    pub records_are : take (10 * n) exit ≡ records_at place here.tokens
    records_are =
        let ts = (turn acc.rules (drop place text) budget).tokens in
        ap (take (10 * n)) (c.leaves ∙ acc.leaves_records)
        ∙ take_at (records_at place ts) _ (10 * n) (length_records ts place ∙ ap (λ (x : ℕ). 10 * x) (sym acc.count))
        ∙ ap (λ (rs : List Rule). records_at place (turn rs (drop place text) budget).tokens) same

    masks_are : take (4 * n) after ≡ mask_bytes (masks_of rules here.tokens)
    masks_are =
        let ts = (turn acc.rules (drop place text) budget).tokens in
        ap (take (4 * n)) (c.leaves_masks ∙ acc.leaves_masks)
        ∙ take_at (mask_bytes (masks_of acc.rules ts)) _ (4 * n)
        (length_mask_bytes (masks_of acc.rules ts) ∙ ap (λ (x : ℕ). 4 * x) (length-map ts _ ∙ sym acc.count))
        ∙ ap (λ (rs : List Rule). mask_bytes (masks_of rs (turn rs (drop place text) budget).tokens)) same

    storable : Storable here.tokens place here.rest text
    storable = record {
      tags = first_tags (drop place text) here.tokens (lex rules here.rest).tokens begins.tokens-first;
      short = acc.short;
      inside = acc.inside;
      joins = begins.joined;
    }

    pub list_is : list_of n exit text ≡ here.tokens
    list_is =
        ap (λ (x : List ℕ). tokens_of x text) records_are ∙ records_say here.tokens place here.rest text storable

    -- the slice of records is as long as it was
    pub same_long : length exit ≡ length entry
    same_long =
        let ts = (turn acc.rules (drop place text) budget).tokens in
        ap length (c.leaves ∙ acc.leaves_records) ∙ length-append (records_at place ts) _
        ∙ omega (arith, length_records ts place, length-drop (10 * length ts) entry, acc.enough)

    -- the place lies before the next one
    pub bounds : (place ≤ next) × (next ≤ length text)
    bounds =
        let l = lengths text place acc.inside here.tokens here.rest begins.joined in
        (omega (arith, next_is, l), omega (arith, next_is, l))

    pub ends_at : next ≡ place + length (join here.tokens)
    ends_at = omega (arith, next_is, lengths text place acc.inside here.tokens here.rest begins.joined)

    says : Says rules text place budget here.tokens next examined finished
    says =
        let ends = turn-ends rules (drop place text) budget in
        let sum = turn-sum rules (drop place text) budget in
        record {
          place-within = bounds.0;
          next_within = bounds.1;
          joined = rw rest_is begins.joined;
          first_of_cut = rw rest_is begins.tokens-first;
          sum_of_reaches = examined_is ∙ sum ∙ rw (rest_is, ← finished_is);
          within_budget = rw examined_is ends.affords;
          no_token = λ e. rw rest_is (choose_none rules here.rest (ends.finishes (sym finished_is ∙ e)));
          too_far = λ e. rw (rest_is, examined_is) (ends.spends (sym finished_is ∙ e));
          fits = (
            λ e.
                let paid = rw (sym finished_is ∙ e) at sum in
                rw rest_is (omega (arith, paid, ends.affords)),
            λ l. finished_is ∙ settled here.finished refl (rw rest_is at l),
          );
        }
      where
        settled : (f : Bool) → here.finished ≡ f
            → reach rules here.rest ≤ budget - reaches rules (drop place text) here.tokens → here.finished ≡ true
        settled true e l = e
        settled false e l =
            let sum = turn-sum rules (drop place text) budget in
            absurd (omega (arith, rw e at sum, (turn-ends rules (drop place text) budget).spends e))

  pub turn_says : TurnSays book rules
  turn_says text place budget entry exit masks after n next examined finished c = (
    subst (λ (x : List Token). Says rules text place budget x next examined finished) (sym (list_is c)) (says c),
    masks_are c ∙ ap (λ (x : List Token). mask_bytes (masks_of rules x)) (sym (list_is c)),
  )

  -- ---- turns beside each other

  pub larger-extends : LargerExtends book rules
  larger-extends text place budget larger l entry exit masks after n next examined finished c
      entry₁ exit₁ masks₁ after₁ n₁ next₁ examined₁ finished₁ c₁ = (few, records, agreeing, settled)
    where
      small : Turn
      small = turn rules (drop place text) budget

      large : Turn
      large = turn rules (drop place text) larger

      extended : Larger small large
      extended = turn-larger rules (drop place text) budget larger l

      counted : n₁ ≡ n + length extended.more
      counted = count c₁ ∙ ap length extended.extends ∙ length-append small.tokens extended.more
          ∙ ap (λ (x : ℕ). x + length extended.more) (sym (count c))

      few : n ≤ n₁
      few = omega (arith, counted)

      first : {A : Type 0} (xs ys zs : List A) (m : ℕ) → zs ≡ xs ++ ys → length xs ≡ m → take m zs ≡ xs
      first xs ys zs m e k = rw e (take_at xs ys m k)

      records : take (10 * n) exit₁ ≡ take (10 * n) exit
      records =
          sym (take-take (10 * n) (10 * n₁) exit₁ (omega (arith, counted)))
          ∙ ap (take (10 * n)) (records_are c₁ ∙ ap (records_at place) extended.extends
          ∙ records_append place small.tokens extended.more)
          ∙ take_at (records_at place small.tokens) _ (10 * n)
          (length_records small.tokens place ∙ ap (λ (x : ℕ). 10 * x) (sym (count c)))
          ∙ sym (records_are c)

      agreeing : take (4 * n) after₁ ≡ take (4 * n) after
      agreeing =
          sym (take-take (4 * n) (4 * n₁) after₁ (omega (arith, counted)))
          ∙ ap (take (4 * n)) (masks_are c₁ ∙ ap (λ (x : List Token). mask_bytes (masks_of rules x)) extended.extends
          ∙ masks_append rules small.tokens extended.more)
          ∙ take_at (mask_bytes (masks_of rules small.tokens)) _ (4 * n)
          (length_mask_bytes (masks_of rules small.tokens) ∙ ap (λ (x : ℕ). 4 * x) (length-map small.tokens _ ∙ sym (count c)))
          ∙ sym (masks_are c)

      settled : finished ≡ true → turned n₁ next₁ examined₁ finished₁ ≡ turned n next examined finished
      settled e =
          let q : large ≡ small = extended.settled (sym (finished_is c) ∙ e) in
          let a : n₁ ≡ n = count c₁ ∙ ap (λ (t : Turn). length t.tokens) q ∙ sym (count c) in
          let d : next₁ ≡ next = next_is c₁ ∙ ap (λ (t : Turn). length text - length t.rest) q ∙ sym (next_is c) in
          let x : examined₁ ≡ examined = examined_is c₁ ∙ ap (λ (t : Turn). t.examined) q ∙ sym (examined_is c) in
          let f : finished₁ ≡ finished = finished_is c₁ ∙ ap (λ (t : Turn). t.finished) q ∙ sym (finished_is c) in
          cc (a, d, x, f)

  pub looks_no_further : LooksNoFurther book rules
  looks_no_further text other place budget e l m entry exit masks after n next examined finished c
      entry₁ exit₁ masks₁ after₁ n₁ next₁ examined₁ finished₁ c₁ = (cc (many, place_same, paid, ended), records, agreeing)
    where
      agree : Agree budget (drop place text) (drop place other)
      agree =
          let p : budget < length text - place = omega arith in
          let q : budget < length other - place = omega arith in
          record {
            same =
                sym (part_bytes text place budget) ∙ part-front text place (place + budget) ∙ ap (drop place) e
                ∙ sym (part-front other place (place + budget)) ∙ part_bytes other place budget;
            more = rw length-drop p;
            other_more = rw length-drop q;
          }

      same_turn : Same (turn rules (drop place text) budget) (turn rules (drop place other) budget)
      same_turn = turn-alike state_count rules
          (all_map ValidRule (Sound state_count) (λ r h. h.sound) rules (valid book rules b).rules_valid.each)
          (drop place text) budget (drop place other) agree

      many : n₁ ≡ n
      many = count c₁ ∙ ap length (sym same_turn.tokens) ∙ sym (count c)

      place_same : next₁ ≡ next
      place_same = omega (arith, ends_at c₁, ends_at c, ap (λ (x : List Token). length (join x)) same_turn.tokens)

      paid : examined₁ ≡ examined
      paid = examined_is c₁ ∙ sym same_turn.examined ∙ sym (examined_is c)

      ended : finished₁ ≡ finished
      ended = finished_is c₁ ∙ sym same_turn.finished ∙ sym (finished_is c)

      records : take (10 * n) exit₁ ≡ take (10 * n) exit
      records =
          ap (λ (x : ℕ). take (10 * x) exit₁) (sym many) ∙ records_are c₁ ∙ ap (records_at place) (sym same_turn.tokens)
          ∙ sym (records_are c)

      agreeing : take (4 * n) after₁ ≡ take (4 * n) after
      agreeing =
          ap (λ (x : ℕ). take (4 * x) after₁) (sym many) ∙ masks_are c₁
          ∙ ap (λ (x : List Token). mask_bytes (masks_of rules x)) (sym same_turn.tokens) ∙ sym (masks_are c)

  -- ---- turns one after the other

  -- the cut from a place on begins with what the turns give
  pub record Given (text : List ℕ) (place : ℕ) (ts : List Taken) (last : ℕ) : Type 0 where
    pub joined : join (given ts text) ++ drop last text ≡ drop place text
    pub tokens-first : (lex rules (drop place text)).tokens ≡ given ts text ++ (lex rules (drop last text)).tokens
    pub same_rest : (lex rules (drop place text)).rest ≡ (lex rules (drop last text)).rest
    pub masks : agreed ts ≡ mask_bytes (masks_of rules (given ts text))

  pub gives : (text : List ℕ) (place : ℕ) (ts : List Taken) (last : ℕ) → FromTo book text place ts last → Given text place ts last
  unfolding mask_bytes
  gives text place [] last e = record { joined = rw e; tokens-first = rw e; same_rest = rw e; masks = refl }
  gives text place (t ∷ ts) last (c, h) =
      let g = gives text t.next ts last h in
      let b₁ = begins c in
      record {
        joined = rw (list_is c, join-append, append_assoc, g.joined, rest_is c) b₁.joined;
        tokens-first = b₁.tokens-first ∙ rw (← (rest_is c), g.tokens-first, list_is c, append_assoc);
        same_rest = b₁.same_rest ∙ rw (← (rest_is c)) g.same_rest;
        masks = rw (masks_are c, g.masks, list_is c) (sym (masks_append rules (here c).tokens (given ts text)));
      }

  pub turns_begin : TurnsBegin book rules
  turns_begin text ts last h = let g = gives text 0 ts last h in (g.tokens-first, g.same_rest, g.masks)

  -- where the last is finished, no token begins there
  stops : (text : List ℕ) (place : ℕ) (ts : List Taken) (last : ℕ) → FromTo book text place ts last → Finish ts
      → (choose rules (drop last text) ≡ none) × (last ≤ length text)
  stops text place [] last h f = absurd f
  stops text place (t ∷ []) last (c, e) f =
      let n : choose rules (drop t.next text) ≡ none =
      rw (rest_is c) ((turn-ends rules (drop place text) t.budget).finishes (sym (finished_is c) ∙ f)) in
      rw (← e) (n, (bounds c).1)
  stops text place (t ∷ u ∷ ts) last (c, h) f = stops text t.next (u ∷ ts) last h f

  whole : (text : List ℕ) (ts : List Taken) (last : ℕ) → FromTo book text 0 ts last → Finish ts
      → lex rules text ≡ record { tokens = given ts text; rest = drop last text }
  whole text ts last h f =
      let g = gives text 0 ts last h in
      let s = lex_stop rules (drop last text) (stops text 0 ts last h f).0 in
      let a : (lex rules text).tokens ≡ given ts text = g.tokens-first ∙ rw (s, append-nil) in
      let d : (lex rules text).rest ≡ drop last text = g.same_rest ∙ rw s in
      rw (← a, ← d)

  pub turns_are_longest_match : TurnsAreLongestMatch book rules
  turns_are_longest_match text ts last h f =
      subst (λ (c : Lexed). LongestMatch rules text c.tokens c.rest) (whole text ts last h f)
      (lex-longest rules (valid book rules b).rules_valid.distinct text)

  pub turns_are_cut : TurnsAreCut book rules
  turns_are_cut text ts last h fin f entry exit masks after n place c = (
    sym tokens ∙ sym (tokens_are book rules b cut),
    (gives text 0 ts last h).masks ∙ ap (λ (x : List Token). mask_bytes (masks_of rules x)) (sym tokens) ∙ sym stored,
    ends,
  )
    where
      cut : Cut f book text entry exit (lexed n place)
      cut = accepted_is_cut f book text entry exit masks after n place c

      by_rules : trip.Cut book text (records_in f entry) n place
      by_rules = lexed_cut book text (records_in f entry) n place (sym cut.answers)

      same_book : by_rules.rules ≡ rules
      same_book = same_rules book by_rules.reads b.reads

      tokens : (lex rules text).tokens ≡ given ts text
      tokens = ap (λ (x : Lexed). x.tokens) (whole text ts last h fin)

      stored : take (4 * n) (mask_bytes_in f after) ≡ mask_bytes (masks_of rules (lex rules text).tokens)
      stored =
          let m = masked_lexed book text (records_in f entry) (mask_bytes_in f masks) n place (sym c.answers) in
          let q : m.0 ≡ rules = same_rules book m.1.0 b.reads in
          let k : n ≡ length (lex rules text).tokens =
          by_rules.count ∙ ap (λ (rs : List Rule). length (lex rs text).tokens) same_book in
          ap (take (4 * n)) (c.leaves_masks ∙ m.1.1.leaves
          ∙ ap (λ (rs : List Rule). mask_bytes (masks_of rs (lex rs text).tokens) ++ drop (4 * n) (mask_bytes_in f masks)) q)
          ∙ take_at (mask_bytes (masks_of rules (lex rules text).tokens)) _ (4 * n)
          (length_mask_bytes (masks_of rules (lex rules text).tokens)
          ∙ ap (λ (x : ℕ). 4 * x) (length-map (lex rules text).tokens _ ∙ sym k))

      ends : last ≡ place
      ends =
          let r : (lex rules text).rest ≡ drop last text = ap (λ (x : Lexed). x.rest) (whole text ts last h fin) in
          let p : place ≡ length text - length (drop last text) =
          by_rules.place_is ∙ ap (λ (rs : List Rule). length text - length (lex rs text).rest) same_book
          ∙ ap (λ (x : List ℕ). length text - length x) r in
          omega (arith, p, length-drop last text, (stops text 0 ts last h fin).1)

pub every-turn : EveryTurn
every-turn book rules b = record {
  turn_says = turn_says book rules b;
  larger-extends = larger-extends book rules b;
  looks_no_further = looks_no_further book rules b;
  turns_begin = turns_begin book rules b;
  turns_are_longest_match = turns_are_longest_match book rules b;
  turns_are_cut = turns_are_cut book rules b;
}
