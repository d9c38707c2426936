-- Saving between turns: what they have given is printed as the text up to the next place. Assumes nothing.
use Rattle.answer.specs.declared.Refusal.{Refusal}
use Rattle.std.specs.Prelude.{Result, Ok}
use Rattle.answer.specs.declared.Reason.TheVariants.{OutputTooShort}
use Rattle.answer.specs.Answers.{turned}
use mathlib.Core.Path.{◌≡◌, refl, sym, ap, ◌∙◌, subst}
use mathlib.Core.List.{List, [], ◌∷◌, ◌++◌, append_assoc, append-nil}
use Prim.Native.Nat.{ℕ, ◌+◌, ◌*◌, ◌<◌, ◌≤◌}
use native.Mathlib.Omega.{arith}
use lib.ListN.{length, take, drop, length-append, length-drop}
use lib.Seq.{length-take-le, take-append-add, take-append-le, take_at}
use Rattle.automaton.specs.Choice.{All}
use Rattle.automaton.specs.Rule.{Rule}
use Rattle.book.specs.Limits.{max_text}
use Rattle.longest_match.specs.Lexer.{lex, join, Printable}
use Rattle.longest_match.proofs.Lexing.{lex_few, printed_lexes, lexed_printable, printable_first}
use Rattle.record.specs.Records.{records_at, record_count}
use Rattle.record.specs.Tokens.{records_from, records_of, tokens_in, tokens_of, InPool}
use Rattle.record.proofs.Records.{length-tokens, records_append}
use Rattle.turns.specs.Turn.{turn}
use Rattle.turns.proofs.Turning.{turn_short}
use Rattle.output.specs.Outcome.{PrintOutcome, print_refused, print_accepted, written}
use Rattle.output.proofs.Written.{written_lacks, written-fits}
use Rattle.printer.specs.Outcome.{print_outcome}
use Rattle.printer.proofs.ReadBack.{Storable, records_say, records_inside}
use Rattle.printer.proofs.RoundTrip.{valid_empty, printable_written}
use Rattle.demands.specs.Calls.{bytes, records_in, Turning, Print}
use Rattle.demands.specs.Words.{Book}
use Rattle.demands.specs.Turns.{list_of, Taken, FromTo, given}
use Rattle.demands.specs.Saving.{stored, LentFrom, InOneSlice, Saves, SavedBetweenTurns, SavedFromCopies, SavedInAnyForm}
use Rattle.demands.specs.Saving.{RoomForTurns, EverySave}
use Rattle.demands.proofs.Demands.{valid}
use Rattle.demands.proofs.Forms.{structs_in_lem, list_in_lem}
use Rattle.demands.proofs.Turns.{acc, count as turn-count, records_are, list_is, same_long, bounds, ends_at, gives}
use Rattle.demands.proofs.Turns.{first_tags, turn_is_accepted}

module _ (book : List ℕ) (rules : List Rule) (b : Book book rules) where
  -- ---- what turns have given

  -- they end within the text
  ends-within : (text : List ℕ) (place : ℕ) (ts : List Taken) (next : ℕ) → FromTo book text place ts next → place ≤ length text
      → next ≤ length text
  ends-within text place [] next e l = omega arith
  ends-within text place (t ∷ ts) next (c, h) l = ends-within text t.next ts next h (bounds book rules b c).1

  module _ (text : List ℕ) (ts : List Taken) (next : ℕ) (h : FromTo book text 0 ts next) where
    within : next ≤ length text
    within = ends-within text 0 ts next h (omega arith)

    printable : Printable rules (given ts text)
    printable = printable_first rules (given ts text) (lex rules (drop next text)).tokens
        (subst (Printable rules) (gives book rules b text 0 ts next h).tokens-first (lexed_printable rules text))

    -- their bytes are those before the next place
    long : length (join (given ts text)) ≡ next
    long =
        let j = ap length (gives book rules b text 0 ts next h).joined in
        omega (arith, j, length-append (join (given ts text)) (drop next text), length-drop next text, within)

    joins_to : join (given ts text) ≡ take next text
    joins_to =
        sym (take_at (join (given ts text)) (drop next text) next long)
        ∙ ap (take next) (gives book rules b text 0 ts next h).joined

    -- each has a byte
    few : length (given ts text) ≤ next
    few =
        let e = printed_lexes rules (given ts text) (valid_empty (valid book rules b).rules_valid) printable in
        let l = lex_few rules (join (given ts text)) in
        omega (arith, rw e at l, long)

  -- a turn is taken only of a text that is not too long
  short : (text : List ℕ) (ts : List Taken) (next : ℕ) → FromTo book text 0 ts next → next ≤ max_text
  short text [] next e = omega arith
  short text (t ∷ ts) next (c, h) = omega (arith, (acc book rules b c).short, within text (t ∷ ts) next (c, h))

  -- ---- printed

  -- records that say what was given
  module _ (text : List ℕ) (ts : List Taken) (next : ℕ) (h : FromTo book text 0 ts next) (records pool entry : List ℕ)
      (same : tokens_of records pool ≡ given ts text) (inside : All (InPool pool) (records_of records)) where
    many : next ≡ length (take next text)
    many = sym (length-take-le next text (within text ts next h))

    said : join (tokens_of records pool) ≡ take next text
    said = ap join same ∙ joins_to text ts next h

    outcome : print_outcome book records pool entry ≡ written (take next text) entry
    outcome =
        let n : record_count records ≤ max_text =
        omega (arith, length-tokens records pool, ap length same, few text ts next h, short text ts next h) in
        let s : length (join (tokens_of records pool)) ≤ max_text = rw (said, ← many) (short text ts next h) in
        printable_written book b.bytes rules b.reads records pool entry n inside s (rw same (printable text ts next h))
        ∙ rw said

    saves : {exit : List ℕ} {r : Result ℕ Refusal} → r ≡ (print_outcome book records pool entry).answer
        → exit ≡ (print_outcome book records pool entry).out → Saves text next entry exit r
    saves a o = record {
      next_within = within text ts next h;
      accepts = λ l. a ∙ ap (λ (x : PrintOutcome). x.answer) (fits l) ∙ ap Ok (sym many);
      writes = λ l. o ∙ ap (λ (x : PrintOutcome). x.out) (fits l) ∙ ap (λ (n : ℕ). take next text ++ drop n entry) (sym many);
      needs = λ l. a ∙ ap (λ (x : PrintOutcome). x.answer) (lacks l);
      leaves = λ l. o ∙ ap (λ (x : PrintOutcome). x.out) (lacks l);
    }
      where
        fits : next ≤ length entry → print_outcome book records pool entry ≡ print_accepted (take next text) entry
        fits l = outcome ∙ written-fits (take next text) entry many l

        lacks : length entry < next → print_outcome book records pool entry ≡ print_refused OutputTooShort next entry
        lacks l = outcome ∙ written_lacks (take next text) entry many l

  pub saved_in_any_form : SavedInAnyForm book rules
  saved_in_any_form text ts next h f list pool entry exit r c inside same =
      saves text ts next h (records_in f list) pool entry (list_in_lem f list c.typed pool ∙ same)
      (rw (structs_in_lem f list c.typed) inside) c.answers c.leaves

  -- ---- the records that turns have stored

  stored_are : (text : List ℕ) (place : ℕ) (ts : List Taken) (next : ℕ) → FromTo book text place ts next
      → stored ts ≡ records_at place (given ts text)
  unfolding records_at
  stored_are text place [] next e = refl
  stored_are text place (t ∷ ts) next (c, h) =
      rw (list_is book rules b c, records_are book rules b c, stored_are text t.next ts next h, records_append, ends_at book rules b c)

  -- they say what was given
  stored_say : (text : List ℕ) (ts : List Taken) (next : ℕ) → FromTo book text 0 ts next
      → (tokens_of (stored ts) text ≡ given ts text) × All (InPool text) (records_of (stored ts))
  unfolding records_of records_from tokens_in
  stored_say text [] next e = (refl, tt)
  stored_say text (t ∷ ts) next (c, h) =
      let g = gives book rules b text 0 (t ∷ ts) next (c, h) in
      let s : Storable (given (t ∷ ts) text) 0 (drop next text) text = record {
        tags = first_tags book rules b text (given (t ∷ ts) text) (lex rules (drop next text)).tokens g.tokens-first;
        short = (acc book rules b c).short;
        inside = omega arith;
        joins = g.joined;
      } in
      let e = stored_are text 0 (t ∷ ts) next (c, h) in
      rw e (records_say (given (t ∷ ts) text) 0 (drop next text) text s, records_inside (given (t ∷ ts) text) 0 (drop next text) text s)

  pub saved_from_copies : SavedFromCopies book rules
  saved_from_copies text ts next h entry exit r c =
      let s = stored_say text ts next h in saves text ts next h (stored ts) text entry s.0 s.1 c.answers c.leaves

  -- ---- in one slice

  -- what a slice holds after turns that began behind its first `count` records
  record Holds (text : List ℕ) (ts : List Taken) (count : ℕ) (before : List ℕ) (total : ℕ) (after : List ℕ) : Type 0 where
    many : total ≡ count + length (given ts text)
    records : take (10 * total) after ≡ take (10 * count) before ++ stored ts
    long : length after ≡ length before

  module _ {text : List ℕ} {place : ℕ} {t : Taken}
      (c : Turning book text place t.budget t.entry t.exit t.masks t.after (turned t.tokens t.next t.examined t.finished)) where
    counted : length (list_of t.tokens t.exit text) ≡ t.tokens
    counted = ap length (list_is book rules b c) ∙ sym (turn-count book rules b c)

    -- the records of a turn fit the part that it was lent
    fitting : 10 * t.tokens ≤ length t.exit
    fitting = omega (arith, (acc book rules b c).count, (acc book rules b c).enough, same_long book rules b c)

    holds_more : {ts : List Taken} {count : ℕ} {before between : List ℕ} {total : ℕ} {after : List ℕ} → LentFrom count before between t
        → Holds text ts (count + t.tokens) between total after → Holds text (t ∷ ts) count before total after
    holds_more {ts} {count} {before} {between} l rest = record {
      many = rest.many ∙ omega (arith, counted, length-append (list_of t.tokens t.exit text) (given ts text));
      records = rest.records ∙ rw (taken, start, append_assoc);
      long = rest.long ∙ rw (l.lent, l.left) (simp length-append (omega (arith, same_long book rules b c)));
    }
      where
        start : take (10 * count) before ≡ l.front
        start = rw (l.lent, append_assoc) (take_at l.front _ (10 * count) l.from)

        taken : take (10 * (count + t.tokens)) between ≡ l.front ++ take (10 * t.tokens) t.exit
        taken =
            let q : 10 * (count + t.tokens) ≡ length l.front + 10 * t.tokens = omega (arith, l.from) in
            rw (l.left, append_assoc, q, take-append-add, take-append-le (10 * t.tokens) t.exit l.behind fitting)

  holds : (text : List ℕ) (place : ℕ) (ts : List Taken) (next : ℕ) → FromTo book text place ts next
      → (count : ℕ) (before : List ℕ) (total : ℕ) (after : List ℕ) → InOneSlice count before ts total after
      → Holds text ts count before total after
  holds text place [] next e count before total after (n, same) = record {
    many = omega arith;
    records = rw (← n, ← same, append-nil);
    long = rw same;
  }
  holds text place (t ∷ ts) next (c, h) count before total after (between, l, o) =
      holds_more c l (holds text t.next ts next h (count + t.tokens) between total after o)

  pub saved_between_turns : SavedBetweenTurns book rules
  saved_between_turns text ts next h before after total o entry exit r c =
      saved_from_copies text ts next h entry exit r
      (subst (λ (x : List ℕ). Print bytes book x text entry exit r) (holds text 0 ts next h 0 before total after o).records c)

  pub room_for_turns : RoomForTurns book rules
  room_for_turns text ts place h fits before after total o room budget exit masks masks₁ r c enough =
      let k = holds text 0 ts place h 0 before total after o in
      let s = turn_short rules (drop place text) budget in
      let l = length-drop place text in
      let d = length-drop (10 * total) after in
      let a = turn_is_accepted book rules b.reads text place budget (drop (10 * total) after) exit masks masks₁ r c fits
      (within text ts place h)
      (omega (arith, k.many, k.long, few text ts place h, s, l, d, within text ts place h)) (omega (arith, s, l)) in
      (length (turn rules (drop place text) budget).tokens, a.0, a.1, a.2, a.3)

pub every_save : EverySave
every_save book rules b = record {
  saved_between_turns = saved_between_turns book rules b;
  saved_from_copies = saved_from_copies book rules b;
  saved_in_any_form = saved_in_any_form book rules b;
  room_for_turns = room_for_turns book rules b;
}
