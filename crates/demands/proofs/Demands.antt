-- A proof of each of the demands. Assumes nothing.
use Rattle.answer.specs.declared.Cut.{Cut as Counts}
use Rattle.answer.specs.declared.Refusal.{Refusal}
use Rattle.std.specs.Prelude.{Result, Ok}
use Rattle.answer.specs.Answers.{lexed}
use mathlib.Core.Path.{◌≡◌, refl, sym, ap, ◌∙◌, subst}
use mathlib.Core.Bool.{Bool, true, false}
use mathlib.Core.List.{List, [], ◌∷◌}
use Prim.Native.Nat.{ℕ, ◌-◌, ◌*◌, ◌≤◌}
use native.Mathlib.Omega.{arith}
use native.Mathlib.Nat.{mul-le-mul_right}
use lib.ListN.{length, take, drop}
use lib.Seq.{take-append_seam}
use borrow.Author.Tests.{leb-false}
use lib.Dec.{leb}
use Rattle.automaton.specs.Choice.{any}
use Rattle.automaton.specs.Rule.{Rule}
use Rattle.automaton.proofs.Tests.{clash, or_false, all_map}
use Rattle.automaton.proofs.Used.{start_in_error as error-matches-nothing}
use Rattle.book.specs.Valid.{Valid, ValidRule}
use Rattle.book.specs.Limits.{max_text}
use Rattle.reader.proofs.Accepted.{accepted_valid}
use Rattle.longest_match.specs.Lexer.{Token, Lexed, lex, join}
use Rattle.longest_match.proofs.Lexing.{joins, rest-drop}
use Rattle.longest_match.proofs.Cutting.{lex_nil}
use Rattle.record.specs.Records.{record_count}
use Rattle.record.specs.Tokens.{bytes_in, token_in, tokens_of}
use Rattle.lexer.specs.Outcome.{LexOutcome, lex_outcome}
use Rattle.token_list.specs.Faults.{alone_in}
use Rattle.token_list.proofs.Extended.{matched_long}
use Rattle.output.specs.Outcome.{PrintOutcome}
use Rattle.printer.specs.Outcome.{print_outcome}
use Rattle.printer.proofs.Accepting.{written_joins, alone_tagged}
use Rattle.printer.proofs.RoundTrip.{byte_below, valid_empty, same_rules, lexed_cut, cut_accepts, stored_say}
use Rattle.printer.proofs.RoundTrip.{equal_lists, accepts_printable, output_cut, cut_printed}
use Rattle.spacing.specs.Separators.{drop_separators, meaning, spelled}
use Rattle.record.specs.declared.TokenRecord.{TokenRecord}
use Rattle.separated.proofs.RoundTrip.{disjoint, spacer, plain, spelled_cut, spelled_back, spelled_injective}
use Rattle.separated.proofs.Unrefused.{CallPasses}
use Rattle.separated.proofs.Modes.{zero_outcome}
use Rattle.builtin.specs.Book.{builtin_bytes, builtin_rules}
use Rattle.builtin.proofs.Accepted.{read_builtin}
use Rattle.zagvulem.proofs.Refused.{lex_refused_lem, print_refused_lem, separated_refused}
use Rattle.demands.specs.Calls.{Form, Lent, records_in, count_in, first_in, past_in, list_in, Cut, Print, Space}
use Rattle.demands.specs.Words.{Bytes, Book, LongestMatch, Unrefused}
use Rattle.demands.specs.Gaps.{Way, in_all, GivesBack, spelled_by, puts, put_count, HasCopies}
use Rattle.demands.specs.Demands.{RefusedCut, PastTheTokens, RefusedPrint, RefusedSpace, PastTheBytes, PastTheSpaced}
use Rattle.demands.specs.Demands.{StartInError, CutIsLongestMatch, StoredIsLongestMatch, CutIsAccepted, TokensAndRestJoined}
use Rattle.demands.specs.Demands.{WritingJoins, EqualLists, AcceptedExactly, UnknownNotAlone, OutputsAreCut, CutsArePrinted}
use Rattle.demands.specs.Demands.{EmptyTextIsCut, SpacingAccepts, SpacingAcceptsNoOther, SpacingEqualLists, SpacingCutsBack}
use Rattle.demands.specs.Demands.{ZeroIsSparing, MostInOne, SeparatorsCounted, FewestSeparators, NoTighterSheet}
use Rattle.demands.specs.Demands.{EveryBook, BuiltinBook}
use Rattle.demands.proofs.LongestMatch.{lex-longest, longest-lex}
use Rattle.demands.proofs.Separable.{separable_printable, printable_separable}
use Rattle.demands.proofs.Spacing.{unrefused_passes, unrefused_outcome, printed_unrefused, space_past, most_outcome}
use Rattle.demands.proofs.Gaps.{scattered-tokens, scattered_bytes, separated-puts}
use Rattle.demands.proofs.Fewest.{fewest}
use Rattle.demands.proofs.Forms.{count_in_lem, structs_in_lem, list_in_lem, first_in_lem, past_in_lem, typed_first, typed_past, same_in}
use Rattle.demands.proofs.Untouched.{cut_leaves, cut_past, print_leaves, print_past, space_leaves}
use Rattle.printer.proofs.RoundTrip as trip

-- ==== demand 1

pub refused_cut : RefusedCut
refused_cut f book text entry exit r c = (
  (lex_refused_lem book text (records_in f entry) r (sym c.answers)).number_among,
  same_in f exit entry c.exit_typed c.entry_typed
      (c.leaves ∙ cut_leaves text (records_in f entry) book r (sym c.answers)),
)

pub past_the_tokens : PastTheTokens
past_the_tokens f book text entry exit n place c =
    let q = cut_past text (records_in f entry) (lexed_cut book text (records_in f entry) n place (sym c.answers)) in
    same_in f (past_in f n exit) (past_in f n entry) (typed_past f n exit c.exit_typed) (typed_past f n entry c.entry_typed)
    (sym (past_in_lem f n exit) ∙ ap (drop (10 * n)) c.leaves ∙ q ∙ past_in_lem f n entry)

pub refused_print : RefusedPrint
refused_print f book list pool entry exit r c = (
  (print_refused_lem book (records_in f list) pool entry r (sym c.answers)).number_among,
  c.leaves ∙ print_leaves entry (records_in f list) pool book r (sym c.answers),
)

pub refused_space : RefusedSpace
refused_space book sep mode records pool entry exit r c = (
  (separated_refused book sep mode records pool entry r (sym c.answers)).number_among,
  c.leaves ∙ space_leaves entry records pool sep mode book r (sym c.answers),
)

pub past_the_bytes : PastTheBytes
past_the_bytes f book list pool entry exit n c = ap (drop n) c.leaves
    ∙ print_past entry (records_in f list) pool book n (sym c.answers)

pub past_the_spaced : PastTheSpaced
past_the_spaced book sep mode records pool entry exit n c = ap (drop n) c.leaves
    ∙ space_past book sep mode records pool entry n (sym c.answers)

-- ==== demands 2 and 3

module _ (book : List ℕ) (rules : List Rule) (b : Book book rules) where
  pub valid : Valid rules
  valid = accepted_valid book rules (byte_below book b.bytes) b.reads

  pub start_in_error : StartInError book rules
  start_in_error = all_map ValidRule _ (λ r v e w. error-matches-nothing r v.sound e w) rules valid.rules_valid.each

  -- ---- an accepted cut

  module _ {f : Form} {text : List ℕ} {entry exit : Lent f} {n place : ℕ} (c : Cut f book text entry exit (lexed n place)) where
    cut : trip.Cut book text (records_in f entry) n place
    cut = lexed_cut book text (records_in f entry) n place (sym c.answers)

    -- what it stores, as records and as a list
    stored_in : take (10 * n) (lex_outcome book text (records_in f entry)).records ≡ records_in f (first_in f n exit)
    stored_in = ap (take (10 * n)) (sym c.leaves) ∙ first_in_lem f n exit

    stored_list : tokens_of (take (10 * n) (lex_outcome book text (records_in f entry)).records) text ≡ list_in f (first_in f n exit) text
    stored_list =
        ap (λ (x : List ℕ). tokens_of x text) stored_in ∙ list_in_lem f (first_in f n exit) (typed_first f n exit c.exit_typed) text

    pub tokens_are : list_in f (first_in f n exit) text ≡ (lex rules text).tokens
    tokens_are = sym stored_list ∙ stored_say book b.bytes cut rules b.reads

    -- the reported place is that of the rest
    rest_at : drop place text ≡ (lex rules text).rest
    rest_at =
        let q : cut.rules ≡ rules = same_rules book cut.reads b.reads in
        let p : place ≡ length text - length (lex rules text).rest = rw q at cut.place_is in
        rw p (sym (rest-drop rules text))

  -- a cut that is not too long, with records enough
  accepts : {f : Form} {text : List ℕ} {entry exit : Lent f} {r : Result Counts Refusal} → Cut f book text entry exit r
      → length text ≤ max_text → length (lex rules text).tokens ≤ count_in f entry
      → r ≡ lexed (length (lex rules text).tokens) (length text - length (lex rules text).rest)
  accepts {f} {text} {entry} {exit} {r} c short enough =
      let e : length (lex rules text).tokens ≤ record_count (records_in f entry) = rw (count_in_lem f entry) enough in
      c.answers ∙ ap (λ (o : LexOutcome). o.answer) (cut_accepts book text (records_in f entry) rules b.reads short e)

  -- ---- demand 2

  pub cut_is_longest_match : CutIsLongestMatch book rules
  cut_is_longest_match text ts rest = (
    longest-lex rules text ts rest,
    λ e. subst (λ (c : Lexed). LongestMatch rules text c.tokens c.rest) e (lex-longest rules valid.rules_valid.distinct text),
  )

  pub stored_is_longest_match : StoredIsLongestMatch book rules
  stored_is_longest_match f text entry exit n place c =
      subst (λ (x : List Token). LongestMatch rules text x (drop place text)) (sym (tokens_are c))
      (subst (λ (x : List ℕ). LongestMatch rules text (lex rules text).tokens x) (sym (rest_at c))
      (lex-longest rules valid.rules_valid.distinct text))

  pub cut_is_accepted : CutIsAccepted book rules
  cut_is_accepted f text entry exit r c = accepts c

  pub tokens_and_rest_joined : TokensAndRestJoined book rules
  tokens_and_rest_joined f text entry exit n place c = rw (tokens_are c, rest_at c) (joins rules text)

  -- ---- a call of the plain printer that accepts

  module _ {f : Form} {list : Lent f} {pool entry exit : List ℕ} {n : ℕ} (c : Print f book list pool entry exit (Ok n)) where
    printed : (print_outcome book (records_in f list) pool entry).answer ≡ Ok n
    printed = sym c.answers

    said : tokens_of (records_in f list) pool ≡ list_in f list pool
    said = list_in_lem f list c.typed pool

    written : take n exit ≡ take n (print_outcome book (records_in f list) pool entry).out
    written = ap (take n) c.leaves

  pub writing_joins : WritingJoins book rules
  writing_joins f list pool entry exit n c =
      written c ∙ written_joins book (records_in f list) pool entry n (printed c) ∙ ap join (said c)

  -- ---- demand 3, the plain printer

  pub equal_lists_equal_bytes : EqualLists book rules
  equal_lists_equal_bytes f list pool entry exit n c f₁ list₁ pool₁ entry₁ exit₁ n₁ c₁ =
      let h = equal_lists book b.bytes (records_in f list) pool entry n (records_in f₁ list₁) pool₁ entry₁ n₁ (printed c) (printed c₁) in (
        λ q. written c ∙ h.0 (said c ∙ q ∙ sym (said c₁)) ∙ sym (written c₁),
        λ q. sym (said c) ∙ h.1 (sym (written c) ∙ q ∙ written c₁) ∙ said c₁,
      )

  pub accepted_exactly : AcceptedExactly book rules
  accepted_exactly f list pool entry exit r c u =
      let s = list_in_lem f list c.typed pool in
      let h = accepts_printable book b.bytes rules b.reads (records_in f list) pool entry (rw (count_in_lem f list) u.not_16)
      (rw (structs_in_lem f list c.typed) u.not_17) (rw s u.not_20) (rw s u.not_22) in (
        λ q. printable_separable rules (list_in f list pool) valid.rules_valid.distinct (rw s at (h.0 (q.0, sym c.answers ∙ q.1))),
        λ p. let z = h.1 (rw s (separable_printable rules (list_in f list pool) p)) in (z.0, c.answers ∙ z.1),
      )

  pub unknown_not_alone : UnknownNotAlone book rules
  unknown_not_alone tag w e = go (alone_in rules tag w) refl
    where
      go : (a : Bool) → alone_in rules tag w ≡ a → a ≡ false
      go false q = refl
      go true q = clash (alone_tagged rules tag w q) e

  pub outputs_are_cut : OutputsAreCut book rules
  outputs_are_cut f list pool entry exit n c g room stored r d enough =
      let s = said c in
      let e : length (tokens_of (records_in f list) pool) ≤ record_count (records_in g room) = rw (s, count_in_lem g room) enough in
      let o = output_cut book b.bytes (records_in f list) pool entry n (printed c) (take n exit) (sym (written c)) (records_in g room) e in
      let a : r ≡ lexed (length (list_in f list pool)) (length (take n exit)) = d.answers ∙ o.0 ∙ rw s in
      let k : Cut g book (take n exit) room stored (lexed (length (list_in f list pool)) (length (take n exit))) =
      subst (Cut g book (take n exit) room stored) a d in
      (a, sym (stored_list k) ∙ (rw s at o.1))

  pub cuts_are_printed : CutsArePrinted book rules
  cuts_are_printed f text room stored n c entry exit r p l =
      let o = cut_printed book b.bytes text (records_in f room) entry n (sym c.answers) l in
      let q = stored_in c in
      (p.answers ∙ (rw q at o.0), ap (take (length text)) p.leaves ∙ (rw q at o.1))

  pub empty_text_is_cut : EmptyTextIsCut book rules
  empty_text_is_cut f room stored r c =
      let z = lex_nil rules in
      let a = accepts c (omega arith) (rw z (omega arith)) in
      a ∙ rw z

  -- ---- demand 3, the spacing printer

  pub spacing_accepts : SpacingAccepts book rules
  spacing_accepts sep mode records pool entry exit r c u =
      let w = spelled rules sep mode records pool in
      let o = unrefused_outcome book rules b.reads sep mode records pool entry valid.rules_valid.each u in
      (c.answers ∙ rw o, ap (take (length w)) c.leaves ∙ rw o (take-append_seam w (drop (length w) entry)))

  -- an accepted call
  module _ {sep : TokenRecord} {mode : ℕ} {records pool entry exit : List ℕ} {n : ℕ}
      (c : Space book sep mode records pool entry exit (Ok n)) where
    unrefused : Unrefused rules sep mode records pool entry × (n ≡ length (spelled rules sep mode records pool))
    unrefused = printed_unrefused book rules b.reads sep mode records pool entry valid.rules_valid.each n (sym c.answers)

    spelled-written : take n exit ≡ spelled rules sep mode records pool
    spelled-written = rw unrefused.1 (spacing_accepts sep mode records pool entry exit (Ok n) c unrefused.0).1

    passes : CallPasses rules sep mode records pool
    passes = unrefused_passes valid.rules_valid.each unrefused.0

    abbrev spacing : Token
    spacing = token_in pool sep

    abbrev listed : List Token
    listed = tokens_of records pool

    -- the separators that it puts are counted,
    counted : HasCopies rules spacing mode listed n (take n exit)
    counted =
        let s = separated-puts rules spacing mode listed in
        record {
          put = s;
          written = spelled-written ∙ ap join s;
          gives_back = rw spelled-written (spelled_back valid.rules_valid passes);
          by_tokens = rw s (scattered-tokens spacing (puts rules spacing mode listed) listed);
          by_bytes = unrefused.1 ∙ rw s (scattered_bytes spacing (puts rules spacing mode listed) listed);
          some_byte = matched_long rules spacing.bytes spacing.tag (valid_empty valid.rules_valid)
              (spacer valid.rules_valid passes).alone;
        }

    -- and in mode 2 they are the fewest
    least : meaning mode ≡ 2 → (way : Way) → GivesBack rules listed (spelled_by way sep records pool)
        → put_count rules spacing mode listed ≤ in_all way listed
    least m way e =
        let v = valid.rules_valid in
        fewest v (disjoint v passes) (spacer v passes) mode m way listed (plain v passes) e

  pub spacing_accepts_no_other : SpacingAcceptsNoOther book rules
  spacing_accepts_no_other sep mode records pool entry exit n c = ((unrefused c).0, spelled-written c)

  pub spacing_equal_lists : SpacingEqualLists book rules
  spacing_equal_lists mode sep records pool entry exit n c sep₁ records₁ pool₁ entry₁ exit₁ n₁ c₁ same =
      rw (spelled-written c, spelled-written c₁) (spelled_injective valid.rules_valid (passes c) (passes c₁) same)

  pub spacing_cuts_back : SpacingCutsBack book rules
  spacing_cuts_back sep mode records pool entry exit n c g room stored r d enough =
      let w = spelled-written c in
      let short : length (take n exit) ≤ max_text = rw w (unrefused c).0.not_20 in
      let rest : (lex rules (take n exit)).rest ≡ [] = rw (w, spelled_cut valid.rules_valid (passes c)) in
      let z : length (take n exit) - length (lex rules (take n exit)).rest ≡ length (take n exit) = rw rest (omega arith) in
      let a : r ≡ lexed (length (lex rules (take n exit)).tokens) (length (take n exit)) = accepts d short enough ∙ rw z in
      let k : Cut g book (take n exit) room stored (lexed (length (lex rules (take n exit)).tokens) (length (take n exit))) =
      subst (Cut g book (take n exit) room stored) a d in (
        a,
        ap (drop_separators rules) (tokens_are k)
            ∙ ap (λ (x : List ℕ). drop_separators rules (lex rules x).tokens) w ∙ spelled_back valid.rules_valid (passes c),
      )

-- ==== document 02, wish 7

pub zero_is_sparing : ZeroIsSparing
zero_is_sparing book sep records pool entry exit r =
    let o = zero_outcome book sep records pool entry in
    let a = ap (λ (x : PrintOutcome). x.answer) o in
    let b = ap (λ (x : PrintOutcome). x.out) o in (
      λ c. record { answers = c.answers ∙ a; leaves = c.leaves ∙ b },
      λ c. record { answers = c.answers ∙ sym a; leaves = c.leaves ∙ sym b },
    )

pub most_in_one : MostInOne
most_in_one book sep records pool entry exit n c mode exit₁ r known d =
    let o = most_outcome book sep records pool entry n (sym c.answers) mode known in
    (o.0, d.answers ∙ o.1, o.2)

-- ==== document 02, wish 8

pub separators_counted : SeparatorsCounted
separators_counted book rules b sep mode records pool entry exit n c = counted book rules b c

pub fewest_separators : FewestSeparators
fewest_separators book rules sep mode records pool entry exit n s = least book rules s.reads s.call s.spares

pub no_tighter_sheet : NoTighterSheet
no_tighter_sheet book rules sep mode records pool entry exit n s way g room stored m place d e =
    let b = s.reads in
    let l = least book rules b s.call s.spares way (ap (drop_separators rules) (sym (tokens_are book rules b d)) ∙ e) in
    let q = scattered_bytes (token_in pool sep) way (tokens_of records pool) in
    omega (arith, (counted book rules b s.call).by_bytes, q, mul-le-mul_right (length (bytes_in pool sep)) l)

-- ==== together

pub every_book : EveryBook
every_book book rules b = record {
  start_in_error = start_in_error book rules b;
  cut_is_longest_match = cut_is_longest_match book rules b;
  stored_is_longest_match = stored_is_longest_match book rules b;
  cut_is_accepted = cut_is_accepted book rules b;
  tokens_and_rest_joined = tokens_and_rest_joined book rules b;
  writing_joins = writing_joins book rules b;
  equal_lists = equal_lists_equal_bytes book rules b;
  accepted_exactly = accepted_exactly book rules b;
  unknown_not_alone = unknown_not_alone book rules b;
  outputs_are_cut = outputs_are_cut book rules b;
  cuts_are_printed = cuts_are_printed book rules b;
  empty_text_is_cut = empty_text_is_cut book rules b;
  spacing_accepts = spacing_accepts book rules b;
  spacing_accepts_no_other = spacing_accepts_no_other book rules b;
  spacing_equal_lists = spacing_equal_lists book rules b;
  spacing_cuts_back = spacing_cuts_back book rules b;
}

-- ---- the built-in book

bytes_of : (w : List ℕ) → any (leb 256) w ≡ false → Bytes w
bytes_of [] e = tt
bytes_of (x ∷ w) e = let h = or_false (leb 256 x) _ e in (leb-false 256 x h.0, bytes_of w h.1)

builtin_bytes_lem : Bytes builtin_bytes
unfolding builtin_bytes
builtin_bytes_lem = bytes_of builtin_bytes refl

pub builtin_book : BuiltinBook
builtin_book =
    let b : Book builtin_bytes builtin_rules = record { bytes = builtin_bytes_lem; reads = read_builtin } in
    (b, every_book builtin_bytes builtin_rules b)
