-- The customer's demands, a type for each sentence or clause. They speak of calls (Calls.antt), so of what the contracts of the
-- operations ensure, and of a list in every form in which it can be lent.
use Rattle.answer.specs.Refusals.{number_of}
use Rattle.answer.specs.declared.Cut.{Cut as Counts}
use Rattle.answer.specs.Answers.{lexed}
use Rattle.std.specs.Prelude.{◌≡◌, ◌↔◌, true, false, List, [], ◌++◌, ℕ, ◌-◌, ◌≤◌, length, take, drop, Result, Ok, Err}
use Rattle.answer.specs.declared.Refusal.{Refusal}
use Rattle.automaton.specs.Choice.{All, among}
use Rattle.automaton.specs.Rule.{Rule, matches}
use Rattle.book.specs.Draft.{tagged}
use Rattle.book.specs.Limits.{max_text}
use Rattle.longest_match.specs.Lexer.{Token, lex, join}
use Rattle.record.specs.Tokens.{token_in, tokens_of}
use Rattle.record.specs.declared.TokenRecord.{TokenRecord}
use Rattle.token_list.specs.Faults.{alone_in}
use Rattle.spacing.specs.Separators.{drop_separators, meaning, spelled}
use Rattle.builtin.specs.Book.{builtin_bytes, builtin_rules}
use Rattle.zagvulem.specs.Numbers.{lex_numbers, print_numbers, separated_numbers}
use Rattle.demands.specs.Calls.{Form, Lent, count_in, first_in, past_in, list_in, Cut, Print, Space}
use Rattle.demands.specs.Words.{Book, LongestMatch, Separable, Unlimited, Unrefused}
use Rattle.demands.specs.Gaps.{Way, in_all, GivesBack, spelled_by, put_count, HasCopies}

-- ==== demand 1

-- That every call ends and does nothing undefined is what the proof of each function shows, and the operations ask nothing of their
-- callers. The contracts equate each answer with an outcome, in every case, so a refusal has the number that the definition of the outcome
-- gives. Here: that the number is one of the operation's own, what stands in the lent buffers after a refusal, and past the count after an
-- accepted call.

-- a refused cut is refused by one of its numbers, and leaves the records as they were
abbrev pub RefusedCut : Type 0
RefusedCut = (f : Form) (book text : List ℕ) (entry exit : Lent f) (r : Refusal) → Cut f book text entry exit (Err r)
    → (among (number_of r.reason) lex_numbers ≡ true) × (exit ≡ entry)

-- an accepted one leaves what lies past its tokens
abbrev pub PastTheTokens : Type 0
PastTheTokens = (f : Form) (book text : List ℕ) (entry exit : Lent f) (n place : ℕ) → Cut f book text entry exit (lexed n place)
    → past_in f n exit ≡ past_in f n entry

-- a printer that refuses does so by one of its numbers, and leaves the output as it was
abbrev pub RefusedPrint : Type 0
RefusedPrint = (f : Form) (book : List ℕ) (list : Lent f) (pool entry exit : List ℕ) (r : Refusal)
    → Print f book list pool entry exit (Err r) → (among (number_of r.reason) print_numbers ≡ true) × (exit ≡ entry)

abbrev pub RefusedSpace : Type 0
RefusedSpace = (book : List ℕ) (sep : TokenRecord) (mode : ℕ) (records pool entry exit : List ℕ) (r : Refusal)
    → Space book sep mode records pool entry exit (Err r) → (among (number_of r.reason) separated_numbers ≡ true) × (exit ≡ entry)

-- one that accepts leaves what lies past the bytes that it wrote
abbrev pub PastTheBytes : Type 0
PastTheBytes = (f : Form) (book : List ℕ) (list : Lent f) (pool entry exit : List ℕ) (n : ℕ)
    → Print f book list pool entry exit (Ok n) → drop n exit ≡ drop n entry

abbrev pub PastTheSpaced : Type 0
PastTheSpaced = (book : List ℕ) (sep : TokenRecord) (mode : ℕ) (records pool entry exit : List ℕ) (n : ℕ)
    → Space book sep mode records pool entry exit (Ok n) → drop n exit ≡ drop n entry

-- ==== demands 2 and 3, of one book and its rules

module _ (book : List ℕ) (rules : List Rule) where
  -- ---- the book

  -- a rule whose start is its error state matches nothing (document 01, 'The book', on START)
  abbrev pub StartInError : Type 0
  StartInError = All (λ (r : Rule). r.start ≡ r.error → (w : List ℕ) → matches r w ≡ false) rules

  -- ---- demand 2

  -- Sentence 1: what `lex` gives is by the longest-match rule, and nothing else is;
  abbrev pub CutIsLongestMatch : Type 0
  CutIsLongestMatch = (text : List ℕ) (ts : List Token) (rest : List ℕ)
      → LongestMatch rules text ts rest ↔ (lex rules text ≡ record { tokens = ts; rest = rest })

  -- and so are the tokens that an accepted call stores, with the text as their pool, and the rest that it reports.
  abbrev pub StoredIsLongestMatch : Type 0
  StoredIsLongestMatch = (f : Form) (text : List ℕ) (entry exit : Lent f) (n place : ℕ) → Cut f book text entry exit (lexed n place)
      → LongestMatch rules text (list_in f (first_in f n exit) text) (drop place text)

  -- A text that is not too long is accepted where there are records enough.
  abbrev pub CutIsAccepted : Type 0
  CutIsAccepted = (f : Form) (text : List ℕ) (entry exit : Lent f) (r : Result Counts Refusal) → Cut f book text entry exit r
      → length text ≤ max_text → length (lex rules text).tokens ≤ count_in f entry
      → r ≡ lexed (length (lex rules text).tokens) (length text - length (lex rules text).rest)

  -- Sentence 2: tokens and rest joined are the text.
  abbrev pub TokensAndRestJoined : Type 0
  TokensAndRestJoined = (f : Form) (text : List ℕ) (entry exit : Lent f) (n place : ℕ) → Cut f book text entry exit (lexed n place)
      → join (list_in f (first_in f n exit) text) ++ drop place text ≡ text

  -- Sentence 3: what is written is the tokens' bytes joined. (What separators add is in `SpacingAccepts`.)
  abbrev pub WritingJoins : Type 0
  WritingJoins = (f : Form) (list : Lent f) (pool entry exit : List ℕ) (n : ℕ) → Print f book list pool entry exit (Ok n)
      → take n exit ≡ join (list_in f list pool)

  -- ---- demand 3, the plain printer

  -- Sentence 1: of two lists that it accepts it writes the same bytes just where they are the same list, whatever their pools.
  abbrev pub EqualLists : Type 0
  EqualLists = (f : Form) (list : Lent f) (pool entry exit : List ℕ) (n : ℕ) → Print f book list pool entry exit (Ok n)
      → (f₁ : Form) (list₁ : Lent f₁) (pool₁ entry₁ exit₁ : List ℕ) (n₁ : ℕ) → Print f₁ book list₁ pool₁ entry₁ exit₁ (Ok n₁)
      → (list_in f list pool ≡ list_in f₁ list₁ pool₁) ↔ (take n exit ≡ take n₁ exit₁)

  -- Sentence 2: limits aside, the lists that it takes are the `Separable` ones.
  abbrev pub AcceptedExactly : Type 0
  AcceptedExactly = (f : Form) (list : Lent f) (pool entry exit : List ℕ) (r : Result ℕ Refusal) → Print f book list pool entry exit r
      → Unlimited f list pool entry → ((n : ℕ) × (r ≡ Ok n)) ↔ Separable rules (list_in f list pool)

  -- A token whose tag no rule has is not cut as itself (document 01, 'Words of demand 3', 2).
  abbrev pub UnknownNotAlone : Type 0
  UnknownNotAlone = (tag : ℕ) (w : List ℕ) → tagged tag rules ≡ false → alone_in rules tag w ≡ false

  -- Sentence 3, one way: each output is cut without a rest and, given records enough, into the list that was handed in.
  abbrev pub OutputsAreCut : Type 0
  OutputsAreCut = (f : Form) (list : Lent f) (pool entry exit : List ℕ) (n : ℕ) → Print f book list pool entry exit (Ok n)
      → (g : Form) (room stored : Lent g) (r : Result Counts Refusal) → Cut g book (take n exit) room stored r
      → length (list_in f list pool) ≤ count_in g room
      → (r ≡ lexed (length (list_in f list pool)) (length (take n exit)))
      × (list_in g (first_in g (length (list_in f list pool)) stored) (take n exit) ≡ list_in f list pool)

  -- The other way: given output space, the list that a cut without a rest stores is accepted, and the text is what is written.
  abbrev pub CutsArePrinted : Type 0
  CutsArePrinted = (f : Form) (text : List ℕ) (room stored : Lent f) (n : ℕ) → Cut f book text room stored (lexed n (length text))
      → (entry exit : List ℕ) (r : Result ℕ Refusal) → Print f book (first_in f n stored) text entry exit r → length text ≤ length entry
      → (r ≡ Ok (length text)) × (take (length text) exit ≡ text)

  -- The empty text is cut without a rest (document 01, 'Words of demand 3', 3).
  abbrev pub EmptyTextIsCut : Type 0
  EmptyTextIsCut = (f : Form) (room stored : Lent f) (r : Result Counts Refusal) → Cut f book [] room stored r → r ≡ lexed 0 0

  -- ---- demand 3, the spacing printer (sentence 4)

  -- It accepts each call that meets none of its refusals, and writes the tokens with their separators: `Unrefused` goes through 16 to 26,
  -- `spelled` says where separators stand.
  abbrev pub SpacingAccepts : Type 0
  SpacingAccepts = (sep : TokenRecord) (mode : ℕ) (records pool entry exit : List ℕ) (r : Result ℕ Refusal)
      → Space book sep mode records pool entry exit r → Unrefused rules sep mode records pool entry
      → (r ≡ Ok (length (spelled rules sep mode records pool)))
      × (take (length (spelled rules sep mode records pool)) exit ≡ spelled rules sep mode records pool)

  -- It accepts no other.
  abbrev pub SpacingAcceptsNoOther : Type 0
  SpacingAcceptsNoOther = (sep : TokenRecord) (mode : ℕ) (records pool entry exit : List ℕ) (n : ℕ)
      → Space book sep mode records pool entry exit (Ok n)
      → Unrefused rules sep mode records pool entry × (take n exit ≡ spelled rules sep mode records pool)

  -- Of two lists that it accepts in one mode with one separator token it writes the same bytes just where they are the same list. Equal tag
  -- and bytes make separator tokens the same (document 01, 'Words of demand 3', 4).
  abbrev pub SpacingEqualLists : Type 0
  SpacingEqualLists = (mode : ℕ)
      → (sep : TokenRecord) (records pool entry exit : List ℕ) (n : ℕ) → Space book sep mode records pool entry exit (Ok n)
      → (sep₁ : TokenRecord) (records₁ pool₁ entry₁ exit₁ : List ℕ) (n₁ : ℕ)
      → Space book sep₁ mode records₁ pool₁ entry₁ exit₁ (Ok n₁)
      → token_in pool sep ≡ token_in pool₁ sep₁
      → (tokens_of records pool ≡ tokens_of records₁ pool₁) ↔ (take n exit ≡ take n₁ exit₁)

  -- Its output, given records enough, is cut to its end, and the tokens of the cut but for the separators are the list.
  abbrev pub SpacingCutsBack : Type 0
  SpacingCutsBack = (sep : TokenRecord) (mode : ℕ) (records pool entry exit : List ℕ) (n : ℕ)
      → Space book sep mode records pool entry exit (Ok n)
      → (g : Form) (room stored : Lent g) (r : Result Counts Refusal) → Cut g book (take n exit) room stored r
      → length (lex rules (take n exit)).tokens ≤ count_in g room
      → (r ≡ lexed (length (lex rules (take n exit)).tokens) (length (take n exit)))
      × (drop_separators rules (list_in g (first_in g (length (lex rules (take n exit)).tokens) stored) (take n exit))
      ≡ tokens_of records pool)

-- ==== document 02, wish 7

-- A call of the spacing printer in mode 0 is one in mode 2: the same answer and the same bytes, whether it is refused or not. So what is
-- said of calls in mode 2, and of the lists that they write, is had for mode 0.
abbrev pub ZeroIsSparing : Type 0
ZeroIsSparing = (book : List ℕ) (sep : TokenRecord) (records pool entry exit : List ℕ) (r : Result ℕ Refusal)
    → Space book sep 0 records pool entry exit r ↔ Space book sep 2 records pool entry exit r

-- A list that is accepted in mode 1 is accepted in each other mode, with the same output space, and takes no more bytes there.
abbrev pub MostInOne : Type 0
MostInOne = (book : List ℕ) (sep : TokenRecord) (records pool entry exit : List ℕ) (n : ℕ)
    → Space book sep 1 records pool entry exit (Ok n)
    → (mode : ℕ) (exit₁ : List ℕ) (r : Result ℕ Refusal) → mode ≤ 2 → Space book sep mode records pool entry exit₁ r
    → (m : ℕ) × (r ≡ Ok m) × (m ≤ n)

-- ==== document 02, wish 8

-- What an accepted call of the spacing printer puts, in every mode, is counted by `put_count`.
abbrev pub SeparatorsCounted : Type 0
SeparatorsCounted = (book : List ℕ) (rules : List Rule) → Book book rules
    → (sep : TokenRecord) (mode : ℕ) (records pool entry exit : List ℕ) (n : ℕ)
    → Space book sep mode records pool entry exit (Ok n)
    → HasCopies rules (token_in pool sep) mode (tokens_of records pool) n (take n exit)

-- an accepted call in mode 2, or in mode 0, which stands for it
pub record Sparing (book : List ℕ) (rules : List Rule) (sep : TokenRecord) (mode : ℕ) (records pool entry exit : List ℕ) (n : ℕ)
    : Type 0 where
  pub reads : Book book rules
  pub spares : meaning mode ≡ 2
  pub call : Space book sep mode records pool entry exit (Ok n)

-- No way of putting copies of the separator into the gaps that gives the list back has fewer of them. The bytes of that way may be more
-- than a call takes, and its cut may leave a rest.
abbrev pub FewestSeparators : Type 0
FewestSeparators = (book : List ℕ) (rules : List Rule) (sep : TokenRecord) (mode : ℕ) (records pool entry exit : List ℕ) (n : ℕ)
    → Sparing book rules sep mode records pool entry exit n
    → (way : Way) → GivesBack rules (tokens_of records pool) (spelled_by way sep records pool)
    → put_count rules (token_in pool sep) mode (tokens_of records pool) ≤ in_all way (tokens_of records pool)

-- So, where a call cuts the bytes of a way and stores the same list but for separators, they are no fewer than the printer wrote.
abbrev pub NoTighterSheet : Type 0
NoTighterSheet = (book : List ℕ) (rules : List Rule) (sep : TokenRecord) (mode : ℕ) (records pool entry exit : List ℕ) (n : ℕ)
    → Sparing book rules sep mode records pool entry exit n
    → (way : Way) (g : Form) (room stored : Lent g) (m place : ℕ)
    → Cut g book (spelled_by way sep records pool) room stored (lexed m place)
    → drop_separators rules (list_in g (first_in g m stored) (spelled_by way sep records pool)) ≡ tokens_of records pool
    → n ≤ length (spelled_by way sep records pool)

-- ==== together

-- demands 2 and 3 of a book
pub record Kept (book : List ℕ) (rules : List Rule) : Type 0 where
  pub start_in_error : StartInError book rules
  pub cut_is_longest_match : CutIsLongestMatch book rules
  pub stored_is_longest_match : StoredIsLongestMatch book rules
  pub cut_is_accepted : CutIsAccepted book rules
  pub tokens_and_rest_joined : TokensAndRestJoined book rules
  pub writing_joins : WritingJoins book rules
  pub equal_lists : EqualLists book rules
  pub accepted_exactly : AcceptedExactly book rules
  pub unknown_not_alone : UnknownNotAlone book rules
  pub outputs_are_cut : OutputsAreCut book rules
  pub cuts_are_printed : CutsArePrinted book rules
  pub empty_text_is_cut : EmptyTextIsCut book rules
  pub spacing_accepts : SpacingAccepts book rules
  pub spacing_accepts_no_other : SpacingAcceptsNoOther book rules
  pub spacing_equal_lists : SpacingEqualLists book rules
  pub spacing_cuts_back : SpacingCutsBack book rules

-- they are kept of every accepted book,
abbrev pub EveryBook : Type 0
EveryBook = (book : List ℕ) (rules : List Rule) → Book book rules → Kept book rules

-- and of the built-in book, which is one: `lex_builtin` cuts by it, and the printers are lent its bytes
abbrev pub BuiltinBook : Type 0
BuiltinBook = Book builtin_bytes builtin_rules × Kept builtin_bytes builtin_rules
