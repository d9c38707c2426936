-- Document 02, wish 1: cutting in turns. What the calls of a turn say, how turns of different budgets agree, and that turns repeated to the
-- finish are the single cut.
use Rattle.answer.specs.Refusals.{number_of}
use Rattle.answer.specs.declared.Turn.{Turn}
use Rattle.answer.specs.declared.Reason.TheVariants.{PastTheText, TextTooLong, TooFewRecords}
use Rattle.answer.specs.Answers.{lexed, turned}
use Rattle.std.specs.Prelude.{◌≡◌, ◌⊎◌, ◌↔◌, Bool, true, false, List, [], ◌∷◌, ◌++◌, ℕ, ◌+◌, ◌-◌, ◌*◌, ◌<◌, ◌≤◌, length}
use Rattle.std.specs.Prelude.{take, drop, Result, Err}
use Rattle.answer.specs.declared.Refusal.{Refusal}
use Rattle.automaton.specs.Choice.{if, All, among}
use Rattle.automaton.specs.Rule.{Rule, walk}
use Rattle.book.specs.Limits.{max_text}
use Rattle.reader.specs.Reading.{accepted, read_book}
use Rattle.longest_match.specs.Lexer.{Token, lex, join}
use Rattle.longest_match.specs.Masks.{masks_of}
use Rattle.record.specs.Records.{record_count}
use Rattle.record.specs.Tokens.{tokens_of}
use Rattle.record.specs.Masks.{mask_bytes, mask_count}
use Rattle.turns.specs.Reach.{reach}
use Rattle.turns.specs.Turn.{turn}
use Rattle.zagvulem.specs.Numbers.{turn_numbers}
use Rattle.demands.specs.Calls.{Form, Lent, first_in, list_in, mask_bytes_in, MaskedCut, Turning}
use Rattle.demands.specs.Words.{Book, Unmatched, LongestMatch}

-- ---- the reach

-- every rule stands in its error state after the bytes w
abbrev pub AllStopped : List Rule → List ℕ → Type 0
AllStopped rules w = All (λ (r : Rule). walk r r.start w ≡ r.error) rules

-- The reach is the fewest bytes after which all rules do, or all bytes where that never happens.
pub record ReachOf (rules : List Rule) (text : List ℕ) (n : ℕ) : Type 0 where
  pub within : n ≤ length text
  pub not_before : (k : ℕ) → k < n → AllStopped rules (take k text) → ⊥
  pub stopped : n < length text → AllStopped rules (take n text)

abbrev pub ReachIsFewest : Type 0
ReachIsFewest = (rules : List Rule) (text : List ℕ) → ReachOf rules text (reach rules text)

-- ---- demand 1 of turns

-- a refused turn is refused by one of its numbers, and leaves the records and the masks as they were
abbrev pub RefusedTurn : Type 0
RefusedTurn = (book text : List ℕ) (place budget : ℕ) (entry exit masks after : List ℕ) (r : Refusal)
    → Turning book text place budget entry exit masks after (Err r)
    → (among (number_of r.reason) turn_numbers ≡ true) × (exit ≡ entry) × (after ≡ masks)

-- an accepted one leaves what lies past those of its own tokens
abbrev pub PastTheTurn : Type 0
PastTheTurn = (book text : List ℕ) (place budget : ℕ) (entry exit masks after : List ℕ) (n next examined : ℕ) (finished : Bool)
    → Turning book text place budget entry exit masks after (turned n next examined finished)
    → (drop (10 * n) exit ≡ drop (10 * n) entry) × (drop (4 * n) after ≡ drop (4 * n) masks)

-- ---- the refusals behind those of the book

module _ (book : List ℕ) (rules : List Rule) (reads : read_book book ≡ accepted rules) where
  -- a text that is too long, wherever the place lies
  abbrev pub TurnTooLong : Type 0
  TurnTooLong = (text : List ℕ) (place budget : ℕ) (entry exit masks after : List ℕ) (r : Result Turn Refusal)
      → Turning book text place budget entry exit masks after r → max_text < length text
      → r ≡ Err (record { reason = TextTooLong; place = 0 })

  -- a place past the text, however few records and masks there are
  abbrev pub PlacePastText : Type 0
  PlacePastText = (text : List ℕ) (place budget : ℕ) (entry exit masks after : List ℕ) (r : Result Turn Refusal)
      → Turning book text place budget entry exit masks after r → length text ≤ max_text → length text < place
      → r ≡ Err (record { reason = PastTheText; place = 0 })

  -- fewer records, or fewer masks, than the turn has tokens of its own
  abbrev pub TurnTooFew : Type 0
  TurnTooFew = (text : List ℕ) (place budget : ℕ) (entry exit masks after : List ℕ) (r : Result Turn Refusal)
      → Turning book text place budget entry exit masks after r → length text ≤ max_text → place ≤ length text
      → (record_count entry < length (turn rules (drop place text) budget).tokens)
      ⊎ (mask_count masks < length (turn rules (drop place text) budget).tokens)
      → r ≡ Err (record { reason = TooFewRecords; place = length (turn rules (drop place text) budget).tokens })

  -- in every other case it is accepted
  abbrev pub TurnIsAccepted : Type 0
  TurnIsAccepted = (text : List ℕ) (place budget : ℕ) (entry exit masks after : List ℕ) (r : Result Turn Refusal)
      → Turning book text place budget entry exit masks after r → length text ≤ max_text → place ≤ length text
      → length (turn rules (drop place text) budget).tokens ≤ record_count entry
      → length (turn rules (drop place text) budget).tokens ≤ mask_count masks
      → (next : ℕ) × (examined : ℕ) × (finished : Bool)
      × (r ≡ turned (length (turn rules (drop place text) budget).tokens) next examined finished)

-- ---- what an accepted turn says

-- the reaches at the places of tokens that lie one behind the other at the start of a text, summed
abbrev pub reaches : List Rule → List ℕ → List Token → ℕ
reaches rules text [] = 0
reaches rules text (t ∷ ts) = reach rules text + reaches rules (drop (length t.bytes) text) ts

-- Of its tokens ts, from `place` on, and what it reports:
pub record Says (rules : List Rule) (text : List ℕ) (place budget : ℕ) (ts : List Token) (next examined : ℕ) (finished : Bool)
    : Type 0 where
  -- they lie from the place to the next one, and are the first of the cut from there
  pub place-within : place ≤ next
  pub next_within : next ≤ length text
  pub joined : join ts ++ drop next text ≡ drop place text
  pub first_of_cut : (lex rules (drop place text)).tokens ≡ ts ++ (lex rules (drop next text)).tokens
  -- the bytes examined are the sum of the reaches, that of a tokenless place at which it finished included, and never above the budget
  pub sum_of_reaches : examined ≡ reaches rules (drop place text) ts + if finished (reach rules (drop next text)) 0
  pub within_budget : examined ≤ budget
  -- finished, no token begins at the next place; spent, its reach is larger than what is left; finished just where it fits
  pub no_token : finished ≡ true → (n : ℕ) → 0 < n → n ≤ length (drop next text) → Unmatched rules (take n (drop next text))
  pub too_far : finished ≡ false → budget - examined < reach rules (drop next text)
  pub fits : (finished ≡ true) ↔ (reach rules (drop next text) ≤ budget - reaches rules (drop place text) ts)

-- the tokens that the first n records say
abbrev pub list_of : ℕ → List ℕ → List ℕ → List Token
list_of n exit text = tokens_of (take (10 * n) exit) text

module _ (book : List ℕ) (rules : List Rule) where
  abbrev pub TurnSays : Type 0
  TurnSays = (text : List ℕ) (place budget : ℕ) (entry exit masks after : List ℕ) (n next examined : ℕ) (finished : Bool)
      → Turning book text place budget entry exit masks after (turned n next examined finished)
      → Says rules text place budget (list_of n exit text) next examined finished
      × (take (4 * n) after ≡ mask_bytes (masks_of rules (list_of n exit text)))

  -- ---- turns beside each other

  -- Where both have records enough, so that both are accepted: the records and the masks of the smaller turn are the first of the larger
  -- one's; so are the tokens that they say. Finished, both answer the same.
  abbrev pub LargerExtends : Type 0
  LargerExtends = (text : List ℕ) (place budget larger : ℕ) → budget ≤ larger
      → (entry exit masks after : List ℕ) (n next examined : ℕ) (finished : Bool)
      → Turning book text place budget entry exit masks after (turned n next examined finished)
      → (entry₁ exit₁ masks₁ after₁ : List ℕ) (n₁ next₁ examined₁ : ℕ) (finished₁ : Bool)
      → Turning book text place larger entry₁ exit₁ masks₁ after₁ (turned n₁ next₁ examined₁ finished₁)
      → (n ≤ n₁) × (take (10 * n) exit₁ ≡ take (10 * n) exit) × (take (4 * n) after₁ ≡ take (4 * n) after)
      × (finished ≡ true → turned n₁ next₁ examined₁ finished₁ ≡ turned n next examined finished)

  -- No byte behind what the budget allows plays a part: where two texts are the same so far, and both go on, both turns answer and store
  -- the same.
  abbrev pub LooksNoFurther : Type 0
  LooksNoFurther = (text other : List ℕ) (place budget : ℕ) → take (place + budget) text ≡ take (place + budget) other
      → place + budget < length text → place + budget < length other
      → (entry exit masks after : List ℕ) (n next examined : ℕ) (finished : Bool)
      → Turning book text place budget entry exit masks after (turned n next examined finished)
      → (entry₁ exit₁ masks₁ after₁ : List ℕ) (n₁ next₁ examined₁ : ℕ) (finished₁ : Bool)
      → Turning book other place budget entry₁ exit₁ masks₁ after₁ (turned n₁ next₁ examined₁ finished₁)
      → (turned n₁ next₁ examined₁ finished₁ ≡ turned n next examined finished)
      × (take (10 * n) exit₁ ≡ take (10 * n) exit) × (take (4 * n) after₁ ≡ take (4 * n) after)

-- ---- turns one after the other

-- an accepted turn: its budget, what it was lent and left, and what it reported
pub record Taken : Type 0 where
  pub budget : ℕ
  pub entry : List ℕ
  pub exit : List ℕ
  pub masks : List ℕ
  pub after : List ℕ
  pub tokens : ℕ
  pub next : ℕ
  pub examined : ℕ
  pub finished : Bool

-- turns from one place to another, each begun where the one before it stopped, whatever their budgets
abbrev pub FromTo : List ℕ → List ℕ → ℕ → List Taken → ℕ → Type 0
FromTo book text place [] last = place ≡ last
FromTo book text place (t ∷ ts) last =
    Turning book text place t.budget t.entry t.exit t.masks t.after (turned t.tokens t.next t.examined t.finished)
    × FromTo book text t.next ts last

-- the last of them is finished
abbrev pub Finish : List Taken → Type 0
Finish [] = ⊥
Finish (t ∷ []) = t.finished ≡ true
Finish (t ∷ u ∷ ts) = Finish (u ∷ ts)

-- the tokens that they have given, and their masks
abbrev pub given : List Taken → List ℕ → List Token
given [] text = []
given (t ∷ ts) text = list_of t.tokens t.exit text ++ given ts text

abbrev pub agreed : List Taken → List ℕ
agreed [] = []
agreed (t ∷ ts) = take (4 * t.tokens) t.after ++ agreed ts

module _ (book : List ℕ) (rules : List Rule) where
  -- From place 0, finished or not, they have given the first tokens of the cut.
  abbrev pub TurnsBegin : Type 0
  TurnsBegin = (text : List ℕ) (ts : List Taken) (last : ℕ) → FromTo book text 0 ts last
      → ((lex rules text).tokens ≡ given ts text ++ (lex rules (drop last text)).tokens)
      × ((lex rules text).rest ≡ (lex rules (drop last text)).rest)
      × (agreed ts ≡ mask_bytes (masks_of rules (given ts text)))

  -- To the finish, they make the list and the rest of the single cut, by the longest-match rule,
  abbrev pub TurnsAreLongestMatch : Type 0
  TurnsAreLongestMatch = (text : List ℕ) (ts : List Taken) (last : ℕ) → FromTo book text 0 ts last → Finish ts
      → LongestMatch rules text (given ts text) (drop last text)

  -- and the list, the masks and the place of the rest of each call that cuts the text at once.
  abbrev pub TurnsAreCut : Type 0
  TurnsAreCut = (text : List ℕ) (ts : List Taken) (last : ℕ) → FromTo book text 0 ts last → Finish ts
      → (f : Form) (entry exit : Lent f) (masks after : List ℕ) (n place : ℕ)
      → MaskedCut f book text entry exit masks after (lexed n place)
      → (given ts text ≡ list_in f (first_in f n exit) text) × (agreed ts ≡ take (4 * n) (mask_bytes_in f after)) × (last ≡ place)

-- ---- together

pub record TurnsKept (book : List ℕ) (rules : List Rule) : Type 0 where
  pub turn_says : TurnSays book rules
  pub larger-extends : LargerExtends book rules
  pub looks_no_further : LooksNoFurther book rules
  pub turns_begin : TurnsBegin book rules
  pub turns_are_longest_match : TurnsAreLongestMatch book rules
  pub turns_are_cut : TurnsAreCut book rules

abbrev pub EveryTurn : Type 0
EveryTurn = (book : List ℕ) (rules : List Rule) → Book book rules → TurnsKept book rules
