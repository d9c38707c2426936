-- Document 02, wish 11: every rule that agreed. What a cut says of the rules that match a token, and that it is otherwise the cut of which
-- the demands speak.
use Rattle.answer.specs.Refusals.{number_of}
use Rattle.answer.specs.declared.Cut.{Cut as Counts}
use Rattle.answer.specs.declared.Reason.TheVariants.{TooFewRecords}
use Rattle.answer.specs.Answers.{lexed}
use Rattle.std.specs.Prelude.{◌≡◌, ◌⊎◌, true, List, ◌∷◌, ◌++◌, ℕ, ◌<◌, ◌≤◌, length, Result, Err}
use Rattle.answer.specs.declared.Refusal.{Refusal}
use Rattle.automaton.specs.Choice.{among}
use Rattle.automaton.specs.Rule.{Rule, matches}
use Rattle.book.specs.Limits.{max_text}
use Rattle.reader.specs.Reading.{accepted, read_book}
use Rattle.longest_match.specs.Lexer.{Token, lex}
use Rattle.longest_match.specs.Masks.{bit, bit_at}
use Rattle.zagvulem.specs.Numbers.{lex_numbers}
use Rattle.demands.specs.Calls.{Form, Lent, count_in, first_in, list_in, mask_count_in, mask_in, past_masks, Cut, MaskedCut}
use Rattle.demands.specs.Words.{Book}

-- ---- the cut beside its masks

-- there is a mask for each token
abbrev pub MasksEnough : Form → List ℕ → List ℕ → List ℕ → Type 0
MasksEnough f book text masks =
    (rules : List Rule) → read_book book ≡ accepted rules → length (lex rules text).tokens ≤ mask_count_in f masks

-- With masks enough, a call answers and stores what it would without them, so that all of the demands holds of it;
abbrev pub MaskedIsCut : Type 0
MaskedIsCut = (f : Form) (book text : List ℕ) (entry exit : Lent f) (masks after : List ℕ) (r : Result Counts Refusal)
    → MaskedCut f book text entry exit masks after r → MasksEnough f book text masks → Cut f book text entry exit r

-- every accepted call is such a one.
abbrev pub AcceptedIsCut : Type 0
AcceptedIsCut = (f : Form) (book text : List ℕ) (entry exit : Lent f) (masks after : List ℕ) (n place : ℕ)
    → MaskedCut f book text entry exit masks after (lexed n place) → Cut f book text entry exit (lexed n place)

-- 15 is said where the records, or the masks, are fewer than the tokens, and its place is the tokens' number.
abbrev pub TooFew : Type 0
TooFew = (f : Form) (book : List ℕ) (rules : List Rule) (text : List ℕ) (entry exit : Lent f) (masks after : List ℕ) (r : Result Counts Refusal)
    → MaskedCut f book text entry exit masks after r → read_book book ≡ accepted rules → length text ≤ max_text
    → (count_in f entry < length (lex rules text).tokens) ⊎ (mask_count_in f masks < length (lex rules text).tokens)
    → r ≡ Err (record { reason = TooFewRecords; place = length (lex rules text).tokens })

-- ---- demand 1 of the masks

-- a refused call leaves the masks as they were too
abbrev pub RefusedMasked : Type 0
RefusedMasked = (f : Form) (book text : List ℕ) (entry exit : Lent f) (masks after : List ℕ) (r : Refusal)
    → MaskedCut f book text entry exit masks after (Err r)
    → (among (number_of r.reason) lex_numbers ≡ true) × (exit ≡ entry) × (after ≡ masks)

-- an accepted one leaves what lies past those of its tokens
abbrev pub PastTheMasks : Type 0
PastTheMasks = (f : Form) (book text : List ℕ) (entry exit : Lent f) (masks after : List ℕ) (n place : ℕ)
    → MaskedCut f book text entry exit masks after (lexed n place) → past_masks f n after ≡ past_masks f n masks

-- ---- the masks

-- Bit k is set just where rule number k, which has k rules before it, matches the whole of w; no bit is set where there is no rule.
pub record Agreement (rules : List Rule) (w : List ℕ) (mask : ℕ) : Type 0 where
  pub agrees : (before : List Rule) (r : Rule) (behind : List Rule) → rules ≡ before ++ r ∷ behind
      → bit_at mask (length before) ≡ bit (matches r w)
  pub no_other : (k : ℕ) → length rules ≤ k → bit_at mask k ≡ 0

-- The lowest bit that is set is that of the rule with this tag.
pub record Lowest (rules : List Rule) (tag mask : ℕ) : Type 0 where
  pub before : List Rule
  pub rule : Rule
  pub behind : List Rule
  pub splits : rules ≡ before ++ rule ∷ behind
  pub tagged : rule.tag ≡ tag
  pub set : bit_at mask (length before) ≡ 1
  pub lowest : (k : ℕ) → k < length before → bit_at mask k ≡ 0

-- For each token that an accepted call stores, the mask of the same number says the rules that agree on its bytes; the first of them took
-- it.
pub record Hidden (rules : List Rule) (t : Token) (mask : ℕ) : Type 0 where
  pub agreement : Agreement rules t.bytes mask
  pub took : Lowest rules t.tag mask

abbrev pub MasksAgree : Type 0
MasksAgree = (book : List ℕ) (rules : List Rule) → Book book rules
    → (f : Form) (text : List ℕ) (entry exit : Lent f) (masks after : List ℕ) (n place : ℕ)
    → MaskedCut f book text entry exit masks after (lexed n place)
    → (ts : List Token) (t : Token) (us : List Token) → list_in f (first_in f n exit) text ≡ ts ++ t ∷ us
    → Hidden rules t (mask_in f after (length ts))
