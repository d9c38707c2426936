-- Document 02, wish 10: STEP is retired. What the stricter reading takes, and what rewriting an old book gives.
use Rattle.answer.specs.Refusals.{number_of}
use Rattle.answer.specs.declared.Cut.{Cut as Counts}
use Rattle.answer.specs.declared.Reason.{Reason}
use Rattle.answer.specs.declared.RuleName.{RuleName}
use Rattle.answer.specs.declared.Reason.TheVariants.{Retired}
use Rattle.std.specs.Prelude.{◌≡◌, ◌↔◌, true, false, List, map, ℕ, ◌<◌, ◌≤◌, length, take, drop, Result, Ok, Err}
use Rattle.answer.specs.declared.Refusal.{Refusal}
use Rattle.automaton.specs.Choice.{among}
use Rattle.automaton.specs.Rule.{Rule}
use Rattle.command.specs.Commands.{byte_at}
use Rattle.book.specs.Limits.{max_bytes}
use Rattle.book.specs.Draft.{Draft, apply}
use Rattle.reader.specs.Reading.{accepted, refused, read_book, read_strict}
use Rattle.record.specs.declared.TokenRecord.{TokenRecord}
use Rattle.rewriting.specs.Rewritten.{commands_of, has_step, modern, rewritten}
use Rattle.lexer.specs.Outcome.{rest_of}
use Rattle.listing.specs.Lines.{listing}
use Rattle.zagvulem.specs.Numbers.{strict_numbers, rewrite_numbers}
use Rattle.demands.specs.Calls.{Form, Lent, Read, Ask, Rewrite, Cut, MaskedCut, Print, Space}
use Rattle.command.specs.declared.Command.TheVariants as command

-- ---- what a STEP means

-- the SPAN whose low and high are its byte, whatever has been read and wherever it stands
abbrev pub StepIsSpan : Type 0
StepIsSpan =
    (d : Draft) (from byte to at len : ℕ) → apply d (command.Step from byte to) at len ≡ apply d (command.Span from byte byte to) at len

-- ---- the stricter reading

-- It accepts the books that the ordinary one accepts and that have no STEP, with the same rules.
abbrev pub StrictAccepts : Type 0
StrictAccepts =
    (book : List ℕ) (rules : List Rule)
    → (read_strict book ≡ accepted rules) ↔ ((read_book book ≡ accepted rules) × (has_step book ≡ false))

-- 33 stands at a STEP; any other refusal is the ordinary reading's.
abbrev pub StrictRefusesStep : Type 0
StrictRefusesStep = (book : List ℕ) (place : ℕ) → read_strict book ≡ refused Retired place → (place < length book) × (byte_at book place ≡ 5)

abbrev pub StrictRefusesAlike : Type 0
StrictRefusesAlike =
    (book : List ℕ) (reason : Reason) (place : ℕ) → read_strict book ≡ refused reason place → (reason ≡ Retired → ⊥)
    → read_book book ≡ refused reason place

-- A call of it is refused by one of its numbers.
abbrev pub RefusedStrictly : Type 0
RefusedStrictly = (book : List ℕ) (r : Refusal) → Read true book (Err r) → among (number_of r.reason) strict_numbers ≡ true

-- ---- calls of rewriting

-- as demand 1 says of the printers
abbrev pub RefusedRewrite : Type 0
RefusedRewrite =
    (book entry exit : List ℕ) (r : Refusal) → Rewrite book entry exit (Err r)
    → (among (number_of r.reason) rewrite_numbers ≡ true) × (exit ≡ entry)

abbrev pub PastTheRewritten : Type 0
PastTheRewritten = (book entry exit : List ℕ) (n : ℕ) → Rewrite book entry exit (Ok n) → drop n exit ≡ drop n entry

-- An accepted book whose rewritten form is not too long is rewritten where there is room for it.
abbrev pub RewriteAccepts : Type 0
RewriteAccepts =
    (book : List ℕ) (rules : List Rule) (entry exit : List ℕ) (r : Result ℕ Refusal) → Rewrite book entry exit r
    → read_book book ≡ accepted rules → length (rewritten book) ≤ max_bytes → length (rewritten book) ≤ length entry
    → (r ≡ Ok (length (rewritten book))) × (take (length (rewritten book)) exit ≡ rewritten book)

-- ---- the rewritten book

-- an accepted call made `new` of `old`
pub record Rewrites (old new : List ℕ) : Type 0 where
  pub entry : List ℕ
  pub exit : List ℕ
  pub count : ℕ
  pub call : Rewrite old entry exit (Ok count)
  pub written : new ≡ take count exit

-- its commands are those of the old book, in order, with the SPAN that a STEP means in its place
abbrev pub SameCommands : Type 0
SameCommands = (old new : List ℕ) → Rewrites old new → commands_of new ≡ map modern (commands_of old)

-- so none of them is a STEP,
abbrev pub NoStepLeft : Type 0
NoStepLeft = (old new : List ℕ) → Rewrites old new → has_step new ≡ false

-- and a book without STEP stays as it is
abbrev pub NothingToRewrite : Type 0
NothingToRewrite = (old new : List ℕ) → Rewrites old new → has_step old ≡ false → new ≡ old

-- these rules are the old book's, and by both readings the new one's
pub record SameRules (old new : List ℕ) (rules : List Rule) : Type 0 where
  pub before : read_book old ≡ accepted rules
  pub ordinary : read_book new ≡ accepted rules
  pub strict : read_strict new ≡ accepted rules

abbrev pub RewritesTheRules : Type 0
RewritesTheRules = (old new : List ℕ) → Rewrites old new → (rules : List Rule) × SameRules old new rules

-- ---- every operation

-- A call by the one book answers and leaves what a call by the other does, whatever is lent and whether it is refused or not; the rest is
-- handed back, and cutlist prints, alike. (The built-in book's cut is lent no book.)
pub record Alike (old new : List ℕ) : Type 0 where
  pub reads : (r : Result ℕ Refusal) → Read false old r ↔ Read false new r
  pub asks : (index : ℕ) (r : Result RuleName Refusal) → Ask old index r ↔ Ask new index r
  pub cuts : (f : Form) (text : List ℕ) (entry exit : Lent f) (r : Result Counts Refusal)
      → Cut f old text entry exit r ↔ Cut f new text entry exit r
  pub cuts_masked : (f : Form) (text : List ℕ) (entry exit : Lent f) (masks after : List ℕ) (r : Result Counts Refusal)
      → MaskedCut f old text entry exit masks after r ↔ MaskedCut f new text entry exit masks after r
  pub rests : (text : List ℕ) → rest_of old text ≡ rest_of new text
  pub prints : (f : Form) (list : Lent f) (pool entry exit : List ℕ) (r : Result ℕ Refusal)
      → Print f old list pool entry exit r ↔ Print f new list pool entry exit r
  pub spaces : (sep : TokenRecord) (mode : ℕ) (records pool entry exit : List ℕ) (r : Result ℕ Refusal)
      → Space old sep mode records pool entry exit r ↔ Space new sep mode records pool entry exit r
  pub lists : (text records : List ℕ) → listing old text records ≡ listing new text records

abbrev pub OperationsAlike : Type 0
OperationsAlike = (old new : List ℕ) → Rewrites old new → Alike old new

-- Rewritten again, where there is room, the new book is itself.
abbrev pub RewrittenOnce : Type 0
RewrittenOnce =
    (old new : List ℕ) → Rewrites old new → (entry exit : List ℕ) (r : Result ℕ Refusal) → Rewrite new entry exit r → length new ≤ length entry
    → (r ≡ Ok (length new)) × (take (length new) exit ≡ new)
