-- When the plain printer accepts, and what it then writes. Assumes nothing.
use Rattle.std.specs.Prelude.{Ok}
use Rattle.answer.specs.declared.Reason.TheVariants.{ReadOn}
use mathlib.Core.Path.{◌≡◌, refl, sym, ap, ◌∙◌}
use mathlib.Core.Bool.{Bool, true, false, ◌||◌}
use mathlib.Core.Option.{none}
use mathlib.Core.List.{List, [], ◌∷◌}
use Prim.Native.Nat.{ℕ, suc, ◌≤◌}
use lib.Dec.{eqb}
use lib.ListN.{length, take}
use lib.Seq.{take-append_seam}
use borrow.Author.Tests.{le-ltb, ltb-false}
use Rattle.automaton.specs.Choice.{if, All}
use Rattle.automaton.specs.Rule.{Rule, matches}
use Rattle.automaton.proofs.Tests.{clash}
use Rattle.book.specs.Draft.{tagged}
use Rattle.book.specs.Valid.{Distinct}
use Rattle.book.specs.Limits.{max_text, max_tokens}
use Rattle.reader.specs.Reading.{Reading, accepted, refused, read_book}
use Rattle.longest_match.specs.Lexer.{Token, extends, join, Alone, Printable}
use Rattle.longest_match.proofs.First.{nothing}
use Rattle.record.specs.Records.{record_count}
use Rattle.record.specs.declared.TokenRecord.{TokenRecord}
use Rattle.record.specs.Tokens.{records_of, bytes_in, tokens_in, tokens_of, InPool}
use Rattle.token_list.specs.Faults.{alone_in, fault_of}
use Rattle.token_list.specs.Checks.{refuse, refuse_by, first_fault, first_extended}
use Rattle.token_list.proofs.Alone.{alone_first, first_alone}
use Rattle.token_list.proofs.Faulting.{fault_none, fine}
use Rattle.token_list.proofs.Passes.{faultless_front}
use Rattle.output.specs.Outcome.{PrintOutcome, print_accepted, refused_if, unless, written}
use Rattle.output.proofs.Written.{written-fits, check_printed, unless_printed}
use Rattle.printer.specs.Outcome.{print_checked, print_rules, print_reading, print_outcome}

-- ---- an accepted outcome passes each check

-- the tests before 22
pub record Passes (rules : List Rule) (records pool : List ℕ) : Type 0 where
  pub few : record_count records ≤ max_tokens
  pub faultless : first_fault (fault_of rules pool) (records_of records) 0 ≡ none
  pub short : length (join (tokens_of records pool)) ≤ max_text
  pub apart : first_extended rules (tokens_of records pool) 0 ≡ none

module _ (rules : List Rule) (records pool out : List ℕ) where
  -- what passes them is written where there is room,
  pub passes_written : Passes rules records pool → print_rules rules records pool out ≡ written (join (tokens_of records pool)) out
  unfolding print_rules print_checked refused_if unless
  passes_written p = rw (le-ltb _ _ p.few, p.faultless, le-ltb _ _ p.short, p.apart)

  -- and nothing else
  pub printed_passes : {n : ℕ} → (print_rules rules records pool out).answer ≡ Ok n
      → Passes rules records pool × (length (join (tokens_of records pool)) ≤ length out)
  unfolding print_rules print_checked
  printed_passes {n} e =
      let a = check_printed _ _ _ _ _ n e in
      let b = unless_printed _ _ _ n a.1 in
      let c = check_printed _ _ _ _ _ n b.1 in
      let d = unless_printed _ _ _ n c.1 in
      let f = check_printed _ _ _ _ _ n d.1 in (
        record { few = ltb-false _ _ a.0; faultless = b.0; short = ltb-false _ _ c.0; apart = d.0 },
        ltb-false _ _ f.0,
      )

-- ---- an accepted call, with the book

-- the rules of the book, and what was tested and written
pub record Accepts (book records pool out : List ℕ) (n : ℕ) : Type 0 where
  pub rules : List Rule
  pub reads : read_book book ≡ accepted rules
  pub passes : Passes rules records pool
  pub count : n ≡ length (join (tokens_of records pool))
  pub outcome : print_outcome book records pool out ≡ print_accepted (join (tokens_of records pool)) out

pub book_written : (book records pool out : List ℕ) (rules : List Rule) → read_book book ≡ accepted rules → Passes rules records pool
    → print_outcome book records pool out ≡ written (join (tokens_of records pool)) out
unfolding print_outcome
book_written book records pool out rules e p = rw e (passes_written rules records pool out p)

pub printed_accepts : (book records pool out : List ℕ) (n : ℕ) → (print_outcome book records pool out).answer ≡ Ok n
    → Accepts book records pool out n
unfolding print_outcome
printed_accepts book records pool out n e = go (read_book book) refl e
  where
    go : (o : Reading) → read_book book ≡ o → (print_reading o records pool out).answer ≡ Ok n → Accepts book records pool out n
    go (refused _ place) q z = cc
    go (accepted rules) q z =
        let p = printed_passes rules records pool out z in
        let o = book_written book records pool out rules q p.0 ∙ written-fits (join (tokens_of records pool)) out refl p.1 in
        let y = sym e ∙ ap (λ (x : PrintOutcome). x.answer) o in
        record { rules = rules; reads = q; passes = p.0; count = cc; outcome = o }

-- the bytes written are the tokens' bytes joined
pub written_joins : (book records pool out : List ℕ) (n : ℕ) → (print_outcome book records pool out).answer ≡ Ok n
    → take n (print_outcome book records pool out).out ≡ join (tokens_of records pool)
written_joins book records pool out n e =
    let a = printed_accepts book records pool out n e in
    rw (a.outcome, a.count, take-append_seam)

-- ---- what the tests say of the tokens

faultless_alone : (rules : List Rule) (pool : List ℕ) (rs : List TokenRecord) (k : ℕ) → first_fault (fault_of rules pool) rs k ≡ none
    → All (Alone rules) (tokens_in pool rs)
unfolding tokens_in
faultless_alone rules pool [] k e = tt
faultless_alone rules pool (r ∷ rs) k e =
    let f = faultless_front (fault_of rules pool) r rs k e in
    (alone_first rules r.tag (bytes_in pool r) (fine rules pool r f.0).alone, faultless_alone rules pool rs (suc k) f.1)

apart-front : (rules : List Rule) (t : Token) (ts : List Token) (k : ℕ) → first_extended rules (t ∷ ts) k ≡ none
    → (extends rules t.bytes (join ts) ≡ false) × (first_extended rules ts (suc k) ≡ none)
unfolding first_extended refuse
apart-front rules t ts k e = go (extends rules t.bytes (join ts)) e
  where
    go : (b : Bool) → refuse b ReadOn k (first_extended rules ts (suc k)) ≡ none → (b ≡ false) × (first_extended rules ts (suc k) ≡ none)
    go true z = nothing z refl
    go false z = (refl, z)

pub apart_printable : (rules : List Rule) (ts : List Token) (k : ℕ) → All (Alone rules) ts → first_extended rules ts k ≡ none
    → Printable rules ts
apart_printable rules [] k a e = tt
apart_printable rules (t ∷ ts) k (p, a) e = let f = apart-front rules t ts k e in (p, f.0, apart_printable rules ts (suc k) a f.1)

pub printable_apart : (rules : List Rule) (ts : List Token) (k : ℕ) → Printable rules ts → first_extended rules ts k ≡ none
unfolding first_extended refuse
printable_apart rules [] k p = refl
printable_apart rules (t ∷ ts) k (a, x, p) = rw (x, printable_apart rules ts (suc k) p)

-- what is alone has a tag of the book
pub alone_tagged : (rules : List Rule) (tag : ℕ) (w : List ℕ) → alone_in rules tag w ≡ true → tagged tag rules ≡ true
unfolding alone_in
alone_tagged [] tag w e = clash e refl
alone_tagged (r ∷ rs) tag w e = go (eqb r.tag tag) (matches r w) (alone_tagged rs tag w) e
  where
    go : (t m : Bool) → (alone_in rs tag w ≡ true → tagged tag rs ≡ true) → if t m (if m false (alone_in rs tag w)) ≡ true
        → t || tagged tag rs ≡ true
    go true m ih z = refl
    go false true ih z = clash z refl
    go false false ih z = ih z

pub printable_faultless : (rules : List Rule) (pool : List ℕ) (rs : List TokenRecord) (k : ℕ) → Distinct rules → All (InPool pool) rs
    → Printable rules (tokens_in pool rs)
    → first_fault (fault_of rules pool) rs k ≡ none
unfolding first_fault refuse_by tokens_in
printable_faultless rules pool [] k d i p = refl
printable_faultless rules pool (r ∷ rs) k d (i, is) (a, x, p) =
    let l = first_alone rules r.tag (bytes_in pool r) d a in
    let z = fault_none rules pool r i.in_pool (alone_tagged rules r.tag (bytes_in pool r) l) l in
    rw z (printable_faultless rules pool rs (suc k) d is p)

pub passes_printable : {rules : List Rule} {records pool : List ℕ} → Passes rules records pool → Printable rules (tokens_of records pool)
passes_printable {rules} {records} {pool} p =
    apart_printable rules (tokens_of records pool) 0 (faultless_alone rules pool (records_of records) 0 p.faultless) p.apart
