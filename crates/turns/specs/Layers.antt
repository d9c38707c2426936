-- What the layers of the code ask and answer between themselves. Nobody needs to believe it: the operations' contracts do not rest on it.
use Rattle.answer.specs.declared.Refusal.{Refusal}
use Rattle.answer.specs.declared.Turn.{Turn as TurnTaken}
use Rattle.std.specs.Prelude.{Result, IfSome, ◌≡◌, Bool, true, false, List, [], ◌++◌, ℕ, ◌+◌, ◌-◌, ◌*◌, ◌<◌, ◌≤◌, length, take, drop}
use Rattle.big_endian.specs.Numbers.{four}
use Rattle.automaton.specs.Rule.{Rule}
use Rattle.automaton.specs.Layers.{Holds, Held}
use Rattle.longest_match.specs.Layers.{chosen_rule, chosen_len, chosen_mask, Chooses, Agrees}
use Rattle.longest_match.specs.Masks.{masks_of}
use Rattle.record.specs.Records.{record_of, records_at}
use Rattle.record.specs.Masks.{mask_bytes}
use Rattle.turns.specs.Reach.{all_fail, reach}
use Rattle.turns.specs.Turn.{Turn, turn}
use Rattle.turns.specs.Outcome.{TurnOutcome}
use Rattle.turns.specs.declared.running.NextToken.{NextToken}

-- ---- Module running, said of the rules that the table holds.

-- What is next at the start of a text: the reach there, which so much left of the budget pays, and what is chosen.
pub record Next (rules : List Rule) (text : List ℕ) (left : ℕ) (n : NextToken) : Type 0 where
  pub paid_is : n.paid ≡ reach rules text
  pub within : n.paid ≤ left
  pub chooses : Chooses rules text (chosen_rule n.chosen) (chosen_len n.chosen)
  pub agrees : Agrees rules text (chosen_len n.chosen) (chosen_mask n.chosen)
  pub some_byte : IfSome n.chosen (λ c. 0 < c.len)

-- not all of the rules start in their error states
abbrev pub Stirs : List ℕ → Type 0
Stirs tb = (rules : List Rule) → Holds tb rules → all_fail rules [] ≡ false

-- there is room for record and mask number k, if they are written
pub record KeepRoom (writing : Bool) (k : ℕ) (records masks : List ℕ) : Type 0 where
  pub in_records : writing ≡ true → 10 * k + 10 ≤ length records
  pub in_masks : writing ≡ true → 4 * k + 4 ≤ length masks

-- record and mask number k are written, or nothing is
pub record Keeps (writing : Bool) (k tag place len mask : ℕ) (entry exit masks-entry masks-exit : List ℕ) : Type 0 where
  pub stored : writing ≡ true → exit ≡ take (10 * k) entry ++ record_of tag place len ++ drop (10 * k + 10) entry
  pub masked : writing ≡ true → masks-exit ≡ take (4 * k) masks-entry ++ four mask ++ drop (4 * k + 4) masks-entry
  pub left : writing ≡ false → exit ≡ entry
  pub masks_left : writing ≡ false → masks-exit ≡ masks-entry

-- the turn that begins at a place of a text
abbrev pub turn_at : List Rule → List ℕ → ℕ → ℕ → Turn
turn_at rules text place budget = turn rules (drop place text) budget

-- there is room for a record and a mask of each token, if they are written
pub record Room (rules : List Rule) (text : List ℕ) (place budget : ℕ) (records masks : List ℕ) : Type 0 where
  pub in_records : 10 * length (turn_at rules text place budget).tokens ≤ length records
  pub in_masks : 4 * length (turn_at rules text place budget).tokens ≤ length masks

-- whichever rules the table holds
pub record RunRoom (writing : Bool) (tb text : List ℕ) (place budget : ℕ) (records masks : List ℕ) : Type 0 where
  pub held : Held tb
  pub inside : place ≤ length text
  pub room : writing ≡ true → (rules : List Rule) → Holds tb rules → Room rules text place budget records masks

-- what the turn comes to
pub record Turned (rules : List Rule) (text : List ℕ) (place budget tokens next examined : ℕ) (finished : Bool) : Type 0 where
  pub tokens_are : tokens ≡ length (turn_at rules text place budget).tokens
  pub next_is : next ≡ length text - length (turn_at rules text place budget).rest
  pub examined_is : examined ≡ (turn_at rules text place budget).examined
  pub finished_is : finished ≡ (turn_at rules text place budget).finished

-- the records and the masks of its tokens, and every byte past them as it was; or nothing is written
pub record Stores (writing : Bool) (rules : List Rule) (text : List ℕ) (place budget : ℕ) (entry exit masks-entry masks-exit : List ℕ)
    : Type 0 where
  pub written : writing ≡ true → exit
      ≡ records_at place (turn_at rules text place budget).tokens ++ drop (10 * length (turn_at rules text place budget).tokens) entry
  pub agreed : writing ≡ true → masks-exit
      ≡ mask_bytes (masks_of rules (turn_at rules text place budget).tokens)
      ++ drop (4 * length (turn_at rules text place budget).tokens) masks-entry
  pub left : writing ≡ false → exit ≡ entry
  pub masks_left : writing ≡ false → masks-exit ≡ masks-entry

-- ---- Module by_rules, and the operation.

-- there is room for all of the turn's tokens
abbrev pub Enough : List Rule → List ℕ → ℕ → ℕ → ℕ → Type 0
Enough rules text place budget room = length (turn_at rules text place budget).tokens ≤ room

-- the turn has n tokens, and there is room for fewer
pub record Lacks (rules : List Rule) (text : List ℕ) (place budget room n : ℕ) : Type 0 where
  pub fewer : room < n
  pub number : n ≡ length (turn_at rules text place budget).tokens

-- an answer, and what the records and the masks hold afterwards, are those of the outcome
pub record TurnAnswered (o : TurnOutcome) (r : Result TurnTaken Refusal) (records-exit masks-exit : List ℕ) : Type 0 where
  pub answer : r ≡ o.answer
  pub records : records-exit ≡ o.records
  pub masks : masks-exit ≡ o.masks
