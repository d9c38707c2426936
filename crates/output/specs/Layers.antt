-- What the layers of the code ask and answer between themselves. Nobody needs to believe it: the operations' contracts do not rest on it.
use Rattle.answer.specs.declared.Refusal.{Refusal}
use Rattle.std.specs.Prelude.{Result, Ok, Err, Option, Some, None}
use Rattle.answer.specs.declared.Reason.TheVariants.{OutputTooShort}
use Rattle.std.specs.Prelude.{◌≡◌, List, ℕ, ◌≤◌, ◌<◌, length, drop}
use Rattle.std.proofs.Math.Seq.{paste}
use Rattle.output.specs.Outcome.{PrintOutcome}

-- ---- in front of what is written

-- the bytes stand from `start` to the end of the scratch
pub record Stand (start : ℕ) (bytes scratch : List ℕ) : Type 0 where
  pub within : start ≤ length scratch
  pub laid : drop start scratch ≡ bytes

-- or there is no room for them
pub record Stands (p : Option ℕ) (bytes scratch : List ℕ) : Type 0 where
  pub at : (start : ℕ) → p ≡ Some start → Stand start bytes scratch
  pub full : p ≡ None → length scratch < length bytes

-- ---- to the output

-- an answer, and what the output holds afterwards, are those of the outcome
pub record PrintAnswered (o : PrintOutcome) (r : Result ℕ Refusal) (exit : List ℕ) : Type 0 where
  pub answer : r ≡ o.answer
  pub out : exit ≡ o.out

-- 22 where the output is too short, and nothing written; else the bytes, and every byte past them as it was
pub record WritesOut (scratch : List ℕ) (at total : ℕ) (out : List ℕ) (r : Result ℕ Refusal) (exit : List ℕ) : Type 0 where
  pub lacks : length out < total → (r ≡ Err (record { reason = OutputTooShort; place = total })) × (exit ≡ out)
  pub prints : total ≤ length out → (r ≡ Ok total) × (exit ≡ paste out 0 (drop at scratch) total)
