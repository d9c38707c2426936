-- What `find` finds is the lowest.
use Rattle.std.proofs.Common.{rules, ◌≡◌, Bool, true, false, ◌&&◌, ℕ}
use Rattle.std.proofs.lemmas.Iterator.{first_from_Range}
use Rattle.byte_set.specs.Layers.{mark}
use Rattle.byte_set.proofs.Marking.{first_is_lowest}
use Rattle.byte_set.proofs.ByteSet.search.Goals as goal

pub returns : goal.returns
returns c =
    let f : ℕ → Bool = λ b. mark c.args.self b && mark c.args.other b in
    first_is_lowest f 256 c.find.result
    (first_from_Range _ _ _ _ (λ b. f b ≡ true) (λ b. f b ≡ false) c.find.ensures.ran (λ x q d. search rules) (λ x q d. search rules))
