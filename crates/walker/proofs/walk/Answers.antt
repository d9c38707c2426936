use Rattle.std.proofs.Common.{◌≡◌, ◌<◌, false, length, get_or, arith, sym, ◌∙◌}
use Rattle.automaton.specs.Layers.{covers_word}
use Rattle.walker.proofs.Walking.{walk_start, walk_nothing, walk-final, walk_other, walk_dismissed, further_one, goes_dismissed, walk_over, walk_went}
use Rattle.walker.proofs.walk.Goals as goal
use Rattle.walker.proofs.walk.Goals.{then-is_empty-via-then-is_empty, then-is_empty-via-else-is_empty+then-not-covers}
use Rattle.walker.proofs.walk.Goals.{then-is_final, else-is_final}

pub returns-then-is_empty : goal.returns-then-is_empty
returns-then-is_empty c =
    let outside : 0 < length c.args.text.now → covers_word c.start_of-spot.result (get_or c.args.text.now 0 0) ≡ false =
    (λ more. elim c.then-is_empty.branch [
      | then-is_empty-via-then-is_empty w ↦ absurd (grind arith)
      | then-is_empty-via-else-is_empty+then-not-covers w ↦ sym w.covers.ensures ∙ w.if-not-covers.true
    ]) in
    record {
      len_value = λ m t. walk_dismissed t _ c.start_of-spot.ensures outside;
      further = λ m t. further_one m _ _ c.requires.known_nonzero (goes_dismissed t _ c.start_of-spot.ensures outside);
    }

pub loop-i-init : goal.loop-i-init
loop-i-init c = λ m t. walk_start t _ c.start_of-spot.ensures

pub returns-in_default-clause-len_value : goal.returns-in_default-clause-len_value
returns-in_default-clause-len_value c = λ m t.
    walk_nothing t (c.loop-i.invariant m t) (omega arith) c.head.ensures c.in_default.ensures

pub returns-in_default-clause-further : goal.returns-in_default-clause-further
returns-in_default-clause-further c = λ m t. record {
  far = _;
  goes = walk_went t (c.loop-i.invariant m t) (λ more. walk_over t (c.loop-i.invariant m t) more c.head.ensures c.in_default.ensures);
  further = c.went_to-went.ensures m t;
}

pub loop-i-preserved : goal.loop-i-preserved
loop-i-preserved c = λ m t.
    let more : c.loop-i.i < length c.args.text.now = omega arith in
    elim c.if-is_final.branch [
      | then-is_final w ↦ rw w.len-is
          (walk-final t (c.loop-i.invariant m t) more c.head.ensures c.in-Some.ensures (sym c.is_final.ensures ∙ w.if-is_final.true))
      | else-is_final w ↦ rw w.len-is
          (walk_other t (c.loop-i.invariant m t) more c.head.ensures c.in-Some.ensures (sym c.is_final.ensures ∙ w.if-is_final.false))
    ]

pub returns-clause-further : goal.returns-clause-further
returns-clause-further c = λ m t.
    let all : length c.args.text.now ≡ c.loop-i.i = omega arith in
    record {
      far = _;
      goes = walk_went t (c.loop-i.invariant m t) (λ more. absurd (omega arith));
      further = rw all at (c.went_to-went-2.ensures m t);
    }
