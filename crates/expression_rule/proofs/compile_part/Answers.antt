-- `compile_part`: each return is one case of the outcome of what was read.
use Rattle.std.proofs.Common.{rules, arith, ◌≡◌, length, take}
use Rattle.std.proofs.lemmas.List.{length-take}
use Rattle.expression_rule.proofs.Compiling.{answered, many_positions, too_deep, many_sets_lem, found_all, found_stood, found_few}
use Rattle.expression_rule.proofs.compile_part.Goals as goal

pub returns-then-part-gt-POSITIONS : goal.returns-then-part-gt-POSITIONS
returns-then-part-gt-POSITIONS c = λ e h. answered (many_positions _ _ h _ (omega arith)) (search rules)

pub returns-then-part-gt-DEPTH : goal.returns-then-part-gt-DEPTH
returns-then-part-gt-DEPTH c = λ e h. answered (too_deep _ _ h _ (omega arith) (omega arith)) (search rules)

pub slice_bounds-sets-end : goal.slice_bounds-sets-end
slice_bounds-sets-end c = omega (arith, found_few (c.explore.ensures.found _ c.in-Some.is), c.explore.array_long)

pub write_states-requires : goal.write_states-requires
write_states-requires c = simp length-take (omega (arith, found_few (c.explore.ensures.found _ c.in-Some.is)))

pub returns-in-Some : goal.returns-in-Some
returns-in-Some c = λ e h.
    let f = c.explore.ensures.found _ c.in-Some.is in
    let n : length (take c.in-Some.count c.explore.new.sets) ≡ c.in-Some.count =
    simp length-take (omega (arith, found_few f, c.explore.array_long)) in
    rw (found_all _ _ h _ (omega arith) (omega arith) c.told-takers c.told-follow f)
    (c.write_states.ensures _ (rw n (found_stood c.told-takers f)))

pub returns-in-None : goal.returns-in-None
returns-in-None c = λ e h.
    answered (many_sets_lem _ _ h _ (omega arith) (omega arith) c.told-takers c.told-follow (c.explore.ensures.many c.in-None.is)) (search rules)
