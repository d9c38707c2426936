-- `run`: the invariant is `Running`, for any rules that the table holds.
use Rattle.std.proofs.Common.{refl, sym, ◌∙◌, arith}
use Rattle.automaton.specs.Rule.{state_count}
use Rattle.longest_match.proofs.Held.{held_sound}
use Rattle.turns.proofs.Turning.{turn-spent}
use Rattle.turns.proofs.Taking.{running_start, running_room, running_next, running_stop, running_stores, next_nothing, next_taken, next_byte}
use Rattle.turns.proofs.Taking.{turn-idle, turn_stops, turn-past}
use Rattle.turns.proofs.running.run.Goals as goal
use Rattle.turns.proofs.running.run.Goals.{else-loop-at-test, then-loop-at-test+in-Some+in_default-chosen}

pub returns-then-is_idle-clause-turned : goal.returns-then-is_idle-clause-turned
returns-then-is_idle-clause-turned c = λ rs h.
    running_stop (running_start _ rs _ _ _ _ _ c.requires.inside (λ b. c.requires.room b rs h))
    (turn-idle state_count rs (held_sound h) (sym (c.is_idle.ensures rs h) ∙ c.if-is_idle.true) _ _) (omega arith)

pub returns-then-is_idle-clause-stores : goal.returns-then-is_idle-clause-stores
returns-then-is_idle-clause-stores c = λ rs h.
    running_stores (running_start _ rs _ _ _ _ _ c.requires.inside (λ b. c.requires.room b rs h))
    (turn-idle state_count rs (held_sound h) (sym (c.is_idle.ensures rs h) ∙ c.if-is_idle.true) _ _)

pub loop-at-init : goal.loop-at-init
loop-at-init c = λ rs h. running_start _ rs _ _ _ _ _ c.requires.inside (λ b. c.requires.room b rs h)

pub returns-in_default-clause-turned : goal.returns-in_default-clause-turned
returns-in_default-clause-turned c = λ rs h.
    running_stop (c.loop-at.invariant rs h) (turn-spent rs _ _ (c.in_default.ensures rs h)) (omega arith)

pub returns-in_default-clause-stores : goal.returns-in_default-clause-stores
returns-in_default-clause-stores c = λ rs h. running_stores (c.loop-at.invariant rs h) (turn-spent rs _ _ (c.in_default.ensures rs h))

pub keep-requires : goal.keep-requires
keep-requires c =
    let held = c.requires.held in
    let next = c.in-Some.ensures held.rules held.holds in
    running_room (c.loop-at.invariant held.rules held.holds) (next_taken next c.in-Some-chosen.is) (next_byte next c.in-Some-chosen.is)

pub loop-at-preserved : goal.loop-at-preserved
loop-at-preserved c = λ rs h.
    let next = c.in-Some.ensures rs h in
    let takes = next_taken next c.in-Some-chosen.is in
    let byte = next_byte next c.in-Some-chosen.is in
    running_next (c.loop-at.invariant rs h) takes byte (c.tag_of-tag.ensures _ (h.each _ (takes.chooses.known byte))) c.keep.ensures

pub returns-clause-turned : goal.returns-clause-turned
returns-clause-turned c = λ rs h.
    elim c.loop-at-test.branch [
      | else-loop-at-test w ↦
          running_stop (c.loop-at.invariant rs h) (turn-past rs c.args.text.now c.loop-at.at c.loop-at.left (omega arith)) (omega arith)
      | then-loop-at-test+in-Some+in_default-chosen w ↦
          let next = w.in-Some.ensures rs h in
          running_stop (c.loop-at.invariant rs h)
          (turn_stops c.args.text.now c.loop-at.at (next_nothing next w.in_default-chosen.is) refl)
          (omega (arith, next.within, (c.loop-at.invariant rs h).pays.affords))
    ]

pub returns-clause-stores : goal.returns-clause-stores
returns-clause-stores c = λ rs h.
    elim c.loop-at-test.branch [
      | else-loop-at-test w ↦ running_stores (c.loop-at.invariant rs h) (turn-past rs c.args.text.now c.loop-at.at c.loop-at.left (omega arith))
      | then-loop-at-test+in-Some+in_default-chosen w ↦
          running_stores (c.loop-at.invariant rs h)
          (turn_stops c.args.text.now c.loop-at.at (next_nothing (w.in-Some.ensures rs h) w.in_default-chosen.is) refl)
    ]
