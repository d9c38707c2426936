-- `next_token`: what the walks over the bytes that are left say of the rest of the text.
use Rattle.std.proofs.Common.{length-drop, arith}
use Rattle.automaton.specs.Rule.{state_count}
use Rattle.longest_match.proofs.Held.{held_sound}
use Rattle.longest_match.proofs.Parts.{part_bytes}
use Rattle.turns.proofs.Taking.{next_none, next_past, next_fits}
use Rattle.turns.proofs.running.next_token.Goals as goal
use Rattle.turns.proofs.running.next_token.Goals.{else-window-went-via-then-window-went+else-window-ahead, else-window-went-via-else-window-went}

pub returns-then-window-eq0 : goal.returns-then-window-eq0
returns-then-window-eq0 c = λ rs h.
    next_none rs (c.requires.stirs rs h) _ c.args.left (simp length-drop (omega arith)) (omega arith)

pub returns-then-window-ahead : goal.returns-then-window-ahead
returns-then-window-ahead c = λ rs h.
    next_past rs (c.requires.stirs rs h) _ c.args.left (omega arith) (simp length-drop (omega arith))
    (c.walk_with-went.ensures rs _ h (part_bytes _ _ _)) (omega arith)

pub returns : goal.returns
returns c = λ rs h.
    next_fits state_count (held_sound h) (c.requires.stirs rs h) (simp length-drop (omega arith)) (omega arith)
    (c.walk_with-went.ensures rs _ h (part_bytes _ _ _))
    (elim c.else-window-went.branch [
      | else-window-went-via-then-window-went+else-window-ahead w ↦ λ f. simp length-drop (omega arith)
      | else-window-went-via-else-window-went w ↦ λ f. absurd (omega arith)
    ])
    (c.choose_walked-chosen.ensures.picks rs h) c.choose_walked-chosen.ensures.some_byte (omega arith)
