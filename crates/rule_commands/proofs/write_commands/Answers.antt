-- Each call fills the next piece. Assumes nothing.
use Rattle.std.proofs.Common.{◌≡◌, ℕ, List, arith, subst}
use Rattle.std.proofs.lemmas.Grind.{common_steps}
use Rattle.rule_commands.specs.Layers.{rows_of, Put}
use Rattle.rule_commands.proofs.Read.{finals_bytes, finals_length}
use Rattle.rule_commands.proofs.Writing.{table-length, finals_room, spans_room, close_room, table-written}
use Rattle.rule_commands.proofs.write_commands.Goals as goal

-- the finals that are written are those that are asked for
as_asked : {asked written entry exit : List ℕ} {to next : ℕ} → written ≡ asked → Put (finals_bytes written) to entry next exit
    → Put (finals_bytes asked) to entry next exit
as_asked {asked} {written} {entry} {exit} {to} {next} e p =
    subst (λ (finals : List ℕ). Put (finals_bytes finals) to entry next exit) e p

pub write_head-finals_at-requires : goal.write_head-finals_at-requires
write_head-finals_at-requires c =
    let a = c.args in
    omega (arith, table-length a.tag a.kind a.finals.now (rows_of a.targets.now a.rows), c.requires.rows_in_bounds)

pub write_finals-spans_at-requires : goal.write_finals-spans_at-requires
write_finals-spans_at-requires c =
    let a = c.args in
    omega (
      arith,
      finals_room a.tag a.kind a.finals.now (rows_of a.targets.now a.rows) c.requires.rows_in_bounds c.write_head-finals_at.ensures,
      finals_length a.finals.now,
    )

pub write_spans-close_at-requires-clause-rows_in_bounds : goal.write_spans-close_at-requires-clause-rows_in_bounds
write_spans-close_at-requires-clause-rows_in_bounds c =
    let a = c.args in
    spans_room a.tag a.kind a.finals.now (rows_of a.targets.now a.rows) c.requires.rows_in_bounds c.write_head-finals_at.ensures
    (as_asked (grind (arith, common_steps)) c.write_finals-spans_at.ensures)

pub put-requires : goal.put-requires
put-requires c =
    let a = c.args in
    close_room a.tag a.kind a.finals.now (rows_of a.targets.now a.rows) c.requires.rows_in_bounds c.write_head-finals_at.ensures
    (as_asked (grind (arith, common_steps)) c.write_finals-spans_at.ensures) c.write_spans-close_at.ensures

pub returns : goal.returns
returns c =
    let a = c.args in
    table-written a.tag a.kind a.finals.now (rows_of a.targets.now a.rows) c.requires.rows_in_bounds c.write_head-finals_at.ensures
    (as_asked (grind (arith, common_steps)) c.write_finals-spans_at.ensures) c.write_spans-close_at.ensures c.put.ensures
