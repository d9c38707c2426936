-- `read_position`: each return is one case of what stands there. Assumes nothing.
use Rattle.std.proofs.Common.{rules}
use Rattle.position_reader.proofs.Reading.{atom_none, atom_list, atom_period, atom_escape, atom_byte, atom_wrong}
use Rattle.position_reader.proofs.read_position.Goals as goal

pub returns-in-None : goal.returns-in-None
returns-in-None c next q = search (rules, atom_none, c.in-None.ensures)

pub returns-in-Some-eq91 : goal.returns-in-Some-eq91
returns-in-Some-eq91 c next q =
    atom_list c.in-Some-eq91.field-0.now _ _ _ _ _ _ _ next (search rules) (search rules) q _ (search rules)
    c.read_bracket.ensures

pub returns-in-Some-eq46 : goal.returns-in-Some-eq46
returns-in-Some-eq46 c next q =
    atom_period c.in-Some-eq46.field-0.now _ _ _ _ _ _ _ next (search rules) (search rules) q _ (search rules)
    c.read_period.ensures

pub returns-in-Some-eq92 : goal.returns-in-Some-eq92
returns-in-Some-eq92 c next q =
    atom_escape c.in-Some-eq92.field-0.now _ _ _ _ _ _ _ next (search rules) (search rules) q _ (search rules)
    c.read_escape.ensures

pub returns-in-Some : goal.returns-in-Some
returns-in-Some c next q =
    atom_byte c.in-Some.field-0.now _ _ _ _ _ _ _ next (search rules) (search rules) q
    (search rules) (search rules) (search rules) _ (search rules) c.read_byte.ensures

pub returns-in-Some-2 : goal.returns-in-Some-2
returns-in-Some-2 c next q =
    atom_wrong c.in-Some.field-0.now _ _ _ _ _ _ _ next (search rules) (search rules) q
    (search rules) (search rules) (search rules) (search rules)
