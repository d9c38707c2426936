-- `read_escape`: by what stands behind the backslash. Assumes nothing.
use Rattle.std.proofs.Common.{rules}
use Rattle.position_reader.proofs.Reading.{escape_none, escape_wrong, escape_right}
use Rattle.position_reader.proofs.read_escape.Goals as goal

pub returns-in-Some : goal.returns-in-Some
returns-in-Some c =
    escape_right _ _ _ _ _ _ _ _ (search rules) (search rules) _ (search rules) c.read_byte.ensures

pub returns-in_default : goal.returns-in_default
returns-in_default c =
    escape_wrong c.in-Some.field-0.now _ _ _ _ _ _ _ (search rules) (search rules) (search rules)

pub returns-in_default-2 : goal.returns-in_default-2
returns-in_default-2 c = escape_none _ _ _ _ _ _ _ (search rules) (search rules)
