-- `step`: a class is below the length of a row, so the entry is that of the state and the class.
use Rattle.std.proofs.Common.{◌<◌, get_or, length, arith}
use Rattle.builtin.proofs.Alike.{class_bytes, class_below}
use Rattle.builtin.proofs.tables.Tables.step.Goals as goal

pub bounds-self-s : goal.bounds-self-s
unfolding class_bytes
bounds-self-s c =
    let small : get_or c.args.self.now.classes c.args.byte 0 < length class_bytes =
    rw c.args.self.now.classes_are (class_below c.args.byte (omega arith)) in
    omega arith
