use Rattle.std.proofs.Common.{◌≡◌, ◌+◌, ◌-◌, arith, ◌∙◌}
use Rattle.big_endian.specs.Numbers.{two}
use Rattle.big_endian.proofs.Numbers.{two_low, stored}
use Rattle.big_endian.proofs.put_two.Goals as goal

pub returns : goal.returns
returns c =
    let v : c.copy_from_slice.new.self ≡ two c.args.n =
    c.copy_from_slice.ensures.after ∙ c.to_be_bytes.ensures ∙ two_low c.args.n in
    rw v (stored (two c.args.n) c.args.bytes.now c.args.at (c.args.at + 2 - c.args.at) c.requires (omega arith))
