use Rattle.std.proofs.Common.{◌≡◌, ◌+◌, ◌-◌, arith, ◌∙◌}
use Rattle.big_endian.specs.Numbers.{four}
use Rattle.big_endian.proofs.Numbers.{four_low, stored}
use Rattle.big_endian.proofs.put_four.Goals as goal

pub returns : goal.returns
returns c =
    let v : c.copy_from_slice.new.self ≡ four c.args.n =
    c.copy_from_slice.ensures.after ∙ c.to_be_bytes.ensures ∙ four_low c.args.n in
    rw v (stored (four c.args.n) c.args.bytes.now c.args.at (c.args.at + 4 - c.args.at) c.requires (omega arith))
