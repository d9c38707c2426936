-- `join_tokens`: a turn writes one token.
use Rattle.std.proofs.Common.{arith}
use Rattle.token_list.proofs.Passes.{joining_start, joining_pool, joining_room, joining_next, joining_end}
use Rattle.slices.proofs.Passes.{more, here, no_more}
use Rattle.slices.proofs.printing.join_tokens.Goals as goal

pub loop-token-init : goal.loop-token-init
loop-token-init c = joining_start _ _ _ c.requires.fitting

pub copy-requires : goal.copy-requires
copy-requires c =
    let l = c.loop-token-test.true in
    let e = here c.args.tokens.now l (c.requires.fits.each _ l) in (
      joining_pool c.loop-token.invariant (more _ l) e,
      joining_room c.loop-token.invariant (more _ l) e,
    )

pub loop-token-preserved : goal.loop-token-preserved
loop-token-preserved c =
    let l = c.loop-token-test.true in
    joining_next c.loop-token.invariant (more _ l) (here c.args.tokens.now l (c.requires.fits.each _ l)) c.copy.ensures

pub returns : goal.returns
returns c = joining_end c.loop-token.invariant (no_more c.args.tokens.now (omega arith))
