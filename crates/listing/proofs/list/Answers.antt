-- `list`: there are as many masks as records, and the lines of every outcome fit.
use Rattle.std.proofs.Common.{arith, ◌∙◌, ◌≤◌}
use Rattle.record.specs.Records.{record_count}
use Rattle.record.specs.Masks.{mask_count}
use Rattle.lexer.proofs.Masking.{masked_room}
use Rattle.listing.proofs.Bounds.{fit_answer, listed}
use Rattle.listing.proofs.list.Goals as goal

pub put_lines-requires : goal.put_lines-requires
put_lines-requires c =
    let enough : record_count c.args.records.now ≤ mask_count c.args.masks.now = omega (arith, c.told-records, c.told-masks) in
    let s = masked_room c.args.book.now c.args.text.now _ _ enough in
    fit_answer _ _ _ (c.lex-answer.ensures.value ∙ s.answers) (c.lex-answer.ensures.records_after ∙ s.stores) _ c.told-records c.told-out

pub returns : goal.returns
returns c =
    let enough : record_count c.args.records.now ≤ mask_count c.args.masks.now = omega (arith, c.told-records, c.told-masks) in
    let s = masked_room c.args.book.now c.args.text.now _ _ enough in
    let stored = c.lex-answer.ensures.records_after ∙ s.stores in
    let z = listed _ _ _ (c.lex-answer.ensures.value ∙ s.answers) stored c.put_lines.ensures in
    record { value = z.0; records_after = stored; masks_after = c.lex-answer.ensures.masks_after; out_after = z.1 }
