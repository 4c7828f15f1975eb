-- `find::print` meets what `put` requires: the bytes are the sheet of what was read. Assumes nothing.
use Rattle.find.proofs.Turns.{held-prints}
use Rattle.find.proofs.print.Goals as goal

pub put-requires : goal.put-requires
put-requires c = let a = c.first in
    let b = c.first-2 in
    let o = c.sheet_buffer-out in
    let w = c.print_sheet-n in
    held-prints c.args.t c.args.pattern.now c.args.log.now a.result.now b.result.now o.result _ c.first-3.result.now w.result c.requires a.ensures.result_value b.ensures.result_value
    o.ensures w.ensures c.first-3.ensures.result_value
