-- `sheet::print_sheet` meets its contract: the cells are enough for every answer.
-- Assumes nothing.
use mathlib.Core.Path.{◌∙◌}
use Rattle.sheet.proofs.Sheets.{fill-laid}
use lib.ListN.{replicate}
use Rattle.sheet.specs.Sheet.{reply_of}
use borrow.Author.Rules.{rules}
use Rattle.sheet.proofs.print_sheet.Goals as goal

pub returns : goal.returns
returns c = let a = c.args in
    let f = c.fill-f in
    let r = c.from in
    let w = c.write_sheet in
    fill-laid a.pattern.now a.log.now (replicate 122880 0) _ a.out.now _ (reply_of r.result) w.result (r.ensures ∙ f.ensures.value, f.ensures.cells_after) (search rules) w.ensures
