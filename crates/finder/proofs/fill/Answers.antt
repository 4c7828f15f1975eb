-- `finder::fill` meets its contract. Assumes nothing.
use Rattle.acceptance.proofs.Reading.{read-ok, read-err}
use Rattle.finder.proofs.Calls.{fill-refused, fill-accepted}
use Rattle.finder.proofs.fill.Goals as goal

pub returns-in-Ok : goal.returns-in-Ok
returns-in-Ok c =
    let k = read-ok c.args.text.now c.args.log.now c.in-Ok.is c.read_both.ensures.signal c.read_both.ensures.rows in
    let r = fill-accepted _ _ c.args.from c.args.cells.now k.0 _ k.1 _ _ c.fill_from-w.ensures in
    record { value = r.0; cells_after = r.1 }

pub returns-in-Err : goal.returns-in-Err
returns-in-Err c =
    let r = fill-refused _ _ c.args.from c.args.cells.now _ (read-err c.args.text.now c.args.log.now c.in-Err.is c.read_both.ensures.signal) in
    record { value = r.0; cells_after = r.1 }
