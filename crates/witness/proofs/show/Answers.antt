-- `witness::show` meets its contract. Assumes nothing.
use Rattle.acceptance.proofs.Reading.{read-ok, read-err}
use Rattle.witness.proofs.Answering.{show-refused, show-brief, show-done}
use Rattle.witness.proofs.show.Goals as goal

pub show_in-requires : goal.show_in-requires
show_in-requires c =
    show-brief c.args.text.now c.args.log.now c.args.number c.args.cells.now
    (read-ok c.args.text.now c.args.log.now c.in-Ok.is c.read_both.ensures.signal c.read_both.ensures.rows).0

pub returns-in-Ok : goal.returns-in-Ok
returns-in-Ok c =
    let k = read-ok c.args.text.now c.args.log.now c.in-Ok.is c.read_both.ensures.signal c.read_both.ensures.rows in
    let r = show-done c.args.text.now c.args.log.now c.args.number c.args.cells.now k.0 _ k.1 c.show_in.ensures in
    record { value = r.0; cells_after = r.1 }

pub returns-in-Err : goal.returns-in-Err
returns-in-Err c =
    let r = show-refused _ _ c.args.number c.args.cells.now _ (read-err c.args.text.now c.args.log.now c.in-Err.is c.read_both.ensures.signal) in
    record { value = r.0; cells_after = r.1 }
