-- `picks::pick` meets its contract. Assumes nothing.
use native.Mathlib.Omega.{arith}
use Rattle.acceptance.proofs.Reading.{read-ok, read-err}
use Rattle.picks.proofs.Picking.{pick-refused, pick-miscounted, count-low, count-high, pick-brief, pick-done}
use Rattle.picks.proofs.pick.Goals as goal
use Rattle.picks.proofs.pick.Goals.{then-k-lt1-via-then-k-lt1, then-k-lt1-via-else-k-lt1+then-k-gt-MOST}

pub returns-in-Err : goal.returns-in-Err
returns-in-Err c =
    let r = pick-refused _ _ c.args.k c.args.cells.now _ (read-err c.args.text.now c.args.log.now c.in-Err.is c.read_both-read.ensures.signal) in
    record { value = r.0; cells_after = r.1 }

pub returns-then-k-lt1 : goal.returns-then-k-lt1
returns-then-k-lt1 c =
    let k = read-ok c.args.text.now c.args.log.now c.in-Ok.is c.read_both-read.ensures.signal c.read_both-read.ensures.rows in
    let g = pick-miscounted c.args.text.now c.args.log.now c.args.k c.args.cells.now k.0 (elim c.then-k-lt1.branch [
      | then-k-lt1-via-then-k-lt1 w ↦ count-low c.args.k w.if-k-lt1.true
      | then-k-lt1-via-else-k-lt1+then-k-gt-MOST w ↦ count-high c.args.k w.if-k-gt-MOST.true
    ]) in
    record { value = g.0; cells_after = g.1 }

pub pick_in-requires : goal.pick_in-requires
pick_in-requires c =
    pick-brief c.args.text.now c.args.log.now c.args.k c.args.cells.now
    (read-ok c.args.text.now c.args.log.now c.in-Ok.is c.read_both-read.ensures.signal c.read_both-read.ensures.rows).0

pub returns : goal.returns
returns c =
    let k = read-ok c.args.text.now c.args.log.now c.in-Ok.is c.read_both-read.ensures.signal c.read_both-read.ensures.rows in
    let g = pick-done _ _ c.args.k c.args.cells.now k.0 (omega arith) (omega arith) _ k.1 _ _ c.pick_in.ensures in
    record { value = g.0; cells_after = g.1 }
