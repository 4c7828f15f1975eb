-- `plan::room::with_marks` meets its contract. Assumes nothing.
use borrow.Author.Rules.{rules}
use native.Mathlib.Omega.{arith}
use Rattle.plan.proofs.Planning.{short-width}
use Rattle.plan.proofs.room.with_marks.Goals as goal

pub run_in-requires-else-width-le-FEW-clause-room : goal.run_in-requires-else-width-le-FEW-clause-room
run_in-requires-else-width-le-FEW-clause-room g c =
    let s = short-width c.args.log.now c.width-width.result c.width-width.ensures c.if-log-gt-LOG_MAX.false in
    (search rules, c.width-width.ensures, s, omega (arith, s), omega (arith, s))
