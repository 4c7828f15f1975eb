-- `print::rows_leave` meets its contract. Assumes nothing.
use Rattle.std.proofs.Common.{arith, ap, length}
use Rattle.print.proofs.Printed.{digits-turn, rows_last}
use Rattle.print.proofs.rows_leave.Goals as goal

pub returns-in_err-left : goal.returns-in_err-left
returns-in_err-left c =
    let l = c.loop-start in
    let t = digits-turn c.args.cells.now l.start-index c.loop-start-test.true _ _ c.wide.ensures.0 c.wide-in-loop-start.ensures.0 in
    let e = c.in_err-left.ensures in
    rw c.from_residual.ensures (λ k. omega arith)

pub loop-start-preserved : goal.loop-start-preserved
loop-start-preserved c =
    let l = c.loop-start in
    let t = digits-turn c.args.cells.now l.start-index c.loop-start-test.true _ _ c.wide.ensures.0 c.wide-in-loop-start.ensures.0 in
    omega (arith, c.in_ok-left.ensures)

pub returns : goal.returns
returns c =
    let e = ap length (rows_last c.args.cells.now c.loop-start.start-index c.loop-start-test.false) in
    (omega arith, omega arith)
