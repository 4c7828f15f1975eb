-- `print::put_rows` meets its contract. Assumes nothing.
use Rattle.std.proofs.Common.{arith, ap, length, sym, ◌∙◌}
use lib.Seq.{sets}
use Rattle.print.specs.Print.{field}
use Rattle.print.proofs.Printed.{length-turn, rows-turn, rows_last}
use Rattle.print.proofs.put_rows.Goals as goal

pub put_field-half-requires : goal.put_field-half-requires
put_field-half-requires c =
    let t = length-turn c.args.cells.now c.loop-start.start-index c.loop-start-test.true in
    omega (arith, ap (λ n. length (field n 44)) c.wide.ensures.0)

pub put_field-place-requires : goal.put_field-place-requires
put_field-place-requires c =
    let t = length-turn c.args.cells.now c.loop-start.start-index c.loop-start-test.true in
    omega (arith, ap (λ n. length (field n 44)) c.wide.ensures.0, ap (λ n. length (field n 10)) c.wide-in-loop-start.ensures.0)

pub loop-start-preserved : goal.loop-start-preserved
loop-start-preserved c =
    let t = length-turn c.args.cells.now c.loop-start.start-index c.loop-start-test.true in
    let u = rows-turn c.args.cells.now c.loop-start.start-index c.loop-start-test.true c.loop-start.out c.loop-start.place in
    (omega arith, omega (arith, ap (λ n. length (field n 44)) c.wide.ensures.0, ap (λ n. length (field n 10)) c.wide-in-loop-start.ensures.0), cc)

pub returns : goal.returns
returns c =
    let l = c.loop-start in
    let e = rows_last c.args.cells.now l.start-index c.loop-start-test.false in
    (omega (arith, ap length e), sym (ap (sets l.out l.place) e) ∙ l.invariant.2)
