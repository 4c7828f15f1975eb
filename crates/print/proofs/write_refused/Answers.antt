-- `print::write_refused` meets its contract.
-- Assumes nothing.
use native.Mathlib.Omega.{arith}
use Rattle.print.specs.Print.{refused_sheet}
use Rattle.print.proofs.Placing.{laid-not}
use Rattle.print.proofs.Written.{length-refused, digits-refused, refused-laid}
use Rattle.print.proofs.write_refused.Goals as goal

pub returns-then-out-need : goal.returns-then-out-need
returns-then-out-need c = let a = c.args in
    laid-not (refused_sheet a.number a.place) a.out.now (omega (arith, digits-refused a.number a.place))

pub put_field-second-requires : goal.put_field-second-requires
put_field-second-requires c = let a = c.args in
    omega (arith, length-refused a.number a.place, digits-refused a.number a.place)

pub put_field-requires : goal.put_field-requires
put_field-requires c = let a = c.args in
    omega (arith, length-refused a.number a.place, digits-refused a.number a.place)

pub returns : goal.returns
returns c = let a = c.args in
    let l = c.put_letter in
    let p = c.put_field-second in
    let q = c.put_field in
    refused-laid a.number a.place a.out.now l.new.out p.new.out q.new.out p.result q.result (omega (arith, digits-refused a.number a.place)) l.ensures p.ensures q.ensures
