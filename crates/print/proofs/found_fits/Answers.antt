-- `print::found_fits` meets its contract. Assumes nothing.
use Rattle.std.proofs.Common.{arith}
use Rattle.std.proofs.lemmas.Grind.{common_steps}
use Rattle.print.proofs.Written.{digits-found}
use Rattle.print.proofs.found_fits.Goals as goal

pub returns-in-None : goal.returns-in-None
returns-in-None c =
    let t = digits-found c.args.lines c.args.damaged c.args.cells.now in
    grind (arith, common_steps)

pub returns-in-Some : goal.returns-in-Some
returns-in-Some c =
    let t = digits-found c.args.lines c.args.damaged c.args.cells.now in
    grind (arith, common_steps)
