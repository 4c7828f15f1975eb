-- `print::digits` meets its contract. Assumes nothing.
use Rattle.std.proofs.Common.{ap, arith, ◌∙◌, length}
use Rattle.print.proofs.Decimals.{decimal_printed}
use Rattle.print.proofs.digits.Goals as goal

pub returns : goal.returns
returns c = let f = c.format.ensures in
    (ap length (f.text ∙ decimal_printed c.args.n c.ranges.n.fits), omega (arith, f.fits))
