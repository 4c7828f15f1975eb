-- `kind_in`: the table is the list's numbers, by computing.
-- Assumes nothing.
use Rattle.pattern.proofs.Shapes.{number-cell}
use Rattle.pattern.proofs.alphabet.kind_in.Goals as goal

pub returns : goal.returns
returns c = number-cell c.args.row c.requires
