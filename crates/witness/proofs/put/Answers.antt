-- `witness::put` meets its contract. Assumes nothing.
use native.Mathlib.Omega.{arith}
use Rattle.witness.proofs.Triples.{grown-full, grown-one}
use Rattle.witness.proofs.put.Goals as goal

pub returns-then-cells-n : goal.returns-then-cells-n
returns-then-cells-n c = grown-full _ c.args.n c.args.cells.now c.if-cells-n.true

pub returns : goal.returns
returns c = grown-one c.args.v c.args.x c.args.n c.args.cells.now (omega (arith, c.if-cells-n.false))
