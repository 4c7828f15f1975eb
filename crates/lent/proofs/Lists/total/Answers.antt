-- `total` meets its contract: two items for each stretch. Assumes nothing.
use Rattle.std.proofs.Common.{arith, ap}
use Rattle.stretches.specs.Taking.{total}
use Rattle.lent.proofs.Cutting.{half}
use Rattle.lent.proofs.Lists.total.Goals as goal

pub returns : goal.returns
returns c = omega (arith, half c.self.inside.items.now c.self.inside.ends.now c.self.invariant.0, ap total c.self.view_is)
