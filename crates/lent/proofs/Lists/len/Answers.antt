-- `len` meets its contract: as many lists as end places. Assumes nothing.
use Rattle.std.proofs.Common.{length, arith, ap}
use Rattle.stretches.proofs.Lent.{lists_length}
use Rattle.lent.proofs.Lists.len.Goals as goal

pub returns-clause-number : goal.returns-clause-number
returns-clause-number c = omega (arith, lists_length 0 c.self.inside.items.now c.self.inside.ends.now, ap length c.self.view_is)
