-- `leaves::Leaves::gather` meets its contract. Assumes nothing.
use Rattle.std.proofs.Common.{◌≡◌, ap, ◌∙◌, arith}
use Rattle.leaves.specs.Leaves.{gathered_to}
use Rattle.leaves.proofs.Leaves.gather.Goals as goal

pub returns : goal.returns
returns c = let z : c.loop-node.node-index ≡ 32 = omega arith in c.loop-node.invariant ∙ ap (gathered_to c.args.rows.now c.args.self.now) z
