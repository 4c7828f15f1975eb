-- `disordered` meets its contract: each end place lies inside the items. Assumes nothing.
use Rattle.std.proofs.Common.{arith}
use Rattle.lent.proofs.Cutting.{ends-inside}
use Rattle.lent.proofs.disordered.Goals as goal

pub slice_bounds-list_disordered-end : goal.slice_bounds-list_disordered-end
slice_bounds-list_disordered-end c = omega (arith, ends-inside c.args.items.now c.args.ends.now c.requires c.loop-end.end-index)
