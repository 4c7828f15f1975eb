-- As many as were gone over. Assumes nothing.
use Rattle.std.proofs.Common.{◌≡◌, take}
use Rattle.leaves.proofs.Leaves.of.Given as goal

abbrev pub invariant-loop-leaf : goal.invariant-loop-leaf
invariant-loop-leaf l = l.leaves ≡ take l.leaf-index l.leaf-items
