-- `measure`: the invariants `Outer` and `Inner` hold for every tree that the nodes encode.
-- Assumes nothing.
use Rattle.std.proofs.Common.{◌<◌, ◌≤◌, suc}
use Rattle.pattern.specs.inner.Nodes.{Encodes}
use Rattle.pattern.proofs.Sizing.{Outer, Inner}
use Rattle.pattern.proofs.tree.measure.Given as goal

abbrev pub invariant-loop-seen : goal.invariant-loop-seen
invariant-loop-seen l = (l.c ≤ l.fn.table.count) × (l.w < l.c) × (l.d ≤ l.c) × ((e : Encodes l.fn.table) → Inner l.fn.table e (suc l.w) l.w l.c l.d l._seen l._seen-end)

abbrev pub invariant-loop-w : goal.invariant-loop-w
invariant-loop-w l = (e : Encodes l.fn.table) → Outer l.fn.table e l.w l.table l.depth
