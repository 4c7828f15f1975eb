-- `leaves::Leaves::gather` meets its contract. The loop's invariant: the leaves of the first nodes are added. Assumes nothing.
use mathlib.Core.Path.{◌≡◌}
use Rattle.leaves.specs.Leaves.{gathered_to}
use Rattle.leaves.proofs.Leaves.gather.Given as goal

abbrev pub invariant-loop-node : goal.invariant-loop-node
invariant-loop-node l = l.self ≡ gathered_to l.rows l.initial.self l.node-index
