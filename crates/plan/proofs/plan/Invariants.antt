-- `plan::plan` meets its contract. The loop's invariant: the nodes before are planned, the others as they were. Assumes nothing.
use mathlib.Core.Path.{◌≡◌}
use mathlib.Core.List.{map, ◌++◌}
use lib.ListN.{take, drop}
use Rattle.plan.specs.Plan.{plan_node}
use Rattle.plan.proofs.plan.Given as goal

abbrev pub invariant-loop-node : goal.invariant-loop-node
invariant-loop-node l = l.rows ≡ map (plan_node l.leaves l.width) (take l.node-index l.initial.rows) ++ drop l.node-index l.initial.rows
