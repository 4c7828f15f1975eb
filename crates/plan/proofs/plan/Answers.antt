-- `plan::plan` meets its contract. Assumes nothing.
use Rattle.std.proofs.Common.{◌≡◌, ◌<◌, length, get_or, set, ap, ◌∙◌, arith, length-append, length-take, length-drop}
use lib.ListN.{length-map}
use Rattle.std.proofs.lemmas.List.{get_or_default}
use Rattle.std.proofs.lemmas.List.Edits.{map_over_more}
use Rattle.stretches.specs.declared.Node.{Node}
use Rattle.stretches.specs.Table.{no_node}
use Rattle.plan.specs.Plan.{plan_node}
use Rattle.plan.proofs.plan.Goals as goal

pub loop-node-preserved : goal.loop-node-preserved
loop-node-preserved c = let a = c.args in
    let l = c.loop-node in
    let h : l.node-index < length a.rows.now = omega arith in
    let long : length l.rows ≡ 32 = omega (arith, ap length l.invariant, length-append {A = Node}, length-map {A = Node} {B = Node}, length-take {A = Node}, length-drop {A = Node}) in
    ap (set l.rows l.node-index) c.plan_node.ensures
    ∙ map_over_more (plan_node a.leaves.now a.width) a.rows.now l.rows l.node-index (get_or l.rows l.node-index no_node) h l.invariant (get_or_default l.rows l.node-index no_node _ (omega arith))
