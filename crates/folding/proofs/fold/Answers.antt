-- `folding::fold` meets its contract. The loop's invariant: the nodes from v on are folded. Assumes nothing.
use mathlib.Core.Path.{refl}
use Rattle.folding.specs.Fold.{folding, folded}
use Rattle.folding.proofs.FoldSteps.{fold-turn}
use native.Mathlib.Omega.{arith}
use Rattle.folding.proofs.fold.Goals as goal

pub loop-v-init : goal.loop-v-init
unfolding folded
loop-v-init c = refl

pub loop-v-preserved : goal.loop-v-preserved
loop-v-preserved c = let a = c.args in
    fold-turn a.width c.loop-v.v (folding a.rows.now a.words.now a.free) _ _ (omega arith) (omega arith) c.loop-v.invariant c.fold_node-place.ensures
