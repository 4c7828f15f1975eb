-- `folding::fold` meets its contract. The loop's invariant: the nodes from v on are folded. Assumes nothing.
use mathlib.Core.Path.{◌≡◌}
use Prim.Native.Nat.{◌-◌}
use Rattle.folding.specs.Fold.{folding, folded}
use Rattle.folding.proofs.fold.Given as goal

abbrev pub invariant-loop-v : goal.invariant-loop-v
invariant-loop-v l = folding l.rows l.words l.place ≡ folded l.width (32 - l.v) (folding l.initial.rows l.initial.words l.free)
