-- `list_disordered` meets its contract. The loop's invariant: with the least start and end, and the numbers that are left, the list is as it was at first. Assumes nothing.
use Rattle.std.proofs.Common.{◌≡◌, length}
use Rattle.stretches.specs.Lent.{pairs}
use Rattle.meaning.specs.Refusals.{disordered_list}
use Rattle.lent.proofs.Ordering.{unrisen}
use Rattle.lent.proofs.list_disordered.Given as goal

abbrev pub invariant-loop-left : goal.invariant-loop-left
invariant-loop-left l = disordered_list (pairs l.list) ≡ unrisen l.a l.b (pairs l.left)

abbrev pub decreases-loop-left : goal.decreases-loop-left
decreases-loop-left l = length l.left
