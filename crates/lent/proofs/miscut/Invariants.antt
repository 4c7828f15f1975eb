-- `miscut` meets its contract. The loop's invariant: from the end before and the end places that are left, the cut is as it was at first. Assumes nothing.
use Rattle.std.proofs.Common.{◌≡◌, length, drop}
use Rattle.meaning.specs.Refusals.{miscut_from}
use Rattle.lent.proofs.miscut.Given as goal

abbrev pub invariant-loop-end : goal.invariant-loop-end
invariant-loop-end l = miscut_from 0 l.ends (length l.items) ≡ miscut_from l.at (drop l.end-index l.ends) (length l.items)
