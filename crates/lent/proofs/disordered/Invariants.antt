-- `disordered` meets its contract. The loop's invariant: the cut is right from the end before on, and the lists that are left are disordered where all are. Assumes nothing.
use Rattle.std.proofs.Common.{◌≡◌, false, length, drop}
use Rattle.stretches.specs.Lent.{lists_from}
use Rattle.meaning.specs.Refusals.{miscut_from, disordered}
use Rattle.lent.proofs.disordered.Given as goal

abbrev pub invariant-loop-end : goal.invariant-loop-end
invariant-loop-end l = (miscut_from l.at (drop l.end-index l.ends) (length l.items) ≡ false) × (disordered (lists_from 0 l.items l.ends) ≡ disordered (lists_from l.at l.items (drop l.end-index l.ends)))
