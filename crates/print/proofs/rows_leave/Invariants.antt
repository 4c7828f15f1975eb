-- `print::rows_leave` meets its contract. The loop's invariant: what is left is short of the room by the lines so far. Assumes nothing.
use Rattle.std.proofs.Common.{◌≡◌, ◌+◌, length, drop}
use Rattle.print.specs.Print.{rows}
use Rattle.print.specs.inner.Cells.{stretches_of}
use Rattle.print.proofs.rows_leave.Given as goal

abbrev pub invariant-loop-start : goal.invariant-loop-start
invariant-loop-start l = l.left + length (rows (stretches_of l.cells)) ≡ l.room + length (rows (stretches_of (drop l.start-index l.cells)))
