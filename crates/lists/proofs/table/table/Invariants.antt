-- `lists::table::table` meets its contract. The loop's invariant: the operator's node and the first i lists are laid. Assumes nothing.
use mathlib.Core.Path.{◌≡◌}
use lib.ListN.{length}
use Rattle.stretches.specs.inner.Starts.{start_of}
use Rattle.lists.specs.inner.Table.{Laid}
use Rattle.lists.proofs.table.table.Given as goal

abbrev pub invariant-loop-i : goal.invariant-loop-i
invariant-loop-i l = (l.from ≡ start_of l.ends l.i) × Laid l.op l.k (length l.ends) l.ends l.i l.rows
