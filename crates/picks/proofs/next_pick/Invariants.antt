-- `picks::next_pick` meets its contract. The loop's invariant: from pick i on it goes on with what it has. Assumes nothing.
use mathlib.Core.Path.{◌≡◌}
use lib.ListN.{drop}
use Rattle.stretches.specs.Front.{None}
use Rattle.picks.specs.inner.Passes.{held_in, next_of}
use Rattle.picks.proofs.next_pick.Given as goal

abbrev pub invariant-loop-i : goal.invariant-loop-i
invariant-loop-i l = next_of l.t l.r (drop l.i (held_in l.cells l.n)) ≡ next_of l.t None (held_in l.cells l.n)
