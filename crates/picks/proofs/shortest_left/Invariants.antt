-- `picks::shortest_left` meets its contract. The loop's invariant: a pass up to line t. Assumes nothing.
use Prim.Native.Nat.{◌-◌}
use Rattle.seek.specs.Source.{source_of}
use Rattle.picks.specs.inner.Passes.{held_in}
use Rattle.picks.proofs.Passes.{Pass}
use Rattle.picks.proofs.shortest_left.Given as goal

abbrev pub invariant-loop-f : goal.invariant-loop-f
invariant-loop-f l = Pass (source_of l.searched) l.searched.rows.now (held_in l.cells l.n) l.st l.best l.next l.t

abbrev pub decreases-loop-f : goal.decreases-loop-f
decreases-loop-f l = 65536 - l.t
