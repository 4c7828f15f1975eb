-- The loop of `walk::put_all`: n answers are written, and what is beyond them is kept. Assumes nothing.
use mathlib.Core.Path.{◌≡◌}
use Prim.Native.Nat.{◌*◌}
use lib.ListN.{drop}
use Rattle.seek.specs.Source.{source_of}
use Rattle.walk.proofs.Walk.{PutInv}
use Rattle.walk.proofs.put_all.Given as goal

abbrev pub invariant-loop-n : goal.invariant-loop-n
invariant-loop-n l = (drop (2 * l.n) l.cells ≡ drop (2 * l.n) l.initial.cells) × PutInv (source_of l.searched) l.searched.rows.now l.initial.st l.t0 l.initial.cells l.st l.t l.n l.cells
