-- `seek::leaves::run` meets its contract. The loop's invariant: what is found from i on is what is found from p on.
-- Assumes nothing.
use mathlib.Core.Path.{◌≡◌}
use Prim.Native.Nat.{◌-◌, ◌≤◌}
use Rattle.stretches.specs.Front.{first_from}
use Rattle.stretches.specs.Lent.{part}
use Rattle.seek.proofs.leaves.run.Given as goal

abbrev pub invariant-loop-i : goal.invariant-loop-i
invariant-loop-i l = (l.i ≤ l.hi) × (first_from (part l.items l.p l.hi) l.t ≡ first_from (part l.items l.i l.hi) l.t)

abbrev pub decreases-loop-i : goal.decreases-loop-i
decreases-loop-i l = l.hi - l.i
